use Rattle.std.proofs.Common.{ℕ, List, subst, ◌∙◌, ap, refl}
use Rattle.std.specs.List.{Contains}
use Rattle.sat_base.specs.Outside.{raised}
use Rattle.stor_base.specs.Pieces.{Holding}
use Rattle.stor_base.proofs.mem_pieces.MemPieces.fails.Goals as goal

pub returns-clause-failing : goal.returns-clause-failing
returns-clause-failing c = (
  λ e. subst (λ (failing : List ℕ). Contains failing (raised c.args.self.now.calls))
      (c.deref.ensures.value ∙ ap (λ (holding : Holding). holding.failing) c.self.view_is)
      (subst (λ (calls : ℕ). Contains c.deref.result.now (raised calls)) (ap (λ (holding : Holding). holding.calls) c.self.view_is)
      (c.is_failing.ensures.failing.0 c.if-not-is_failing.false)),
  λ h. refl,
)
