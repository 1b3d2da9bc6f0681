use Rattle.std.proofs.Common.{◌≡◌, ◌*◌, ◌∙◌, sym, ap}
use Rattle.std.specs.Prelude.{map}
use Rattle.repair_core.specs.Room.{cut_short}
use Rattle.repair_core.specs.Progress.{Progress}
use Rattle.repair_core.proofs.Whole.{cut_whole}
use Rattle.repair_core.proofs.rebuilder.Rebuilder.finish.Goals as goal

pub returns-clause-fresh : goal.returns-clause-fresh
returns-clause-fresh c =
    let held = c.self.inside in
    let all : held.made.done ≡ held.made.whole = ap (λ (p : Progress). p.done) c.self.view_is ∙ c.requires ∙ sym (ap (λ (p : Progress). p.count) c.self.view_is) in
    c.finish.ensures.fresh
    ∙ sym (cut_whole (held.made.whole * held.size) held.made.fresh.items c.self.invariant.made.long)
    ∙ ap (λ n. map (cut_short (n * held.size)) held.made.fresh.items) (sym all)
    ∙ ap (λ (p : Progress). p.fresh) c.self.view_is
