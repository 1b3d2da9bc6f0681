use Rattle.std.proofs.Common.{◌≡◌, ◌∙◌, ap}
use Rattle.stor_base.specs.Offers.{Settling}
use Rattle.stor_base.proofs.mem_settler.MemSettler.fails.Goals as goal

pub returns-clause-failing : goal.returns-clause-failing
returns-clause-failing c =
    let failing : c.deref.result.now ≡ c.args.self.now.failing = c.deref.ensures.value ∙ ap (λ (settler : Settling). settler.failing) c.self.view_is in
    let calls : c.self.inside.calls ≡ c.args.self.now.calls = ap (λ (settler : Settling). settler.calls) c.self.view_is in
    rw (← failing, ← calls) c.is_failing.ensures.failing
