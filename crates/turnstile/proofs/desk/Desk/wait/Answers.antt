use Rattle.std.proofs.Common.{rules, ap, sym, ◌∙◌}
use Rattle.turnstile.proofs.Steps.{looks}
use Rattle.turnstile.proofs.desk.Desk.wait.Goals as goal

pub load-now-requires : goal.load-now-requires
load-now-requires g c =
    let i = c.loop.invariant in
    let t = c.requires.ticket in (
      i.0 ∙ (c.requires.desk ∙ sym (ap (λ d. d.table) c.self.view_is)),
      search rules,
      looks g.V.Turn.base g.V.Turn.entries g.V.Turn.room g.V.Turn.lawful _ _ _ _ c.args.ticket c.loop.seat.me (search rules) (search rules) (search rules) (search rules),
    )
