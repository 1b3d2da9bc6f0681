use Rattle.std.proofs.Common.{refl, ap, ◌∙◌}
use Rattle.node_rounds.specs.Parts.{Timed}
use Rattle.node_rounds.specs.Tally.{tally_view}
use Rattle.node_rounds.specs.Upkeep.{end_of}
use Rattle.node_rounds.proofs.Tallying.{tally_full, tally_none, tally_one}
use Rattle.node_rounds.proofs.tally.tally_round.Goals as goal

pub returns-then-is_err : goal.returns-then-is_err
returns-then-is_err g c = tally_none _ c.args.pass c.reserve.new.self (c.reserve.ensures.items ∙ c.new-places.ensures.items)

pub returns-in-Ok : goal.returns-in-Ok
returns-in-Ok g c =
    let view = tally_view g.T.Clock.coming g.I.Ticks.about in
    let kit = c.args.kit.now in
    let after = view (record { clock = c.now.new.self; ticks = kit.ticks }) in
    let timed : Timed (view kit) c.now.result after = record { timed = c.now.ensures; rest = refl } in
    tally_one (view kit) c.args.pass c.now.result c.of-now.result c.in-Ok.reply c.enter-pass.result.1 after c.enter-pass.result.0 c.reserve.new.self c.enter-pass.new.places c.end_of-end.result
    (c.reserve.ensures.items ∙ c.new-places.ensures.items) timed c.of-now.ensures c.in-Ok.is c.enter-pass.ensures (c.end_of-end.ensures ∙ ap end_of c.went_at.ensures)

pub returns-in-Err : goal.returns-in-Err
returns-in-Err g c =
    let view = tally_view g.T.Clock.coming g.I.Ticks.about in
    let kit = c.args.kit.now in
    let after = view (record { clock = c.now.new.self; ticks = kit.ticks }) in
    let timed : Timed (view kit) c.now.result after = record { timed = c.now.ensures; rest = refl } in
    tally_full (view kit) c.args.pass c.now.result c.of-now.result c.in-Err.ticket c.enter-pass.result.1 after c.enter-pass.result.0 c.reserve.new.self c.enter-pass.new.places
    (c.reserve.ensures.items ∙ c.new-places.ensures.items) timed c.of-now.ensures c.in-Err.is c.enter-pass.ensures
