use Rattle.std.proofs.Common.{rules, refl, arith, subst, Option}
use denote.Param.{param}
use denote.Param.Send.{IsSend, IsSync, sendable}
use Rattle.std.proofs.Crossing.{crosses}
use Rattle.turnstile.proofs.desk.Desk.TheSendSync as desk_is
use Rattle.turnstile.proofs.pass.Pass.TheSendSync as pass_is
use Rattle.sat_term.proofs.Crossing.{book_send}
use Rattle.sat_term.proofs.term.Kits.TheSendSync as kits
use Rattle.sat_book.specs.Book.{opening_of}
use Rattle.sat_book.specs.declared.opening.Origin.{Origin}
use Rattle.sat_sessions.specs.Rounds.{RoundsRan}
use Rattle.sat_term.specs.Workers.{kits_view}
use Rattle.sat_term.proofs.Gathering.{all_done}
use Rattle.sat_term.proofs.Rows.{three_more}
use Rattle.sat_term.proofs.workers.work_all.Goals as goal

pub join-worked-requires-send-F : goal.join-worked-requires-send-F
join-worked-requires-send-F g c κs within =
    let k : IsSend (param 0 g.row.K) = search rules in
    let a : IsSend (param 4 g.row.A) = search rules in
    let b : IsSend (param 5 g.row.B) = search rules in
    let d : IsSend (param 6 g.row.C) = search rules in
    let h : IsSync (param 7 g.row.G) = search rules in
    let r : IsSync (param 8 g.row.R) = search rules in
    search (book_send, desk_is.the_sync, pass_is.the_send, kits.the_send, crosses, sendable) depth 20

pub returns : goal.returns
returns g c =
    let done = c.join-worked.ensures.second.1 in
    let rounds = c.join-worked.ensures.first in
    let p = c.part-pass.ensures.parted in
    let b = c.part-pass.ensures.bases in
    let audit = subst (λ (x : Option (Origin g.row.K.Denot)). RoundsRan (g.A.RoundKit.tells (opening_of x)) (g.A.RoundKit.view c.args.workers.kits.audit) c.part-pass.result.audit c.join-worked.result.0.audit.rounds.items c.join-worked.result.0.audit.end (g.A.RoundKit.view c.join-worked.result.0.audit.kit) c.join-worked.result.0.audit.pass) b.0 rounds.0 in
    let repair = subst (λ (x : Option (Origin g.row.K.Denot)). RoundsRan (g.B.RoundKit.tells (opening_of x)) (g.B.RoundKit.view c.args.workers.kits.repair) c.part-pass.result.repair c.join-worked.result.0.repair.rounds.items c.join-worked.result.0.repair.end (g.B.RoundKit.view c.join-worked.result.0.repair.kit) c.join-worked.result.0.repair.pass) b.1 rounds.1.0 in
    let tally = subst (λ (x : Option (Origin g.row.K.Denot)). RoundsRan (g.C.RoundKit.tells (opening_of x)) (g.C.RoundKit.view c.args.workers.kits.tally) c.part-pass.result.tally c.join-worked.result.0.tally.rounds.items c.join-worked.result.0.tally.end (g.C.RoundKit.view c.join-worked.result.0.tally.kit) c.join-worked.result.0.tally.pass) b.2 rounds.1.1 in
    let nums = three_more c.join-worked.result.1.log.numbers.items _ _ _ c.number-audit_number.result c.number-repair_number.result c.number-tally_number.result c.push_reserved.ensures.items c.push_reserved-2.ensures.items c.push_reserved-3.ensures.items in
    all_done (g.A.RoundKit.tells (opening_of c.args.pass.base)) (g.B.RoundKit.tells (opening_of c.args.pass.base)) (g.C.RoundKit.tells (opening_of c.args.pass.base))
    _ _ c.args.pass p.with_repair p.with_audit c.part-pass.result.lanes c.part-pass.result.tally c.part-pass.result.repair c.part-pass.result.audit _ _ _ _ _ _ _ _ _
    (kits_view g.A.RoundKit.view g.B.RoundKit.view g.C.RoundKit.view c.args.workers.kits) _ _ _ _
    c.number-audit_number.result c.number-repair_number.result c.number-tally_number.result
    (let w = c.requires.spare in omega arith) p.first p.tally_is p.tally_idle p.second p.repair_is p.repair_idle p.third p.audit_is p.audit_idle
    c.number-audit_number.ensures.number c.number-repair_number.ensures.number c.number-tally_number.ensures.number
    done audit repair tally c.join-with_audit.ensures c.join-with_repair.ensures c.join-all.ensures nums refl refl
