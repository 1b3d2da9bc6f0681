use denote.Param.Send.{sendable}
use Rattle.std.proofs.Crossing.{crosses}
use Rattle.turnstile.proofs.desk.Desk.TheSendSync as desk
use Rattle.turnstile.proofs.pass.Pass.TheSendSync as pass
use Rattle.sat_term.proofs.Crossing.{book_send}
use Rattle.sat_term.proofs.kits.work_two.Goals as goal

pub join-requires-send-F : goal.join-requires-send-F
join-requires-send-F g c κs within = search (book_send, desk.the_sync, pass.the_send, crosses, sendable) depth 20
