-- A book crosses threads where its keeper does. The check finds this of a type by itself, but of none with a snapshot in it.
use denote.RattleType.{RattleType}
use denote.Param.Send.{IsSend, IsSync, sendable}
use Rattle.std.proofs.Crossing.{crosses, Vec-send}
use Rattle.std.specs.contracts.alloc.Global as Heap
use Rattle.std.specs.contracts.impls.GlobalAllocator.TheImpl.{ghosts}
use Rattle.std.specs.contracts.vec.Vec as Vec
use Rattle.order_limits.proofs.keys.Keys.TheSendSync as keys
use Rattle.order_limits.specs.contracts.keys.Keys as Keys
use Rattle.sat_sessions.proofs.lanes.Post.TheSendSync as post
use Rattle.sat_sessions.specs.contracts.lanes.Post as Post
use Rattle.sat_term.proofs.term.TermLog.TheSendSync as log
use Rattle.sat_term.specs.contracts.term.TermLog as TermLog
use Rattle.machine_calls.proofs.call.Call.TheSendSync as call
use Rattle.machine_calls.proofs.reply.Reply.TheSendSync as reply
use Rattle.machine_calls.specs.contracts.call.Call as Call
use Rattle.machine_calls.specs.contracts.reply.Reply as Reply
use Rattle.sat_base.proofs.items.Items.TheSendSync as items
use Rattle.sat_base.proofs.rows.Row.TheSendSync as row
use Rattle.sat_base.specs.declared.keeper.Keeper.{Ghosts}
use Rattle.sat_book.specs.contracts.book.Book as Book
use Rattle.sat_book.specs.contracts.book.Book.TheInside as Inside
use Rattle.sat_book.specs.contracts.opening.Opening as Opening
use Rattle.sat_book.specs.contracts.opening.Origin as Origin
use Rattle.machine_store.proofs.store.Store.TheSendSync as store
use Rattle.sat_machine.specs.contracts.machine.Core as Core
use Rattle.turnstile.proofs.entry.Entry.TheSendSync as entry
use Rattle.turnstile.specs.contracts.entry.Entry as Entry

core_send : IsSend Core.the_row
core_send = search (store.the_field_send, crosses, sendable) depth 20

opening_send : IsSend Opening.the_row
opening_send = search (items.the_send, row.the_send, crosses, sendable) depth 20

entry_send : IsSend (Entry.the_row Call.the_row Reply.the_row)
entry_send = entry.the_send Call.the_row Reply.the_row call.the_send reply.the_send

inside_send : (K : RattleType) (k : Ghosts K.Denot) → IsSend K → IsSend (Inside.the_row K k)
inside_send K k s = let c = core_send in let o = opening_send in let e = entry_send in search (crosses, sendable) depth 40 fits 4000

pub book_send : (K : RattleType) (k : Ghosts K.Denot) → IsSend K → IsSend (Book.the_row K k)
book_send K k s = let i = inside_send K k s in search sendable depth 20

pub keys_sync : IsSync Keys.the_row
keys_sync = keys.the_sync

pub posts_send : (L T W : RattleType) → IsSend L → IsSend T → IsSend W → IsSend (Vec.the_row (Post.the_row L T W) Heap.the_row ghosts)
posts_send L T W l t w = Vec-send (Post.the_row L T W) (post.the_send L T W l t w)

pub sheet_send : IsSend TermLog.the_row
sheet_send = log.the_send
