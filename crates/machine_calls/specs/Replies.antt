-- Which replies are of steps that were made, and which of them callers are told.
use Rattle.std.specs.Prelude.{Bool, true, false, ◌||◌}
use Rattle.machine_calls.specs.declared.call.Call.{Call}
use Rattle.machine_calls.specs.declared.call.Call.TheVariants as calls
use Rattle.machine_calls.specs.declared.reply.Reply.{Reply}
use Rattle.machine_calls.specs.declared.reply.Reply.TheVariants as replies

-- a reply of a step that wasn't made: the store failed to keep it, or memory ran out
abbrev pub is_lost : Reply → Bool
is_lost (replies.StoreFault before after) = true
is_lost replies.NoMemory = true
is_lost _ = false

-- a call that a customer, a node or the operator asks; the others the satellite makes on its own account
abbrev pub is_request : Call → Bool
is_request (calls.Asked now words wish) = true
is_request (calls.Own now task) = false

-- a reply to what a customer, a node or the operator can ask; the others are to what the satellite asks on its own account
abbrev pub is_told : Reply → Bool
is_told (replies.Done done) = true
is_told (replies.Settled amount) = true
is_told (replies.Again amount) = true
is_told replies.FreeSet = true
is_told (replies.Statement statement) = true
is_told (replies.Closed month fresh) = true
is_told replies.Stopping = true
is_told (replies.Exiting node) = true
is_told (replies.RatesSet month) = true
is_told (replies.Refused cause) = true
is_told _ = false

-- a reply that can be answered to a caller
abbrev pub is_sayable : Reply → Bool
is_sayable reply = is_told reply || is_lost reply
