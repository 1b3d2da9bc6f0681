use Rattle.http_edge.proofs.FloatLemmas.{reply_no_float}
use Rattle.http_edge.proofs.answers.answer.Goals as goal

pub message_of-requires : goal.message_of-requires
message_of-requires c = rw c.in_ok-value.ensures (reply_no_float c.args.keys.now c.args.reply.now)
