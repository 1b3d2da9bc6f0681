-- The bytes of a node's answers: a status line, three headers, and a body, in JSON but for the bytes of a piece.
use Rattle.std.specs.Prelude.{ℕ, List, ◌++◌, codes, decimal, length}
use Rattle.serde_json.specs.Data.{Data, number, unsigned, string, object, member, no_members}
use Rattle.http_parts.specs.Messages.{crlf, message}
use Rattle.order_uses.specs.declared.take.TakeErr.{TakeErr}
use Rattle.order_uses.specs.declared.take.TakeErr.TheVariants as errs
use Rattle.stor_wire.specs.declared.answers.Answer.{Answer}
use Rattle.stor_wire.specs.declared.answers.Answer.TheVariants as answers

abbrev pub error_data : List ℕ → Data
error_data name = object (member (codes "error") (string name) no_members)

abbrev pub refusal_data : List ℕ → ℕ → Data
refusal_data name n = object (member (codes "error") (string name) (member (codes "number") (number (unsigned n)) no_members))

abbrev pub kept_data : Data
kept_data = object (member (codes "result") (string (codes "kept")) no_members)

-- why nothing was taken: a numbered refusal, or the node's own failure
abbrev pub taken_data : TakeErr → Data
taken_data (errs.Length got) = refusal_data (codes "length") 1
taken_data (errs.Version got) = refusal_data (codes "version") 2
taken_data (errs.Action got) = refusal_data (codes "action") 3
taken_data errs.LimitTag = refusal_data (codes "limit-tag") 4
taken_data (errs.OtherNode limit_node) = refusal_data (codes "other-node") 6
taken_data errs.OtherPiece = refusal_data (codes "other-piece") 40
taken_data (errs.WrongAction action) = refusal_data (codes "wrong-action") 41
taken_data (errs.Expired expires) = refusal_data (codes "expired") 42
taken_data (errs.OverLimit limit) = refusal_data (codes "over-limit") 9
taken_data errs.OtherLimit = refusal_data (codes "other-limit") 43
taken_data errs.OrderDone = refusal_data (codes "order-done") 44
taken_data (errs.Spent left) = refusal_data (codes "spent") 45
taken_data (errs.UsesFull cap) = refusal_data (codes "uses-full") 46
taken_data (errs.Fault before after) = error_data (codes "store")
taken_data errs.NoMemory = error_data (codes "memory")

abbrev pub taken_status : TakeErr → ℕ
taken_status (errs.Fault before after) = 503
taken_status errs.NoMemory = 507
taken_status _ = 403

abbrev pub answer_status : Answer → ℕ
answer_status answers.Kept = 200
answer_status (answers.Share bytes) = 200
answer_status answers.Missing = 404
answer_status (answers.Refused err) = taken_status err
answer_status answers.Head = 400
answer_status answers.Store = 503
answer_status answers.NoMemory = 507

-- the answer with bytes of a piece
abbrev pub share_text : List ℕ → List ℕ
share_text bytes =
    codes "HTTP/1.1 200 OK" ++ crlf ++ codes "content-type: application/octet-stream" ++ crlf
    ++ codes "content-length: " ++ decimal (length bytes) ++ crlf
    ++ codes "connection: close" ++ crlf ++ crlf ++ bytes

-- the bytes of an answer
abbrev pub answer_text : Answer → List ℕ
answer_text answers.Kept = message 200 kept_data
answer_text (answers.Share bytes) = share_text bytes
answer_text answers.Missing = message 404 (error_data (codes "missing"))
answer_text (answers.Refused err) = message (taken_status err) (taken_data err)
answer_text answers.Head = message 400 (error_data (codes "head"))
answer_text answers.Store = message 503 (error_data (codes "store"))
answer_text answers.NoMemory = message 507 (error_data (codes "memory"))
