-- The bytes of answers: messages of a status, with a body in JSON.
use Rattle.std.specs.Prelude.{ℕ, Bool, ◌+◌, ◌/◌, ◌%◌, List, ◌++◌, map, codes, decimal, unwrap_or, ◌==◌, if◌then◌else◌}
use Rattle.hex.specs.Hex.{encode_lower}
use Rattle.order_limits.specs.Keys.{node_key, customer_key, serial_key}
use Rattle.order_limits.specs.Order.{action_of, limit_bytes}
use Rattle.order_limits.specs.Grant.{expiry_of, limit_at}
use Rattle.order_limits.specs.declared.grant.Grant.{Grant}
use Rattle.order_limits.specs.declared.limit.Action.TheVariants as actions
use Rattle.order_limits.specs.declared.limit.Limit.{Limit}
use Rattle.machine_calls.specs.declared.reply.Reply.{Reply}
use Rattle.machine_calls.specs.declared.reply.Reply.TheVariants as replies
use Rattle.sat_base.specs.declared.requests.Done.{Done}
use Rattle.sat_base.specs.declared.requests.Done.TheVariants as dones
use Rattle.sat_base.specs.declared.requests.Offer.{Offer}
use Rattle.sat_base.specs.declared.requests.Place.{Place}
use Rattle.month_text.specs.MonthText.{month_text}
use Rattle.tally_payout.specs.declared.amounts.Parts.{Parts}
use Rattle.tally_payout.specs.declared.amounts.Statement.{Statement}
use Rattle.serde_json.specs.Data.{Data, Members, boolean, string, array, object, member, no_members, put}
use Rattle.serde_json.specs.View.{items_of}
use Rattle.http_parts.specs.Messages.{message}
use Rattle.http_edge.specs.Refusals.{whole, refusal_data, refusal_status}
use Rattle.http_edge.specs.declared.errors.EdgeErr.{EdgeErr}
use Rattle.http_edge.specs.declared.errors.EdgeErr.TheVariants as edges

-- ---- replies

abbrev pub error_data : List ℕ → Data
error_data name = object (member (codes "error") (string name) no_members)

abbrev pub result_data : List ℕ → Data
result_data how = object (member (codes "result") (string how) no_members)

abbrev pub amount_data : ℕ → List ℕ → Data
amount_data amount how = object (member (codes "amount") (whole amount) (member (codes "result") (string how) no_members))

abbrev pub closed_data : Bool → List ℕ → Data
closed_data fresh month = object (member (codes "fresh") (boolean fresh) (member (codes "month") (string month) no_members))

abbrev pub rates_data : List ℕ → Data
rates_data month = object (member (codes "month") (string month) (member (codes "result") (string (codes "rates-set")) no_members))

abbrev pub segment_data : ℕ → List ℕ → Data
segment_data segment state = object (member (codes "segment") (whole segment) (member (codes "state") (string state) no_members))

abbrev pub node_data : List ℕ → ℕ → Data
node_data key node = object (member (codes "key") (string key) (member (codes "node") (whole node) no_members))

abbrev pub customer_data : ℕ → List ℕ → Data
customer_data customer key = object (member (codes "customer") (whole customer) (member (codes "key") (string key) no_members))

-- four numbers, of which the first is the highest byte
abbrev pub dotted : ℕ → List ℕ
dotted addr =
    decimal (addr / 16777216) ++ (codes "." ++ (decimal (addr / 65536 % 256) ++ (codes "." ++ (decimal (addr / 256 % 256)
    ++ (codes "." ++ decimal (addr % 256))))))

-- what is offered at each place
abbrev pub grant_of : Offer → Grant
grant_of offer = record {
  action = unwrap_or (action_of offer.action) actions.Get;
  serial = offer.serial;
  segment = offer.segment;
  limit = offer.piece_len;
  issued = offer.issued;
  customer = offer.customer;
}

abbrev pub limit_of : Offer → Place → Limit
limit_of offer place = limit_at (grant_of offer) (record { index = place.index; node = place.node })

abbrev pub spot_data : Place → List ℕ → Data
spot_data place limit =
    object (member (codes "addr") (string (dotted place.addr)) (member (codes "index") (whole place.index)
    (member (codes "limit") (string limit) (member (codes "node") (whole place.node.0)
    (member (codes "port") (whole place.port) no_members)))))

abbrev pub place_data : List ℕ → Offer → Place → Data
place_data secret offer place = spot_data place (encode_lower (limit_bytes secret (limit_of offer place)))

abbrev pub offer_data : List ℕ → Offer → Data
offer_data secret offer =
    object (member (codes "expires") (whole (expiry_of offer.issued)) (member (codes "issued") (whole offer.issued)
    (member (codes "offers") (array (items_of (map (place_data secret offer) offer.places)))
    (member (codes "piece_length") (whole offer.piece_len) (member (codes "segment") (whole offer.segment.0)
    (member (codes "serial") (whole offer.serial.0)
    (member (codes "serial_key") (string (encode_lower (serial_key secret offer.serial))) no_members)))))))

abbrev pub done_data : List ℕ → Done → Data
done_data secret (dones.NodeAdded node) = node_data (encode_lower (node_key secret node)) node.0
done_data secret (dones.CustomerAdded customer) = customer_data customer.0 (encode_lower (customer_key secret customer))
done_data secret (dones.Offer offer) = offer_data secret offer
done_data secret (dones.Committed segment) = segment_data segment.0 (codes "live")
done_data secret (dones.Deleted segment) = segment_data segment.0 (codes "deleted")

-- an amount of micro-dollars, as a text
abbrev pub money : ℕ → Data
money amount = string (decimal amount)

-- each is put at its place in the order of the keys
abbrev pub front_members : Statement → Members
front_members s =
    put (codes "percent") (whole s.percent) (put (codes "node") (whole s.node.0)
    (put (codes "month") (string (month_text s.month.0)) (put (codes "age") (whole s.age) no_members)))

abbrev pub with_parts : Parts → Members → Members
with_parts p members =
    put (codes "storage") (money p.storage) (put (codes "repair") (money p.repair) (put (codes "gross") (money p.gross)
    (put (codes "get") (money p.get) (put (codes "audit") (money p.audit) members))))

abbrev pub with_rest : Statement → Members → Members
with_rest s members =
    put (codes "returned") (money s.returned) (put (codes "pot") (money s.pot) (put (codes "paid") (money s.paid)
    (put (codes "held") (money s.held) members)))

abbrev pub statement_data : Statement → Data
statement_data s = object (with_rest s (with_parts s.parts (front_members s)))

-- no caller is told the other replies
abbrev pub no_answer : Data
no_answer = object no_members

abbrev pub reply_data : List ℕ → Reply → Data
reply_data secret (replies.Done done) = done_data secret done
reply_data secret (replies.Settled amount) = amount_data amount (codes "settled")
reply_data secret (replies.Again amount) = amount_data amount (codes "again")
reply_data secret replies.FreeSet = result_data (codes "set")
reply_data secret (replies.Statement statement) = statement_data statement
reply_data secret (replies.Closed month fresh) = closed_data fresh (month_text month.0)
reply_data secret replies.Stopping = result_data (codes "stopping")
reply_data secret (replies.Exiting node) = result_data (codes "exiting")
reply_data secret (replies.RatesSet month) = rates_data (month_text month.0)
reply_data secret (replies.Refused refusal) = refusal_data refusal
reply_data secret (replies.StoreFault before after) = error_data (codes "store")
reply_data secret replies.NoMemory = error_data (codes "memory")
reply_data secret _ = no_answer

abbrev pub reply_status : Reply → ℕ
reply_status (replies.Refused refusal) = refusal_status refusal
reply_status (replies.StoreFault before after) = 503
reply_status replies.NoMemory = 507
reply_status _ = 200

-- the bytes of a reply's answer
abbrev pub answer_text : List ℕ → Reply → List ℕ
answer_text secret reply = message (reply_status reply) (reply_data secret reply)

-- ---- refusals of the edge

-- the name of the field of a place
abbrev pub field_name : ℕ → List ℕ
field_name place =
    if place == 1 then codes "request" else (if place == 2 then codes "len" else (if place == 3 then codes "pieces" else
    (if place == 4 then codes "order" else (if place == 5 then codes "free" else (if place == 6 then codes "addr" else
    (if place == 7 then codes "port" else (if place == 8 then codes "month" else (if place == 9 then codes "get" else
    (if place == 10 then codes "audit" else (if place == 11 then codes "repair" else codes "storage"))))))))))

abbrev pub field_data : List ℕ → Data
field_data name = object (member (codes "error") (string (codes "field")) (member (codes "field") (string name) no_members))

abbrev pub edge_data : EdgeErr → Data
edge_data edges.Head = error_data (codes "head")
edge_data edges.Short = error_data (codes "short")
edge_data edges.HeadSize = error_data (codes "head-size")
edge_data edges.NoRoute = error_data (codes "no-route")
edge_data edges.BadMethod = error_data (codes "method")
edge_data edges.Key = error_data (codes "key")
edge_data edges.Transfer = error_data (codes "transfer")
edge_data edges.NoLength = error_data (codes "length")
edge_data edges.BadLength = error_data (codes "length")
edge_data edges.BodySize = error_data (codes "body-size")
edge_data edges.ShortBody = error_data (codes "short")
edge_data edges.Json = error_data (codes "json")
edge_data (edges.Field place) = field_data (field_name place)
edge_data edges.NoMemory = error_data (codes "memory")

abbrev pub edge_status : EdgeErr → ℕ
edge_status edges.Head = 400
edge_status edges.Short = 400
edge_status edges.HeadSize = 431
edge_status edges.NoRoute = 404
edge_status edges.BadMethod = 405
edge_status edges.Key = 401
edge_status edges.Transfer = 400
edge_status edges.NoLength = 411
edge_status edges.BadLength = 400
edge_status edges.BodySize = 413
edge_status edges.ShortBody = 400
edge_status edges.Json = 400
edge_status (edges.Field place) = 422
edge_status edges.NoMemory = 507

-- the bytes of the answer to an error of the edge
abbrev pub edge_text : EdgeErr → List ℕ
edge_text error = message (edge_status error) (edge_data error)
