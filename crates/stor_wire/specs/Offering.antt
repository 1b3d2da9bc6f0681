-- How an order is offered to the satellite.
use Rattle.std.specs.Prelude.{◌≡◌, ℕ, ◌≤◌, List, ◌++◌, length, take, codes, decimal, Option, Ok}
use Rattle.hex.specs.Hex.{encode_lower}
use Rattle.serde_json.specs.Data.{Data, string, object, member, no_members}
use Rattle.serde_json.specs.Written.{compact_text}
use Rattle.sat_base.specs.Outside.{with_end}
use Rattle.sat_base.specs.declared.ids.NodeId.{NodeId}
use Rattle.http_parts.specs.Messages.{crlf}
use Rattle.stor_base.specs.declared.settler.Offered.{Offered}
use Rattle.stor_base.specs.declared.settler.Offered.TheVariants as offers
use Rattle.stor_wire.specs.Settlements.{SettledBy}
use Rattle.stor_wire.specs.declared.settle.Account.{Account}
use Rattle.stor_wire.specs.declared.settled.Settlement.TheVariants.{Done, Later}

-- ---- the request

abbrev pub order_data : List ℕ → Data
order_data order = object (member (codes "order") (string (encode_lower order)) no_members)

-- the request line, the headers, and the empty line behind them
abbrev pub front_text : ℕ → NodeId → List ℕ → ℕ → List ℕ
front_text port node key size =
    codes "POST /n/" ++ decimal node.0 ++ codes "/settle HTTP/1.1" ++ crlf
    ++ codes "host: 127.0.0.1:" ++ decimal port ++ crlf
    ++ codes "x-key: " ++ key ++ crlf
    ++ codes "content-type: application/json" ++ crlf
    ++ codes "content-length: " ++ decimal size ++ crlf
    ++ codes "connection: close" ++ crlf ++ crlf

-- a node offers an order
abbrev pub settle_text : Account → List ℕ → List ℕ
settle_text account order =
    front_text account.port account.node (encode_lower account.key) (length (compact_text (order_data order))) ++ compact_text (order_data order)

-- ---- over a connection

-- an offer comes to what all bytes of the connection say
abbrev pub IsOffered : List ℕ → Offered → Type 0
IsOffered all offers.Done = SettledBy all (Ok Done)
IsOffered all offers.Later = SettledBy all (Ok Later)
IsOffered all offers.Failed = Unit {0}
IsOffered all offers.NoMemory = Unit {0}

-- some of the bytes were written, from their front
abbrev pub WroteSome : List ℕ → Option (List ℕ) → Option (List ℕ) → Type 0
WroteSome bytes old new = (n : ℕ) × (n ≤ length bytes) × (new ≡ with_end old (take n bytes))

-- the request was written, whole where the offer comes to something
abbrev pub SentFor : Account → List ℕ → Offered → Option (List ℕ) → Option (List ℕ) → Type 0
SentFor account order offers.Done old new = new ≡ with_end old (settle_text account order)
SentFor account order offers.Later old new = new ≡ with_end old (settle_text account order)
SentFor account order offers.Failed old new = WroteSome (settle_text account order) old new
SentFor account order offers.NoMemory old new = WroteSome (settle_text account order) old new
