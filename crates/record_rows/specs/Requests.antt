-- Kept requests as bytes.
use Rattle.std.specs.Prelude.{ℕ, List}
use Rattle.sat_base.specs.declared.requests.Place.{Place}
use Rattle.sat_base.specs.declared.requests.Offer.{Offer}
use Rattle.sat_base.specs.declared.requests.Asked.{Asked}
use Rattle.sat_base.specs.declared.requests.Asked.TheVariants as asks
use Rattle.sat_base.specs.declared.requests.Done.{Done}
use Rattle.sat_base.specs.declared.requests.Done.TheVariants as dones
use Rattle.sat_base.specs.declared.requests.Kept.{Kept}
use Rattle.record_rows.specs.Numbers.{be8, be16, be32, be64, listed, ◌‖◌}

-- what was asked: its kind, and its fields
abbrev pub asked_bytes : Asked → List ℕ
asked_bytes (asks.Node addr port free) = be8 1 ‖ be32 addr ‖ be16 port ‖ be64 free
asked_bytes asks.Customer = be8 2
asked_bytes (asks.Begin len) = be8 3 ‖ be64 len
asked_bytes (asks.Commit segment indexes) = be8 4 ‖ be64 segment.0 ‖ listed be8 indexes
asked_bytes (asks.Get segment) = be8 5 ‖ be64 segment.0
asked_bytes (asks.Delete segment) = be8 6 ‖ be64 segment.0

abbrev pub place_bytes : Place → List ℕ
place_bytes place = be8 place.index ‖ be32 place.node.0 ‖ be32 place.addr ‖ be16 place.port

abbrev pub offer_bytes : Offer → List ℕ
offer_bytes offer =
    be32 offer.customer.0 ‖ be64 offer.segment.0 ‖ be64 offer.serial.0 ‖ be8 offer.action
    ‖ be64 offer.piece_len ‖ be64 offer.issued ‖ listed place_bytes offer.places

-- what was done: its kind, and its fields
abbrev pub done_bytes : Done → List ℕ
done_bytes (dones.NodeAdded node) = be8 1 ‖ be32 node.0
done_bytes (dones.CustomerAdded customer) = be8 2 ‖ be32 customer.0
done_bytes (dones.Offer offer) = be8 3 ‖ offer_bytes offer
done_bytes (dones.Committed segment) = be8 4 ‖ be64 segment.0
done_bytes (dones.Deleted segment) = be8 5 ‖ be64 segment.0

abbrev pub kept_body : Kept → List ℕ
kept_body kept = be64 kept.number ‖ asked_bytes kept.asked ‖ done_bytes kept.done
