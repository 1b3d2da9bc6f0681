-- What the links of a lane, all together, leave of the orders and of the pieces.
use Rattle.std.specs.Prelude.{◌≡◌, ◌⊎◌, ℕ, ◌+◌, ◌≤◌, true, ◌==◌, if◌then◌else◌, List, [], ◌∷◌, ◌++◌, length, slice_get, Option, Some, None, All, Contains}
use Rattle.sat_base.specs.Lane.{Links}
use Rattle.sat_base.specs.Outside.{About, with_end}
use Rattle.sat_base.specs.declared.ids.SegId.{SegId}
use Rattle.sat_base.specs.declared.ids.Serial.{Serial}
use Rattle.order_uses.specs.Calls.{IsSettled, served_of}
use Rattle.order_uses.specs.declared.take.Wanted.{Wanted}
use Rattle.stor_base.specs.Pieces.{held_at}
use Rattle.stor_base.specs.declared.pieces.Piece.{Piece}
use Rattle.stor_base.specs.declared.settler.OfferMade.{OfferMade}
use Rattle.stor_base.specs.declared.settler.Offered.TheVariants as offered
use Rattle.stor_wire.specs.Requests.{Asks}
use Rattle.stor_wire.specs.declared.request.Request.TheVariants.{Put}
use Rattle.stor_serve.specs.Offering.{serial_in}
use Rattle.stor_serve.specs.Views.{RunView}
use Rattle.stor_serve.specs.declared.served.Served.{Served}

-- ---- bytes under an order

-- the bytes that were asked for under a serial
abbrev pub asked_under : Serial → Option Wanted → ℕ
asked_under serial None = 0
asked_under serial (Some wanted) = if (serial_in wanted.order).0 == serial.0 then wanted.len else 0

-- and those that were counted, since the take was accepted
abbrev pub counted_under : Serial → Served → ℕ
counted_under serial served = if served.taken then asked_under serial served.wanted else 0

abbrev pub all_counted : Serial → List Served → ℕ
all_counted serial [] = 0
all_counted serial (served ∷ rest) = counted_under serial served + all_counted serial rest

-- what was served under each serial is what its row said at first, and the bytes of the links that were taken
abbrev pub CountsLinks : {K : Type 0} → RunView K → RunView K → List Served → Type 0
CountsLinks first last all = (serial : Serial) → served_of last.node.uses.rows serial ≡ served_of first.node.uses.rows serial + all_counted serial all

-- ---- orders that are settled

-- an order of the serial was offered, and that settled it
abbrev pub IsSettlingOf : Serial → OfferMade → Type 0
IsSettlingOf serial offer = (serial_in offer.order ≡ serial) × (offer.answer ≡ offered.Done)

-- it was by one of these offers
abbrev pub WasSettled : Serial → List OfferMade → Type 0
WasSettled serial made = (offer : OfferMade) × Contains made offer × IsSettlingOf serial offer

-- a serial that wasn't settled is so only by an offer, of those that were made since, that was answered by Done; and one that
-- was stays so. Behind each link at most one offer is made
pub record SettlesByOffers {K : Type 0} (first last : RunView K) (all : List Served) : Type 0 where
  pub made : List OfferMade
  pub few : length made ≤ length all
  pub told : last.settler.offers ≡ with_end first.settler.offers made
  pub by_offers : (serial : Serial) → IsSettled last.node.uses.rows serial → IsSettled first.node.uses.rows serial ⊎ WasSettled serial made
  pub stays : (serial : Serial) → IsSettled first.node.uses.rows serial → IsSettled last.node.uses.rows serial

-- ---- pieces

-- the link was taken to put this piece
abbrev pub PutsAt : SegId → ℕ → Served → Type 0
PutsAt segment index served = (wanted : Wanted) × (served.wanted ≡ Some wanted) × (served.taken ≡ true) × (wanted.put ≡ true) × (wanted.segment ≡ segment) × (wanted.index ≡ index)

-- none of these links was
abbrev pub NonePutsAt : SegId → ℕ → List Served → Type 0
NonePutsAt segment index all = All (λ served. PutsAt segment index served → ⊥) all

-- the bytes ask to put a piece with this body
abbrev pub AskFor : List ℕ → Option Wanted → List ℕ → Type 0
AskFor bytes asked body = (wanted : Wanted) × (asked ≡ Some wanted) × Asks bytes (Put wanted body)

-- so do all bytes of a link, where they are told, and else some that were read of it
abbrev pub AsksToPut : Option (List ℕ) → Option Wanted → List ℕ → Type 0
AsksToPut None asked body = (bytes : List ℕ) × AskFor bytes asked body
AsksToPut (Some bytes) asked body = AskFor bytes asked body

-- what is held of a piece: where no link was taken to put it, what was; and where the last that was is answered by 200, its body
pub record HoldsLast (segment : SegId) (index : ℕ) (old new : List Piece) (came : List About) (all : List Served) : Type 0 where
  pub untouched : NonePutsAt segment index all → held_at new segment index ≡ held_at old segment index
  pub last_put : (before after : List Served) (served : Served) → all ≡ before ++ served ∷ after → PutsAt segment index served
      → NonePutsAt segment index after → served.status ≡ 200
      → (link : About) × (slice_get came (length before) ≡ Some link) × (body : List ℕ) × AsksToPut link.left served.wanted body × (held_at new segment index ≡ Some body)

-- the connections that came since, where they are told, each of which was given back
abbrev pub CameSince : Option Links → Option Links → List About → Type 0
CameSince None new came = new ≡ None
CameSince (Some old) new came = (done : List About) × (length done ≡ length came) × (new ≡ Some (record { came = old.came ++ came; done = old.done ++ done }))

-- so it is of all pieces, where it is told what is held
abbrev pub HoldsIf : Option (List Piece) → Option (List Piece) → List About → List Served → Type 0
HoldsIf None new came all = new ≡ None
HoldsIf (Some old) new came all = (pieces : List Piece) × (new ≡ Some pieces) × ((segment : SegId) (index : ℕ) → HoldsLast segment index old pieces came all)

-- a link came for each that was served, and what is held is what these asked to put
abbrev pub HoldsPuts : {K : Type 0} → RunView K → RunView K → List Served → Type 0
HoldsPuts first last all = (came : List About) × (length came ≡ length all) × CameSince first.lane.links last.lane.links came × HoldsIf first.node.pieces.held last.node.pieces.held came all
