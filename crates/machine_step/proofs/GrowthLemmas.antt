-- What keeps a rule as the tables grow: time and numbers rise, and nodes and customers stay known.
use Rattle.std.proofs.Common.{◌≡◌, ℕ, suc, ◌+◌, ◌/◌, ◌<◌, ◌≤◌, ◌^◌, zero, true, not, List, [], ◌∷◌, length, Some, None, is_some, refl, ap, subst, ◌∙◌, arith}
use Rattle.std.specs.Prelude.{nat_lt, nat_le, slice_get}
use Rattle.std.proofs.lemmas.Bool.Decides.{nat_tests}
use Rattle.std.proofs.lemmas.Bool.{and_parts, and_from}
use Rattle.sat_base.specs.declared.ids.NodeId.{NodeId}
use Rattle.sat_base.specs.declared.ids.CustomerId.{CustomerId}
use Rattle.sat_base.specs.declared.records.At.{At}
use Rattle.sat_base.specs.declared.settings.Marks.{Marks}
use Rattle.sat_base.specs.declared.settings.Customer.{Customer}
use Rattle.sat_base.specs.declared.requests.Asked.{Asked}
use Rattle.sat_base.specs.declared.requests.Asked.TheVariants as asks
use Rattle.sat_base.specs.declared.requests.Done.{Done}
use Rattle.sat_base.specs.declared.requests.Done.TheVariants as dones
use Rattle.sat_base.specs.declared.requests.Offer.{Offer}
use Rattle.sat_base.specs.declared.requests.Place.{Place}
use Rattle.sat_base.specs.declared.requests.Kept.{Kept}
use Rattle.sat_base.specs.Ranks.{customer_rank}
use Rattle.rows.specs.Rows.{row_at}
use Rattle.rows.specs.Slots.{with_row}
use Rattle.node_registry.specs.declared.node.Node.{Node}
use Rattle.node_registry.specs.Registry.{node_rank, node_at}
use Rattle.segment_core.specs.Record.{SegmentRecord}
use Rattle.settlement.specs.declared.row.SettledRow.{SettledRow}
use Rattle.tally_payout.specs.declared.amounts.Tally.{Tally}
use Rattle.month_pay.specs.Months.{month_at}
use Rattle.month_pay.proofs.MonthFacts.{begun_is}
use Rattle.machine_step.specs.Tables.{Setup, is_no_size, customer_at}
use Rattle.machine_step.specs.Places.{addr_of}
use Rattle.machine_step.specs.Rules.{first_bad, is_known, has_begun, is_next_number, are_sound_marks, is_rated, breaks_node, breaks_customer, are_known, are_apart, are_below, is_sound_version, is_sound_segment, is_sound_settled, is_sound_tally, is_callers, is_sound_asked, is_sound_offer, is_sound_done, is_sound_kept}
use Rattle.machine_step.specs.Places.{subnets_of}
use Rattle.machine_step.proofs.RowLemmas.{row_at-with_row}
use Rattle.month_pay.proofs.ListFacts.{all-weaker}

-- ---- the marks

-- the greatest moment rises, and so do the next numbers, the next month and the least hour
pub record AreLater (old new : Marks) : Type 0 where
  pub time : old.time ≤ new.time
  pub segment : old.segment ≤ new.segment
  pub serial : old.serial ≤ new.serial
  pub plan : old.plan ≤ new.plan
  pub month : old.month.0 ≤ new.month.0
  pub hour : old.hour.0 ≤ new.hour.0

number-later : (old new : ℕ) → old ≤ new → new ≤ 2 ^ 63 → is_next_number old ≡ true → is_next_number new ≡ true
number-later old new le most sound = grind (arith, nat_tests, sound)

-- where the next month has begun, and the least hour is at most the next one
pub marks-later : (setup : Setup) (old new : Marks) → AreLater old new → new.month.0 ≤ month_at new.time → new.hour.0 ≤ new.time / 3600 + 1 → new.segment ≤ 2 ^ 63 → new.serial ≤ 2 ^ 63 → new.plan ≤ 2 ^ 63 → are_sound_marks setup old ≡ true → are_sound_marks setup new ≡ true
marks-later setup old new later begun hour segment serial plan sound =
    let first = and_parts (nat_le setup.first_month old.month.0) _ sound in
    let second = and_parts (has_begun old.month.0 old.time) _ first.1 in
    let third = and_parts (nat_le old.hour.0 (old.time / 3600 + 1)) _ second.1 in
    let fourth = and_parts (is_next_number old.segment) _ third.1 in
    let fifth = and_parts (is_next_number old.serial) (is_next_number old.plan) fourth.1 in
    let low = first.0 in
    let rises = later.month in
    let now : nat_le new.month.0 (month_at new.time) ≡ true = grind (arith, nat_tests, begun) in
    and_from _ _ (grind (arith, nat_tests, low, rises))
    (and_from _ _ (begun_is new.month.0 new.time ∙ now)
    (and_from _ _ (grind (arith, nat_tests, hour))
    (and_from _ _ (number-later old.segment new.segment later.segment segment fourth.0)
    (and_from _ _ (number-later old.serial new.serial later.serial serial fifth.0) (number-later old.plan new.plan later.plan plan fifth.1)))))

pub plan-most : (setup : Setup) (marks : Marks) → are_sound_marks setup marks ≡ true → marks.plan ≤ 2 ^ 63
plan-most setup marks sound = grind (arith, nat_tests, sound)

-- the next numbers are in range
pub plan-some : (setup : Setup) (marks : Marks) → are_sound_marks setup marks ≡ true → 1 ≤ marks.plan
plan-some setup marks sound = grind (arith, nat_tests, sound)

pub segment-most : (setup : Setup) (marks : Marks) → are_sound_marks setup marks ≡ true → marks.segment ≤ 2 ^ 63
segment-most setup marks sound = grind (arith, nat_tests, sound)

pub serial-most : (setup : Setup) (marks : Marks) → are_sound_marks setup marks ≡ true → marks.serial ≤ 2 ^ 63
serial-most setup marks sound = grind (arith, nat_tests, sound)

-- ---- nodes and customers

-- known nodes stay known, at their addresses
pub record Extends (old new : List Node) : Type 0 where
  pub known : (id : NodeId) → is_known old id ≡ true → is_known new id ≡ true
  pub same : (id : NodeId) → is_known old id ≡ true → addr_of (node_at new id) ≡ addr_of (node_at old id)

pub extends_self : (nodes : List Node) → Extends nodes nodes
extends_self nodes = record { known = λ id h. h; same = λ id h. refl }

-- a node more
pub extends_next : (nodes : List Node) (node : Node) → node_at nodes node.id ≡ None → Extends nodes (with_row node_rank nodes node)
extends_next nodes node none = record {
  known = λ id h. grind (arith, nat_tests, row_at-with_row node_rank nodes node id.0, h);
  same = λ id h. grind (arith, nat_tests, row_at-with_row node_rank nodes node id.0, h, none);
}

-- a node in place of one with its address
pub extends_set : (nodes : List Node) (node found : Node) → node_at nodes node.id ≡ Some found → node.addr ≡ found.addr → Extends nodes (with_row node_rank nodes node)
extends_set nodes node found at same = record {
  known = λ id h. grind (arith, nat_tests, row_at-with_row node_rank nodes node id.0, h);
  same = λ id h. grind (arith, nat_tests, row_at-with_row node_rank nodes node id.0, h, at, same);
}

abbrev pub StayKnown : List Customer → List Customer → Type 0
StayKnown old new = (id : ℕ) → is_some (customer_at old id) ≡ true → is_some (customer_at new id) ≡ true

pub customer_more : (customers : List Customer) (customer : Customer) → StayKnown customers (with_row customer_rank customers customer)
customer_more customers customer id h = grind (arith, nat_tests, row_at-with_row customer_rank customers customer id, h)

-- ---- rule 2

pub nodes-later : (setup : Setup) (old new : Marks) → old.time ≤ new.time → (rows : List Node) (i : ℕ) → first_bad (breaks_node setup old) i rows ≡ None → first_bad (breaks_node setup new) i rows ≡ None
nodes-later setup old new le [] i h = refl
nodes-later setup old new le (row ∷ rows) i h = grind (arith, nat_tests, h, nodes-later setup old new le rows (suc i))

module _ (setup : Setup) (marks : Marks) where
  -- the next node
  pub nodes-next : (row : Node) (rows : List Node) (i : ℕ) → first_bad (breaks_node setup marks) i rows ≡ None → row.id.0 ≡ suc (i + length rows) → i + length rows < setup.caps.nodes → is_rated row ≡ true → row.joined ≤ marks.time
      → first_bad (breaks_node setup marks) i (with_row node_rank rows row) ≡ None
  nodes-next row [] i h id below rated joined = grind (arith, nat_tests, rated)
  nodes-next row (first ∷ rows) i h id below rated joined = grind (arith, nat_tests, h, rated, nodes-next row rows (suc i))

  -- no id behind a place is as small
  pub ids_above : (rows : List Node) (i k : ℕ) (found : Node) → first_bad (breaks_node setup marks) i rows ≡ None → row_at node_rank rows k ≡ Some found → i < k
  ids_above [] i k found h at = cc
  ids_above (first ∷ rows) i k found h at = grind (arith, nat_tests, h, at, ids_above rows (suc i) k found)

  -- a node in place of one that is there
  pub nodes-set : (row found : Node) (rows : List Node) (i : ℕ) → first_bad (breaks_node setup marks) i rows ≡ None → row_at node_rank rows row.id.0 ≡ Some found → is_rated row ≡ is_rated found → row.joined ≡ found.joined
      → first_bad (breaks_node setup marks) i (with_row node_rank rows row) ≡ None
  nodes-set row found [] i h at rated joined = cc
  nodes-set row found (first ∷ rows) i h at rated joined = grind (arith, nat_tests, h, at, rated, joined, nodes-set row found rows (suc i), ids_above rows (suc i) row.id.0 found)

  -- no node has the next id
  pub none_next : (rows : List Node) (i k : ℕ) → first_bad (breaks_node setup marks) i rows ≡ None → i + length rows < k → row_at node_rank rows k ≡ None
  none_next [] i k h lt = refl
  none_next (first ∷ rows) i k h lt = grind (arith, nat_tests, h, lt, none_next rows (suc i) k)

  -- the node at a place has the id after it, and is found by it
  id-got : (rows : List Node) (i k : ℕ) (node : Node) → first_bad (breaks_node setup marks) i rows ≡ None → slice_get rows k ≡ Some node → node.id.0 ≡ suc (i + k)
  id-got [] i k node h got = cc
  id-got (first ∷ rows) i zero node h got = let same : first ≡ node = cc in subst (λ (x : Node). x.id.0 ≡ suc (i + 0)) same (grind (arith, nat_tests, h))
  id-got (first ∷ rows) i (suc k) node h got = let rest : first_bad (breaks_node setup marks) (suc i) rows ≡ None = grind (arith, nat_tests, h) in omega (arith, id-got rows (suc i) k node rest got)

  pub found-got : (rows : List Node) (i k : ℕ) (node : Node) → first_bad (breaks_node setup marks) i rows ≡ None → slice_get rows k ≡ Some node → row_at node_rank rows node.id.0 ≡ Some node
  found-got [] i k node h got = cc
  found-got (first ∷ rows) i zero node h got = let same : first ≡ node = cc in grind (arith, nat_tests, same)
  found-got (first ∷ rows) i (suc k) node h got =
      let rest : first_bad (breaks_node setup marks) (suc i) rows ≡ None = grind (arith, nat_tests, h) in
      let id = id-got rows (suc i) k node rest got in
      let here : first.id.0 ≡ suc i = grind (arith, nat_tests, h) in
      grind (arith, nat_tests, id, here, found-got rows (suc i) k node rest got)

-- ---- rule 3

pub customers-later : (setup : Setup) (old new : Marks) → old.time ≤ new.time → (rows : List Customer) (i : ℕ) → first_bad (breaks_customer setup old) i rows ≡ None → first_bad (breaks_customer setup new) i rows ≡ None
customers-later setup old new le [] i h = refl
customers-later setup old new le (row ∷ rows) i h = grind (arith, nat_tests, h, customers-later setup old new le rows (suc i))

-- the next customer
pub customers-next : (setup : Setup) (marks : Marks) (row : Customer) (rows : List Customer) (i : ℕ) → first_bad (breaks_customer setup marks) i rows ≡ None → row.id.0 ≡ suc (i + length rows) → i + length rows < setup.caps.customers → row.added ≤ marks.time
    → first_bad (breaks_customer setup marks) i (with_row customer_rank rows row) ≡ None
customers-next setup marks row [] i h id below added = grind (arith, nat_tests)
customers-next setup marks row (first ∷ rows) i h id below added = grind (arith, nat_tests, h, customers-next setup marks row rows (suc i))

-- ---- rules 4, 5 and 10

pub known-later : (old new : List Node) → Extends old new → (pieces : List At) → are_known old pieces ≡ true → are_known new pieces ≡ true
known-later old new extends pieces known = all-weaker (λ piece. is_known old piece.node) (λ piece. is_known new piece.node) (λ piece h. extends.known piece.node h) pieces known

pub subnets-later : (old new : List Node) → Extends old new → (pieces : List At) → are_known old pieces ≡ true → subnets_of new pieces ≡ subnets_of old pieces
subnets-later old new extends [] known = refl
subnets-later old new extends (piece ∷ pieces) known =
    let parts = and_parts _ _ known in
    let here : addr_of (node_at new piece.node) / 256 ≡ addr_of (node_at old piece.node) / 256 = ap (λ (addr : ℕ). addr / 256) (extends.same piece.node parts.0) in
    ap (λ (x : ℕ). x ∷ subnets_of new pieces) here ∙ ap (λ (xs : List ℕ). addr_of (node_at old piece.node) / 256 ∷ xs) (subnets-later old new extends pieces parts.1)

-- the facts of a sound segment, by name
pub record IsFine (setup : Setup) (marks : Marks) (nodes : List Node) (customers : List Customer) (segment : SegmentRecord) : Type 0 where
  pub below : nat_lt segment.id.0 marks.segment ≡ true
  pub owned : is_some (customer_at customers segment.customer.0) ≡ true
  pub sized : not (is_no_size setup segment.len) ≡ true
  pub known : are_known nodes segment.pieces ≡ true
  pub apart : are_apart (subnets_of nodes segment.pieces) ≡ true
  pub indexed : are_below setup.n segment.pieces ≡ true
  pub version : is_sound_version setup marks segment ≡ true

pub fine : (setup : Setup) (marks : Marks) (nodes : List Node) (customers : List Customer) (segment : SegmentRecord) → is_sound_segment setup marks nodes customers segment ≡ true → IsFine setup marks nodes customers segment
fine setup marks nodes customers segment sound =
    let first = and_parts _ _ sound in
    let second = and_parts _ _ first.1 in
    let third = and_parts _ _ second.1 in
    let fourth = and_parts _ _ third.1 in
    let fifth = and_parts _ _ fourth.1 in
    let sixth = and_parts _ _ fifth.1 in
    record { below = first.0; owned = second.0; sized = third.0; known = fourth.0; apart = fifth.0; indexed = sixth.0; version = sixth.1 }

pub sound-fine : (setup : Setup) (marks : Marks) (nodes : List Node) (customers : List Customer) (segment : SegmentRecord) → IsFine setup marks nodes customers segment → is_sound_segment setup marks nodes customers segment ≡ true
sound-fine setup marks nodes customers segment f =
    and_from _ _ f.below (and_from _ _ f.owned (and_from _ _ f.sized (and_from _ _ f.known (and_from _ _ f.apart (and_from _ _ f.indexed f.version)))))

-- the marks, nodes and customers before and after
pub record Grows (old new : Marks) (nodes nodes' : List Node) (customers customers' : List Customer) : Type 0 where
  pub later : AreLater old new
  pub extends : Extends nodes nodes'
  pub stay : StayKnown customers customers'

module _ (setup : Setup) (old new : Marks) (nodes nodes' : List Node) (customers customers' : List Customer) (grows : Grows old new nodes nodes' customers customers') where
  version-later : (segment : SegmentRecord) → is_sound_version setup old segment ≡ true → is_sound_version setup new segment ≡ true
  version-later segment sound = let plan = grows.later.plan in grind (arith, nat_tests, sound, plan)

  pub segment-later : (segment : SegmentRecord) → is_sound_segment setup old nodes customers segment ≡ true → is_sound_segment setup new nodes' customers' segment ≡ true
  segment-later segment sound =
      let f = fine setup old nodes customers segment sound in
      let rises = grows.later.segment in
      sound-fine setup new nodes' customers' segment (record {
        below = grind (arith, nat_tests, f.below, rises);
        owned = grows.stay segment.customer.0 f.owned;
        sized = f.sized;
        known = known-later nodes nodes' grows.extends segment.pieces f.known;
        apart = ap are_apart (subnets-later nodes nodes' grows.extends segment.pieces f.known) ∙ f.apart;
        indexed = f.indexed;
        version = version-later segment f.version;
      })

  pub tally-later : (row : Tally) → is_sound_tally old nodes row ≡ true → is_sound_tally new nodes' row ≡ true
  tally-later row sound =
      let parts = and_parts (is_known nodes row.node) _ sound in
      let more = and_parts (nat_lt row.hour.0 old.hour.0) _ parts.1 in
      let early = more.0 in
      let rises = grows.later.hour in
      and_from _ _ (grows.extends.known row.node parts.0) (and_from _ _ (grind (arith, nat_tests, early, rises)) more.1)

  pub settled-later : (row : SettledRow) → is_sound_settled old nodes row ≡ true → is_sound_settled new nodes' row ≡ true
  settled-later row sound =
      let parts = and_parts _ _ sound in
      let rises = grows.later.time in
      and_from _ _ (grows.extends.known row.node parts.0) (grind (arith, nat_tests, parts.1, rises))

  callers-later : (caller : CustomerId) (asked : Asked) → is_callers customers caller asked ≡ true → is_callers customers' caller asked ≡ true
  callers-later caller (asks.Node addr port free) h = h
  callers-later caller asks.Customer h = h
  callers-later caller (asks.Begin len) h = grows.stay caller.0 h
  callers-later caller (asks.Commit segment indexes) h = grows.stay caller.0 h
  callers-later caller (asks.Get segment) h = grows.stay caller.0 h
  callers-later caller (asks.Delete segment) h = grows.stay caller.0 h

  numbered-later : (id : ℕ) → nat_lt id old.segment ≡ true → nat_lt id new.segment ≡ true
  numbered-later id h = let rises = grows.later.segment in grind (arith, nat_tests, h, rises)

  asked-later : (asked : Asked) → is_sound_asked old asked ≡ true → is_sound_asked new asked ≡ true
  asked-later (asks.Node addr port free) h = h
  asked-later asks.Customer h = h
  asked-later (asks.Begin len) h = h
  asked-later (asks.Commit segment indexes) h = numbered-later segment.0 h
  asked-later (asks.Get segment) h = numbered-later segment.0 h
  asked-later (asks.Delete segment) h = numbered-later segment.0 h

  offer-later : (caller : CustomerId) (offer : Offer) → is_sound_offer old nodes caller offer ≡ true → is_sound_offer new nodes' caller offer ≡ true
  offer-later caller offer sound =
      let first = and_parts _ _ sound in
      let second = and_parts _ _ first.1 in
      let third = and_parts _ _ second.1 in
      let fourth = and_parts _ _ third.1 in
      let drawn : nat_lt offer.serial.0 old.serial ≡ true = second.0 in
      let issued : nat_le offer.issued old.time ≡ true = fourth.1 in
      let serial = grows.later.serial in
      let time = grows.later.time in
      and_from _ _ (all-weaker (λ (place : Place). is_known nodes place.node) (λ place. is_known nodes' place.node) (λ place h. grows.extends.known place.node h) offer.places first.0)
      (and_from _ _ (grind (arith, nat_tests, drawn, serial))
      (and_from _ _ (numbered-later offer.segment.0 third.0) (and_from _ _ fourth.0 (grind (arith, nat_tests, issued, time)))))

  done-later : (caller : CustomerId) (asked : Asked) (done : Done) → is_sound_done old nodes caller asked done ≡ true → is_sound_done new nodes' caller asked done ≡ true
  done-later caller (asks.Node addr port free) (dones.NodeAdded node) h = grows.extends.known node h
  done-later caller (asks.Node addr port free) (dones.CustomerAdded customer) h = cc
  done-later caller (asks.Node addr port free) (dones.Offer offer) h = cc
  done-later caller (asks.Node addr port free) (dones.Committed live) h = cc
  done-later caller (asks.Node addr port free) (dones.Deleted gone) h = cc
  done-later caller asks.Customer (dones.NodeAdded node) h = cc
  done-later caller asks.Customer (dones.CustomerAdded customer) h = refl
  done-later caller asks.Customer (dones.Offer offer) h = cc
  done-later caller asks.Customer (dones.Committed live) h = cc
  done-later caller asks.Customer (dones.Deleted gone) h = cc
  done-later caller (asks.Begin len) (dones.NodeAdded node) h = cc
  done-later caller (asks.Begin len) (dones.CustomerAdded customer) h = cc
  done-later caller (asks.Begin len) (dones.Offer offer) h = let parts = and_parts _ _ h in and_from _ _ parts.0 (offer-later caller offer parts.1)
  done-later caller (asks.Begin len) (dones.Committed live) h = cc
  done-later caller (asks.Begin len) (dones.Deleted gone) h = cc
  done-later caller (asks.Commit segment indexes) (dones.NodeAdded node) h = cc
  done-later caller (asks.Commit segment indexes) (dones.CustomerAdded customer) h = cc
  done-later caller (asks.Commit segment indexes) (dones.Offer offer) h = cc
  done-later caller (asks.Commit segment indexes) (dones.Committed live) h = numbered-later live.0 h
  done-later caller (asks.Commit segment indexes) (dones.Deleted gone) h = cc
  done-later caller (asks.Get segment) (dones.NodeAdded node) h = cc
  done-later caller (asks.Get segment) (dones.CustomerAdded customer) h = cc
  done-later caller (asks.Get segment) (dones.Offer offer) h = let parts = and_parts _ _ h in and_from _ _ parts.0 (offer-later caller offer parts.1)
  done-later caller (asks.Get segment) (dones.Committed live) h = cc
  done-later caller (asks.Get segment) (dones.Deleted gone) h = cc
  done-later caller (asks.Delete segment) (dones.NodeAdded node) h = cc
  done-later caller (asks.Delete segment) (dones.CustomerAdded customer) h = cc
  done-later caller (asks.Delete segment) (dones.Offer offer) h = cc
  done-later caller (asks.Delete segment) (dones.Committed live) h = cc
  done-later caller (asks.Delete segment) (dones.Deleted gone) h = numbered-later gone.0 h

  pub kept-later : (kept : Kept) → is_sound_kept old nodes customers kept ≡ true → is_sound_kept new nodes' customers' kept ≡ true
  kept-later kept sound =
      let first = and_parts _ _ sound in
      let second = and_parts _ _ first.1 in
      and_from _ _ (callers-later kept.caller kept.asked first.0)
      (and_from _ _ (asked-later kept.asked second.0) (done-later kept.caller kept.asked kept.done second.1))
