-- Changes that leave each containment its node and its piece.
use Rattle.std.proofs.Common.{◌≡◌, ℕ, Bool, true, false, not, List, [], ◌∷◌, ◌++◌, Option, Some, None, append-nil, refl, sym, ap, ◌∙◌, arith}
use Rattle.std.specs.Prelude.{◌==◌, ◌&&◌, if◌then◌else◌, map, filter}
use Rattle.std.specs.List.{list_all, list_any}
use Rattle.std.proofs.lemmas.Bool.Decides.{nat_tests}
use Rattle.std.proofs.lemmas.Bool.{not-false, or_parts, and_parts, and_from}
use Rattle.sat_base.specs.declared.ids.SegId.{SegId}
use Rattle.sat_base.specs.declared.records.At.{At}
use Rattle.sat_base.specs.declared.records.Containment.{Containment}
use Rattle.sat_base.specs.declared.records.Key.TheVariants as keys
use Rattle.sat_base.specs.Ranks.{containment_rank}
use Rattle.rows.specs.Rows.{without}
use Rattle.rows.specs.Slots.{with_row}
use Rattle.rows.proofs.Found.{row_at-without}
use Rattle.node_registry.specs.declared.node.Node.{Node}
use Rattle.node_registry.specs.Registry.{node_rank, node_at}
use Rattle.node_registry.specs.Standing.{is_serving}
use Rattle.segment_core.specs.Record.{SegmentRecord, segment_rank}
use Rattle.machine_calls.specs.declared.change.RecChange.{RecChange}
use Rattle.machine_calls.specs.declared.change.RecChange.TheVariants as changes
use Rattle.machine_step.specs.Bounds.{Each, IsValid}
use Rattle.machine_step.specs.Containment.{serves, has_live_piece, place_of, stands_in, stands, fallen, release, with_releases, swept}
use Rattle.machine_step.specs.Outcome.{Outcome}
use Rattle.machine_step.specs.PlanRules.{is_owed}
use Rattle.machine_step.specs.Tables.{Tables, Setup, segment_at, changed, all_changed}
use Rattle.machine_step.proofs.RowLemmas.{row_at-with_row, each-without, plain-all}
use Rattle.machine_store.specs.declared.prepared.Prepared.{Prepared}
use Rattle.machine_store.specs.Prepared.{Holds}
use Rattle.sat_machine.specs.Sweep.{is_some_live, lives, unsettles}

-- a containment stands, on a segment that was live before the step
record IsFooted (before : List SegmentRecord) (nodes : List Node) (segments : List SegmentRecord) (row : Containment) : Type 0 where
  stands : stands_in nodes segments row ≡ true
  lives : lives before row.segment ≡ true

each-weaker : {R : Type 0} (P Q : R → Type 0) → ((row : R) → P row → Q row) → (rows : List R) → Each P rows → Each Q rows
each-weaker P Q weaker [] each = tt
each-weaker P Q weaker (row ∷ rows) each = (weaker row each.0, each-weaker P Q weaker rows each.1)

-- ---- one change

serves-put : (b : Bool) (node : Node) (found : Option Node) → is_serving node.status ≡ true → serves found ≡ true → serves (if b then Some node else found) ≡ true
serves-put true node found serving is = serving
serves-put false node found serving is = is

module _ (before : List SegmentRecord) (nodes : List Node) (segments : List SegmentRecord) where
  node-footed : (node : Node) → is_serving node.status ≡ true → (row : Containment) → IsFooted before nodes segments row → IsFooted before (with_row node_rank nodes node) segments row
  node-footed node serving row footed =
      let parts = and_parts (serves (node_at nodes row.node)) (has_live_piece (segment_at segments row.segment.0) (place_of row)) footed.stands in
      let same = ap serves (row_at-with_row node_rank nodes node row.node.0) ∙ serves-put (node_rank node == row.node.0) node (node_at nodes row.node) serving parts.0 in
      record { stands = and_from (serves (node_at (with_row node_rank nodes node) row.node)) _ same parts.1; lives = footed.lives }

  -- a segment that wasn't live is none that a containment stands on
  apart : (id : SegId) (row : Containment) → lives before id ≡ false → lives before row.segment ≡ true → (id.0 == row.segment.0) ≡ false
  apart id row dead live = go (id.0 == row.segment.0) refl
    where
      go : (b : Bool) → (id.0 == row.segment.0) ≡ b → b ≡ false
      go false is = refl
      go true is =
          let same : id.0 ≡ row.segment.0 = grind (arith, nat_tests, is) in
          let both_are : lives before id ≡ lives before row.segment = ap (λ (k : ℕ). is_some_live (segment_at before k)) same in
          cc

  -- what is found as before stands as before
  segments-footed : (next : List SegmentRecord) (row : Containment) → segment_at next row.segment.0 ≡ segment_at segments row.segment.0 → IsFooted before nodes segments row → IsFooted before nodes next row
  segments-footed next row same footed =
      let parts = and_parts (serves (node_at nodes row.node)) (has_live_piece (segment_at segments row.segment.0) (place_of row)) footed.stands in
      record {
        stands = and_from (serves (node_at nodes row.node)) (has_live_piece (segment_at next row.segment.0) (place_of row)) parts.0 (ap (λ (s : Option SegmentRecord). has_live_piece s (place_of row)) same ∙ parts.1);
        lives = footed.lives;
      }

  segment-footed : (segment : SegmentRecord) → lives before segment.id ≡ false → (row : Containment) → IsFooted before nodes segments row → IsFooted before nodes (with_row segment_rank segments segment) row
  segment-footed segment dead row footed =
      segments-footed (with_row segment_rank segments segment) row
      (row_at-with_row segment_rank segments segment row.segment.0 ∙ ap (λ (b : Bool). if b then Some segment else segment_at segments row.segment.0) (apart segment.id row dead footed.lives)) footed

  gone-footed : (id : SegId) → lives before id ≡ false → (row : Containment) → IsFooted before nodes segments row → IsFooted before nodes (without segment_rank segments id.0) row
  gone-footed id dead row footed =
      segments-footed (without segment_rank segments id.0) row
      (row_at-without segment_rank segments id.0 row.segment.0 ∙ ap (λ (b : Bool). if b then None else segment_at segments row.segment.0) (apart id row dead footed.lives)) footed

-- each of the tables' containments has its node and its piece
abbrev AreFooted : List SegmentRecord → Tables → Type 0
AreFooted before t = Each (IsFooted before t.nodes t.segments) t.containments

footed-changed : (before : List SegmentRecord) (t : Tables) (c : RecChange) → unsettles before c ≡ false → AreFooted before t → AreFooted before (changed t c)
footed-changed before t (changes.Node node) calm footed = each-weaker _ _ (node-footed before t.nodes t.segments node (not-false _ calm)) t.containments footed
footed-changed before t (changes.Segment segment) calm footed = each-weaker _ _ (segment-footed before t.nodes t.segments segment calm) t.containments footed
footed-changed before t (changes.Containment row) calm footed = cc
footed-changed before t (changes.Remove (keys.Segment id)) calm footed = each-weaker _ _ (gone-footed before t.nodes t.segments id calm) t.containments footed
footed-changed before t (changes.Remove (keys.Plan kind)) calm footed = footed
footed-changed before t (changes.Remove (keys.Containment node)) calm footed = each-without containment_rank (IsFooted before t.nodes t.segments) t.containments node.0 footed
footed-changed before t c calm footed = footed

-- ---- all of them

footed-all : (before : List SegmentRecord) (t : Tables) (cs : List RecChange) → list_any (unsettles before) cs ≡ false → AreFooted before t → AreFooted before (all_changed t cs)
footed-all before t [] calm footed = footed
footed-all before t (c ∷ cs) calm footed =
    let parts = or_parts (unsettles before c) (list_any (unsettles before) cs) calm in
    footed-all before (changed t c) cs parts.1 (footed-changed before t c parts.0 footed)

live-piece : (found : Option SegmentRecord) (place : At) → has_live_piece found place ≡ true → is_some_live found ≡ true
live-piece None place is = cc
live-piece (Some segment) place is = (and_parts _ _ is).0

-- before the step all stand
footed-first : (setup : Setup) (nodes : List Node) (segments : List SegmentRecord) (rows : List Containment) → list_all (λ row. stands_in nodes segments row && is_owed setup segments row) rows ≡ true → Each (IsFooted segments nodes segments) rows
footed-first setup nodes segments [] all = tt
footed-first setup nodes segments (row ∷ rows) all =
    let parts = and_parts (stands_in nodes segments row && is_owed setup segments row) (list_all (λ row. stands_in nodes segments row && is_owed setup segments row) rows) all in
    let here = and_parts (stands_in nodes segments row) (is_owed setup segments row) parts.0 in
    let live = and_parts (serves (node_at nodes row.node)) (has_live_piece (segment_at segments row.segment.0) (place_of row)) here.0 in
    (record { stands = here.0; lives = live-piece (segment_at segments row.segment.0) (place_of row) live.1 }, footed-first setup nodes segments rows parts.1)

none-fallen : (before : List SegmentRecord) (t : Tables) (rows : List Containment) → Each (IsFooted before t.nodes t.segments) rows → filter (λ row. not (stands t row)) rows ≡ []
none-fallen before t [] footed = refl
none-fallen before t (row ∷ rows) footed = ap (λ (b : Bool). if not b then row ∷ filter (λ x. not (stands t x)) rows else filter (λ x. not (stands t x)) rows) footed.0.stands ∙ none-fallen before t rows footed.1

releases-none : (t : Tables) (cs : List RecChange) → fallen (all_changed t cs) ≡ [] → with_releases t cs ≡ cs
releases-none t [] none = refl
releases-none t (c ∷ cs) none = ap (λ (rows : List Containment). (c ∷ cs) ++ map release rows) none ∙ append-nil (c ∷ cs)

-- changes that unsettle none are the whole step
pub swept-calm : (t : Tables) (p : Prepared) (o : Outcome) → IsValid t → list_any (unsettles t.segments) p.changes.items ≡ false → Holds p o → Holds p (swept t o)
swept-calm t p o v calm holds =
    let first = footed-first t.setup t.nodes t.segments t.containments (plain-all (λ row. stands_in t.nodes t.segments row && is_owed t.setup t.segments row) t.containments 0 v.rules.containments) in
    let none = none-fallen t.segments (all_changed t p.changes.items) (all_changed t p.changes.items).containments (footed-all t.segments t p.changes.items calm first) in
    record { reply = holds.reply; changes = sym (releases-none t p.changes.items none) ∙ ap (with_releases t) holds.changes }
