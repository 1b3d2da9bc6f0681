-- What changes make of a node, of a segment and of the containments, one after another.
use Rattle.std.proofs.Common.{◌≡◌, ℕ, ◌+◌, ◌<◌, Bool, true, List, [], ◌∷◌, ◌++◌, length, take, get_or, append_assoc, Option, refl, sym, ap, ◌∙◌}
use Rattle.std.proofs.lemmas.List.{take_more}
use Rattle.std.specs.List.{list_any}
use Rattle.std.specs.Prelude.{map}
use Rattle.sat_base.specs.declared.ids.NodeId.{NodeId}
use Rattle.sat_base.specs.declared.records.Containment.{Containment}
use Rattle.sat_base.specs.declared.records.Key.TheVariants as keys
use Rattle.rows.proofs.Found.{row_at-without}
use Rattle.node_registry.specs.declared.node.Node.{Node}
use Rattle.node_registry.specs.Registry.{node_rank, node_at}
use Rattle.segment_core.specs.Record.{SegmentRecord, segment_rank}
use Rattle.machine_calls.specs.declared.change.RecChange.{RecChange}
use Rattle.machine_calls.specs.declared.change.RecChange.TheVariants as changes
use Rattle.machine_step.specs.Tables.{Tables, segment_at, changed, all_changed}
use Rattle.machine_step.specs.Containment.{release, fallen, with_releases, swept}
use Rattle.machine_step.specs.Outcome.{Outcome}
use Rattle.machine_step.proofs.ReleaseLemmas.{changed-append}
use Rattle.machine_step.proofs.RowLemmas.{row_at-with_row}
use Rattle.machine_store.specs.declared.prepared.Prepared.{Prepared}
use Rattle.machine_store.specs.Prepared.{Holds}
use Rattle.sat_machine.specs.Sweep.{node_by, segment_by, containments_by}

node-changed : (t : Tables) (c : RecChange) (id : NodeId) → node_by c id (node_at t.nodes id) ≡ node_at (changed t c).nodes id
node-changed t (changes.Node node) id = sym (row_at-with_row node_rank t.nodes node id.0)
node-changed t (changes.Remove (keys.Segment gone)) id = refl
node-changed t (changes.Remove (keys.Plan kind)) id = refl
node-changed t (changes.Remove (keys.Containment node)) id = refl
node-changed t c id = refl

segment-changed : (t : Tables) (c : RecChange) (id : ℕ) → segment_by c id (segment_at t.segments id) ≡ segment_at (changed t c).segments id
segment-changed t (changes.Segment segment) id = sym (row_at-with_row segment_rank t.segments segment id)
segment-changed t (changes.Remove (keys.Segment gone)) id = sym (row_at-without segment_rank t.segments gone.0 id)
segment-changed t (changes.Remove (keys.Plan kind)) id = refl
segment-changed t (changes.Remove (keys.Containment node)) id = refl
segment-changed t c id = refl

rows-changed : (t : Tables) (c : RecChange) → containments_by c t.containments ≡ (changed t c).containments
rows-changed t (changes.Containment row) = refl
rows-changed t (changes.Remove (keys.Segment gone)) = refl
rows-changed t (changes.Remove (keys.Plan kind)) = refl
rows-changed t (changes.Remove (keys.Containment node)) = refl
rows-changed t c = refl

-- and one more
pub node-more : (t : Tables) (cs : List RecChange) (c : RecChange) (id : NodeId) (before : Option Node) → before ≡ node_at (all_changed t cs).nodes id → node_by c id before ≡ node_at (all_changed t (cs ++ c ∷ [])).nodes id
node-more t cs c id before is =
    ap (node_by c id) is ∙ node-changed (all_changed t cs) c id ∙ ap (λ (x : Tables). node_at x.nodes id) (sym (changed-append cs (c ∷ []) t))

pub segment-more : (t : Tables) (cs : List RecChange) (c : RecChange) (id : ℕ) (before : Option SegmentRecord) → before ≡ segment_at (all_changed t cs).segments id → segment_by c id before ≡ segment_at (all_changed t (cs ++ c ∷ [])).segments id
segment-more t cs c id before is =
    ap (segment_by c id) is ∙ segment-changed (all_changed t cs) c id ∙ ap (λ (x : Tables). segment_at x.segments id) (sym (changed-append cs (c ∷ []) t))

pub rows-more : (t : Tables) (cs : List RecChange) (c : RecChange) (before : List Containment) → before ≡ (all_changed t cs).containments → containments_by c before ≡ (all_changed t (cs ++ c ∷ [])).containments
rows-more t cs c before is =
    ap (containments_by c) is ∙ rows-changed (all_changed t cs) c ∙ ap (λ (x : Tables). x.containments) (sym (changed-append cs (c ∷ []) t))

-- ---- the step and its removals

map-more : (xs : List Containment) (x : Containment) → map release (xs ++ x ∷ []) ≡ map release xs ++ release x ∷ []
map-more [] x = refl
map-more (y ∷ ys) x = ap (λ (cs : List RecChange). release y ∷ cs) (map-more ys x)

-- one row more is released
pub released-more : (items before after : List RecChange) (rows : List Containment) (i : ℕ) (d : Containment) (put : RecChange) → i < length rows → put ≡ release (get_or rows i d)
    → before ≡ items ++ map release (take i rows) → after ≡ before ++ put ∷ [] → after ≡ items ++ map release (take (i + 1) rows)
released-more items before after rows i d put lt put_is so_far is =
    is ∙ ap (λ (xs : List RecChange). xs ++ put ∷ []) so_far
    ∙ append_assoc items (map release (take i rows)) (put ∷ [])
    ∙ ap (λ (x : RecChange). items ++ (map release (take i rows) ++ x ∷ [])) put_is
    ∙ ap (λ (xs : List RecChange). items ++ xs) (sym (map-more (take i rows) (get_or rows i d)))
    ∙ ap (λ (xs : List Containment). items ++ map release xs) (sym (take_more rows i d lt))

with-some : (t : Tables) (cs : List RecChange) → (cs ≡ [] → ⊥) → with_releases t cs ≡ cs ++ map release (fallen (all_changed t cs))
with-some t [] some = absurd (some refl)
with-some t (c ∷ cs) some = refl

-- where some change passes a test, there is one
any-some : (test : RecChange → Bool) (cs : List RecChange) → list_any test cs ≡ true → cs ≡ [] → ⊥
any-some test [] any none = cc
any-some test (c ∷ cs) any none = cc

pub swept-some : (t : Tables) (test : RecChange → Bool) (p q : Prepared) (o : Outcome) → list_any test p.changes.items ≡ true → q.reply ≡ p.reply → q.changes.items ≡ p.changes.items ++ map release (fallen (all_changed t p.changes.items)) → Holds p o → Holds q (swept t o)
swept-some t test p q o any reply is holds = record {
  reply = reply ∙ holds.reply;
  changes = is ∙ sym (with-some t p.changes.items (any-some test p.changes.items any)) ∙ ap (with_releases t) holds.changes;
}
