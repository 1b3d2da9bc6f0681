-- Rows of an earlier version, as they become those of the latest.
use Rattle.std.proofs.Common.{◌≡◌, ◌≢◌, ◌⊎◌, ℕ, suc, zero, ◌<◌, inl, inr, Bool, true, false, cond, List, [], ◌∷◌, ◌++◌, Option, Some, None, take, refl, sym, ap, subst, ◌∙◌, append_assoc, arith}
use Rattle.std.specs.Prelude.{map, slice_get, option_to_list, IfSome, MatchOption, T}
use Rattle.std.proofs.lemmas.List.{append-nil}
use Rattle.std.specs.FinMap.{find, get, get-entries, get-from_sorted, get-insert, insert}
use Rattle.std.specs.FinMap.Entries.{below_all}
use Rattle.std.specs.declared.cmp.Ordering.{Ordering}
use Rattle.std.specs.Ordering.{is_lt}
use Rattle.sat_base.specs.declared.rows.Row.{Row}
use Rattle.sat_base.specs.declared.rows.Change.{Change}
use Rattle.sat_base.specs.declared.rows.Change.TheVariants.{Put, Remove}
use Rattle.sat_base.specs.Rows.{Key, Rows, AreInOrder, AreThe, changed, entry, key_cmp, key_of, rows_of}
use Rattle.sat_base.proofs.KeyOrder.{keys_total}
use Rattle.sat_base.proofs.RowLists.{the_rows, split}
use Rattle.record_kinds.specs.declared.rec.Rec.{Rec}
use Rattle.record_kinds.specs.declared.rec.Rec.TheVariants as records
use Rattle.record_rows.specs.declared.upgrading.Upgraded.{Upgraded}
use Rattle.record_rows.specs.declared.version.Version.{Version}
use Rattle.record_rows.specs.declared.version.TheConstants.Version.{LATEST}
use Rattle.record_rows.specs.Fits.{Fits, IsShort}
use Rattle.record_kinds.specs.Kinds.{kind_of}
use Rattle.record_rows.specs.Spelling.{body_of, id_of, row_of}
use Rattle.record_rows.specs.Versions.{HoldsSome, Implies, IsRecordIn, IsReplaced, IsVersion, UpgradesTo}
use Rattle.sat_book.specs.declared.opening.OpenErr.{OpenErr}
use Rattle.sat_book.specs.declared.opening.OpenErr.TheVariants as errs
use Rattle.sat_book.specs.declared.sorted.Sorted.{Sorted}
use Rattle.sat_book.specs.ByKind.{AreRecordsOf}
use Rattle.sat_book.specs.Opened.{AddsChanges, AreChanges, AreSorted, EachUpgrades, NamesFirst, NamesFirstIn, Refuses, puts}
use Rattle.sat_book.specs.TableRows.{joined}
use Rattle.sat_book.proofs.FindLemmas.{tied, ties}
use Rattle.sat_book.proofs.IdLemmas.{own_order, own_tie}
use Rattle.sat_book.proofs.SortLemmas.{map-one, names_first}

-- ---- what a row becomes

-- the laws of versions
abbrev pub Keyed : Type 0
Keyed = (v : Version) (row : Row) (x : Rec) → IsRecordIn v row x → Fits x × (kind_of x ≡ row.kind) × (id_of x ≡ row.id)

abbrev pub Within : Type 0
Within = (v : Version) (row : Row) (x : Rec) → Implies v row x → Fits x

pub short_of : (rec : Rec) → Fits rec → IsShort rec
short_of (records.Segment one) fits = fits.pieces.few
short_of (records.AuditPlan one) fits = fits.asked.few
short_of (records.RepairPlan one) fits = (fits.sources.few, fits.targets.few)
short_of (records.Kept one) fits = fits.within
short_of (records.ExitPlan one) fits = (fits.repair.sources.few, fits.repair.targets.few)
short_of _ fits = tt

also_fits : Within → (v : Version) (row : Row) (also : Option Rec) → MatchOption also ((x : Rec) → Implies v row x → ⊥) (Implies v row) → IfSome also Fits
also_fits within v row None is = tt
also_fits within v row (Some rec) is = within v row rec is

pub replaced_fit : Within → (v : Version) (row : Row) (up : Upgraded) → IsReplaced v row up → IfSome up.also Fits
replaced_fit within v row up is = also_fits within v row up.also is.also

-- a row that becomes something holds a record
pub upgrades_hold : (v : Version) (row : Row) (up : Option Upgraded) → UpgradesTo v row up → HoldsSome v row
upgrades_hold v row None is = (is.rec, is.record_in)
upgrades_hold v row (Some up) is = (up.rec, is.record_in)

-- ---- one row more

each-one : (v : Version) (rows : List Row) (ups : List (Option Upgraded)) (row : Row) (up : Option Upgraded) → EachUpgrades v rows ups → UpgradesTo v row up
    → EachUpgrades v (rows ++ row ∷ []) (ups ++ up ∷ [])
each-one v [] [] row up each own = (own, tt)
each-one v [] (u ∷ ups) row up each own = absurd each
each-one v (r ∷ rows) [] row up each own = absurd each
each-one v (r ∷ rows) (u ∷ ups) row up each own = (each.0, each-one v rows ups row up each.1 own)

joined-push : {A : Type 0} (lists : List (List A)) (own : List A) → joined (lists ++ own ∷ []) ≡ joined lists ++ own
joined-push [] own = append-nil own
joined-push (first ∷ lists) own = ap (λ (l : List _). first ++ l) (joined-push lists own) ∙ sym (append_assoc first (joined lists) own)

pub no-changes : (v : Version) → AreChanges v [] []
no-changes v = record { ups = []; each = tt; are = refl }

pub changes-one : (v : Version) (rows : List Row) (row : Row) (old new : List Change) → AreChanges v rows old → AddsChanges v row old new → AreChanges v (rows ++ row ∷ []) new
changes-one v rows row old new before own = record {
  ups = before.ups ++ own.0 ∷ [];
  each = each-one v rows before.ups row own.0 before.each own.1;
  are = own.2 ∙ ap (λ (l : List Change). l ++ puts own.0) before.are ∙ sym (joined-push (map puts before.ups) (puts own.0)) ∙ ap joined (sym (map-one puts before.ups own.0));
}

pub stays-one : (v : Version) (row : Row) (old : List Change) → UpgradesTo v row None → AddsChanges v row old old
stays-one v row old is = (None, is, sym (append-nil old))

-- the rows before a place hold records
held_before : (v : Version) (rows : List Row) (ups : List (Option Upgraded)) (place : ℕ) → EachUpgrades v (take place rows) ups
    → (i : ℕ) (other : Row) → i < place → slice_get rows i ≡ Some other → HoldsSome v other
held_before v [] ups place each i other lt at = cc
held_before v (row ∷ rows) ups zero each i other lt at = absurd (omega arith)
held_before v (row ∷ rows) [] (suc place) each i other lt at = absurd each
held_before v (row ∷ rows) (up ∷ ups) (suc place) each zero other lt at =
    let same : row ≡ other = cc in
    subst (HoldsSome v) same (upgrades_hold v row up each.0)
held_before v (row ∷ rows) (up ∷ ups) (suc place) each (suc i) other lt at = held_before v rows ups place each.1 i other (omega arith) at

pub names_refused : (v : Version) (rows : List Row) (place : ℕ) (row : Row) (changes : List Change) (err : OpenErr) → AreChanges v (take place rows) changes → slice_get rows place ≡ Some row
    → Refuses v row err → NamesFirstIn v rows err
names_refused v rows place row changes err before at refused = names_first v rows place row err (held_before v rows before.ups place before.each) at refused

-- ---- what is put

-- a key and a body are those of a record
abbrev IsHeld : Key → List ℕ → Type 0
IsHeld key body = (rec : Rec) × Fits rec × (key ≡ key_of (row_of rec)) × (body ≡ body_of rec)

abbrev PutRecords : List Change → Type 0
PutRecords [] = Unit {0}
PutRecords (Put row ∷ changes) = IsHeld (key_of row) row.body × PutRecords changes
PutRecords (Remove kind id ∷ changes) = ⊥

abbrev IsPut : Key → List Change → Type 0
IsPut key [] = ⊥
IsPut key (Put row ∷ changes) = (key ≡ key_of row) ⊎ IsPut key changes
IsPut key (Remove kind id ∷ changes) = IsPut key changes

records-behind : (front back : List Change) → PutRecords front → PutRecords back → PutRecords (front ++ back)
records-behind [] back f b = b
records-behind (Put row ∷ front) back f b = (f.0, records-behind front back f.1 b)
records-behind (Remove kind id ∷ front) back f b = absurd f

put-behind : (key : Key) (front back : List Change) → IsPut key back → IsPut key (front ++ back)
put-behind key [] back is = is
put-behind key (Put row ∷ front) back is = inr (put-behind key front back is)
put-behind key (Remove kind id ∷ front) back is = put-behind key front back is

module _ (keyed : Keyed) (within : Within) (v : Version) where
  also_puts : (also : Option Rec) → IfSome also Fits → PutRecords (map (λ rec. Put (row_of rec)) (option_to_list also))
  also_puts None fits = tt
  also_puts (Some rec) fits = ((rec, fits, refl, refl), tt)

  puts_records : (row : Row) (up : Option Upgraded) → UpgradesTo v row up → PutRecords (puts up)
  puts_records row None is = tt
  puts_records row (Some up) is = ((up.rec, (keyed v row up.rec is.record_in).0, refl, refl), also_puts up.also (replaced_fit within v row up is))

  all_records : (rows : List Row) (ups : List (Option Upgraded)) → EachUpgrades v rows ups → PutRecords (joined (map puts ups))
  all_records [] [] each = tt
  all_records [] (up ∷ ups) each = absurd each
  all_records (row ∷ rows) [] each = absurd each
  all_records (row ∷ rows) (up ∷ ups) each = records-behind (puts up) (joined (map puts ups)) (puts_records row up each.0) (all_records rows ups each.1)

  -- a row's key and body are those of a record, or another row is put under its key
  held_row : (row : Row) (up : Option Upgraded) (back : List Change) → UpgradesTo v row up → IsHeld (key_of row) row.body ⊎ IsPut (key_of row) (puts up ++ back)
  held_row row None back is = inl (is.rec, is.same.0, ap key_of is.same.1, ap (λ (r : Row). r.body) is.same.1)
  held_row row (Some up) back is =
      let keys = keyed v row up.rec is.record_in in
      inr (inl (ap (λ (k : ℕ). (k, row.id)) (sym keys.1) ∙ ap (λ (i : List ℕ). (kind_of up.rec, i)) (sym keys.2)))

  held : (rows : List Row) (ups : List (Option Upgraded)) → EachUpgrades v rows ups → (key : Key) (body : List ℕ) → find key_cmp key (map entry rows) ≡ Some body
      → IsHeld key body ⊎ IsPut key (joined (map puts ups))
  held [] [] each key body at = cc
  held [] (up ∷ ups) each key body at = absurd each
  held (row ∷ rows) [] each key body at = absurd each
  held (row ∷ rows) (up ∷ ups) each key body at = go (ties key (key_of row)) refl at (held rows ups each.1 key body)
    where
      go : (b : Bool) → ties key (key_of row) ≡ b → cond b (Some row.body) (find key_cmp key (map entry rows)) ≡ Some body
          → (find key_cmp key (map entry rows) ≡ Some body → IsHeld key body ⊎ IsPut key (joined (map puts ups))) → IsHeld key body ⊎ IsPut key (puts up ++ joined (map puts ups))
      go true tie at behind =
          let same : key_of row ≡ key = sym (tied key (key_of row) tie) in
          let has : row.body ≡ body = cc in
          subst (λ (k : Key). IsHeld k body ⊎ IsPut k (puts up ++ joined (map puts ups))) same
          (subst (λ (b : List ℕ). IsHeld (key_of row) b ⊎ IsPut (key_of row) (puts up ++ joined (map puts ups))) has (held_row row up (joined (map puts ups)) each.0))
      go false tie at behind = elim (behind at) [
        | inl own ↦ inl own
        | inr later ↦ inr (put-behind key (puts up) (joined (map puts ups)) later)
      ]

-- after all changes each row is that of a record
after_puts : (changes : List Change) (all : Rows) → PutRecords changes → ((key : Key) (body : List ℕ) → get all key ≡ Some body → IsHeld key body ⊎ IsPut key changes)
    → (key : Key) (body : List ℕ) → get (changed changes all) key ≡ Some body → IsHeld key body
after_puts [] all puts each key body at = elim (each key body at) [ inl own ↦ own | inr later ↦ absurd later ]
after_puts (Remove kind id ∷ changes) all puts each key body at = absurd puts
after_puts (Put row ∷ changes) all puts each key body at =
    after_puts changes (insert all (key_of row) row.body) puts.1 (λ k b has. go k b (ties k (key_of row)) refl (sym (get-insert keys_total all (key_of row) row.body k) ∙ has)) key body at
  where
    go : (key : Key) (body : List ℕ) (b : Bool) → ties key (key_of row) ≡ b → cond b (Some row.body) (get all key) ≡ Some body → IsHeld key body ⊎ IsPut key changes
    go key body true tie at =
        let same : key_of row ≡ key = sym (tied key (key_of row) tie) in
        let has : row.body ≡ body = cc in
        inl (subst (λ (k : Key). IsHeld k body) same (subst (IsHeld (key_of row)) has puts.0))
    go key body false tie at = elim (each key body at) [
      | inl own ↦ inl own
      | inr (inl same) ↦
          let no : true ≡ false = sym (own_tie (key_of row)) ∙ ap (λ (k : Key). ties k (key_of row)) (sym same) ∙ tie in
          absurd cc
      | inr (inr later) ↦ inr later
    ]

-- ---- rows in order, by their keys

pub below_at : (key : Key) (rows : List Row) (i : ℕ) (row : Row) → T (below_all key_cmp key (map entry rows)) → slice_get rows i ≡ Some row → T (is_lt (key_cmp key (key_of row)))
below_at key [] i row low at = cc
below_at key (first ∷ rows) zero row low at =
    let same : first ≡ row = cc in
    subst (λ (r : Row). T (is_lt (key_cmp key (key_of r)))) same (split _ _ low).0
below_at key (first ∷ rows) (suc i) row low at = below_at key rows i row (split _ _ low).1 at

-- a row is found under its key
pub found_at : (rows : List Row) (i : ℕ) (row : Row) → AreInOrder rows → slice_get rows i ≡ Some row → find key_cmp (key_of row) (map entry rows) ≡ Some row.body
found_at [] i row order at = cc
found_at (first ∷ rows) zero row order at =
    let same : first ≡ row = cc in
    subst (λ (r : Row). cond (ties (key_of r) (key_of first)) (Some first.body) (find key_cmp (key_of r) (map entry rows)) ≡ Some r.body) same
    (ap (λ (b : Bool). cond b (Some first.body) (find key_cmp (key_of first) (map entry rows))) (own_tie (key_of first)))
found_at (first ∷ rows) (suc i) row order at =
    ap (λ (b : Bool). cond b (Some first.body) (find key_cmp (key_of row) (map entry rows))) (other (ties (key_of row) (key_of first)) refl)
    ∙ found_at rows i row (split _ _ order).1 at
  where
    other : (b : Bool) → ties (key_of row) (key_of first) ≡ b → b ≡ false
    other false tie = refl
    other true tie =
        let same : key_of row ≡ key_of first = tied (key_of row) (key_of first) tie in
        let low = subst (λ (k : Key). T (is_lt (key_cmp (key_of first) k))) same (below_at (key_of first) rows i row (split _ _ order).0 at) in
        absurd (subst (λ (o : Ordering). T (is_lt o)) (own_order (key_of first)) low)

-- ---- rows that were upgraded

held_record : (row : Row) → IsHeld (key_of row) row.body → HoldsSome LATEST row
held_record row (rec, fits, key, body) =
    (rec, (fits, ap (λ (k : Key). record { kind = k.0; id = k.1; body = row.body }) key ∙ ap (λ (b : List ℕ). record { kind = kind_of rec; id = id_of rec; body = b }) body))

-- each holds a record of the latest version
pub upgraded_hold : Keyed → Within → (v : Version) (loaded rows : List Row) (changes : List Change) → AreInOrder loaded → AreInOrder rows → AreChanges v loaded changes
    → AreThe (changed changes (rows_of loaded)) rows → (i : ℕ) (row : Row) → slice_get rows i ≡ Some row → HoldsSome LATEST row
upgraded_hold keyed within v loaded rows changes order ordered are the i row at =
    let puts = subst PutRecords (sym are.are) (all_records keyed within v loaded are.ups are.each) in
    let each : (key : Key) (body : List ℕ) → get (rows_of loaded) key ≡ Some body → IsHeld key body ⊎ IsPut key changes =
    λ key body has. subst (λ (cs : List Change). IsHeld key body ⊎ IsPut key cs) (sym are.are)
    (held keyed within v loaded are.ups are.each key body (sym (get-from_sorted key_cmp (map entry loaded) key order) ∙ has)) in
    let found : get (changed changes (rows_of loaded)) (key_of row) ≡ Some row.body =
    get-entries (changed changes (rows_of loaded)) (key_of row) ∙ ap (find key_cmp (key_of row)) (sym the) ∙ found_at rows i row ordered at in
    held_record row (after_puts changes (rows_of loaded) puts each (key_of row) row.body found)

-- so none of them is refused
pub names_none : Keyed → Within → (v : Version) (loaded rows : List Row) (changes : List Change) → AreInOrder loaded → AreInOrder rows → AreChanges v loaded changes
    → AreThe (changed changes (rows_of loaded)) rows → (err : OpenErr) → NamesFirstIn LATEST rows err → NamesFirst loaded err
names_none keyed within v loaded rows changes order ordered are the (errs.BadRow kind id) bad =
    let some = upgraded_hold keyed within v loaded rows changes order ordered are the bad.place bad.row bad.stands in
    absurd (bad.none some.0 some.1)
names_none keyed within v loaded rows changes order ordered are the errs.NoMemory bad = tt
names_none keyed within v loaded rows changes order ordered are the errs.Fault bad = absurd bad
names_none keyed within v loaded rows changes order ordered are the (errs.BadTables rule kind id) bad = absurd bad

-- what is refused of the rows that were loaded
pub names_loaded : (v : Version) (loaded : List Row) → AreInOrder loaded → IsVersion v (slice_get loaded 0) → (err : OpenErr) → NamesFirstIn v loaded err → NamesFirst loaded err
names_loaded v loaded order is (errs.BadRow kind id) bad = record { ordered = order; version = v; is_of = is; first = bad }
names_loaded v loaded order is errs.NoMemory bad = tt
names_loaded v loaded order is errs.Fault bad = absurd bad
names_loaded v loaded order is (errs.BadTables rule kind id) bad = absurd bad

-- rows of the latest version, once their records are by kind
pub sorted_same : (loaded : List Row) (sorted : Sorted) → AreInOrder loaded → IsVersion LATEST (slice_get loaded 0) → sorted.changes.items ≡ [] → AreRecordsOf loaded sorted.parts → sorted.rows ≡ loaded
    → AreSorted loaded sorted
sorted_same loaded sorted order is none records is_rows = record {
  becomes = inl (record { is_of = is; none = none; rows_are = is_rows });
  records = subst (λ (l : List Row). AreRecordsOf l sorted.parts) (sym is_rows) records;
  ordered = subst AreInOrder (sym is_rows) order;
  made = ap rows_of is_rows ∙ ap (λ (cs : List Change). changed cs (rows_of loaded)) (sym none);
}

-- what becomes of rows, once their records are by kind
pub sorted_upgraded : (v : Version) (loaded rows : List Row) (sorted : Sorted) → AreInOrder loaded → IsVersion v (slice_get loaded 0) → v ≢ LATEST → AreChanges v loaded sorted.changes.items
    → AreThe (changed sorted.changes.items (rows_of loaded)) rows → AreInOrder rows → AreRecordsOf rows sorted.parts → sorted.rows ≡ rows → AreSorted loaded sorted
sorted_upgraded v loaded rows sorted order is earlier changes the ordered records is_rows = record {
  becomes = inr (record { ordered = order; version = v; is_of = is; is_earlier = earlier; changes_are = changes; rows_are = subst (AreThe (changed sorted.changes.items (rows_of loaded))) (sym is_rows) the });
  records = subst (λ (l : List Row). AreRecordsOf l sorted.parts) (sym is_rows) records;
  ordered = subst AreInOrder (sym is_rows) ordered;
  made = ap rows_of is_rows ∙ the_rows (changed sorted.changes.items (rows_of loaded)) rows ordered the;
}
