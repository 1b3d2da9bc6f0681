-- Records by kind, as one more is added behind those of its kind.
use Rattle.std.proofs.Common.{◌≡◌, ℕ, suc, zero, ◌+◌, ◌<◌, ◌≤◌, List, [], ◌∷◌, ◌++◌, length, get_or, take, drop, Some, refl, sym, ap, subst, inl, inr, ◌∙◌, append_assoc, arith}
use Rattle.std.specs.Prelude.{map, slice_get, T}
use Rattle.std.specs.declared.cmp.Ordering.{Ordering}
use Rattle.std.specs.declared.cmp.Ordering.TheVariants.{Greater}
use Rattle.std.specs.Cmp.{nat_cmp_is}
use Rattle.std.specs.Ordering.{nat_cmp, ordering_then, is_lt}
use Rattle.std.specs.Cmp.Lexicographic.{slice_cmp}
use Rattle.std.proofs.lemmas.Bool.{cases_lt}
use Rattle.std.proofs.lemmas.List.{append-nil}
use Rattle.sat_base.specs.declared.rows.Row.{Row}
use Rattle.sat_base.specs.Rows.{Key, AreInOrder, key_cmp, key_of}
use Rattle.sat_base.proofs.RowLists.{split}
use Rattle.record_kinds.specs.declared.rec.Rec.{Rec}
use Rattle.record_rows.specs.declared.version.Version.{Version}
use Rattle.record_rows.specs.declared.version.TheConstants.Version.{LATEST}
use Rattle.record_rows.specs.Fits.{Fits}
use Rattle.record_rows.specs.Spelling.{row_of}
use Rattle.record_rows.specs.Versions.{HoldsSome}
use Rattle.machine_calls.specs.declared.parts.Parts0.{Parts0}
use Rattle.machine_calls.specs.Parts.{HasNoRecord}
use Rattle.machine_step.specs.Bounds.{Each}
use Rattle.sat_book.specs.declared.opening.OpenErr.{OpenErr}
use Rattle.sat_book.specs.declared.opening.OpenErr.TheVariants as errs
use Rattle.sat_book.specs.TableRows.{joined}
use Rattle.sat_book.specs.ByKind.{AreRecordsOf, HasNoneBehind, listed, rec_lists}
use Rattle.sat_book.specs.Opened.{AddsRow, NamesFirstIn, Refuses, StandBehind}

-- one behind the others
pub map-one : {A B : Type 0} (f : A → B) (xs : List A) (x : A) → map f (xs ++ x ∷ []) ≡ map f xs ++ f x ∷ []
map-one f [] x = refl
map-one f (y ∷ ys) x = ap (λ (l : List _). f y ∷ l) (map-one f ys x)

-- where nothing stands behind a list, what is put behind it stands behind all
pub joined-one : {A : Type 0} (before : List (List A)) (own : List A) (x : A) (after : List (List A)) → joined after ≡ []
    → joined (before ++ (own ++ x ∷ []) ∷ after) ≡ joined (before ++ own ∷ after) ++ x ∷ []
joined-one [] own x after none =
    ap (λ (l : List _). (own ++ x ∷ []) ++ l) none ∙ append-nil (own ++ x ∷ [])
    ∙ ap (λ (l : List _). l ++ x ∷ []) (sym (append-nil own) ∙ ap (λ (l : List _). own ++ l) (sym none))
joined-one (first ∷ before) own x after none =
    ap (λ (l : List _). first ++ l) (joined-one before own x after none) ∙ sym (append_assoc first (joined (before ++ own ∷ after)) (x ∷ []))

-- of lists that are empty, none behind holds anything
both_empty : {A : Type 0} (xs ys : List A) → xs ++ ys ≡ [] → ys ≡ []
both_empty [] ys e = e
both_empty (x ∷ xs) ys e = absurd cc

drop_none : {A : Type 0} (lists : List (List A)) → lists ≡ [] → (k : ℕ) → joined (drop k lists) ≡ []
drop_none [] e zero = refl
drop_none [] e (suc k) = refl
drop_none (x ∷ xs) e k = absurd cc

pub none_later : {A : Type 0} (lists : List (List A)) (m k : ℕ) → m ≤ k → joined (drop m lists) ≡ [] → joined (drop k lists) ≡ []
none_later [] m k le none = drop_none [] refl k
none_later (first ∷ rest) zero zero le none = none
none_later (first ∷ rest) zero (suc k) le none = none_later rest zero k (omega arith) (both_empty first (joined rest) none)
none_later (first ∷ rest) (suc m) zero le none = absurd (omega arith)
none_later (first ∷ rest) (suc m) (suc k) le none = none_later rest m k (omega arith) none

-- a record more of its kind, where there is none of a later kind
pub listed-one : {R : Type 0} (record_of : R → Rec) (before : List (List Rec)) (own grown : List R) (one : R) (rec : Rec) (after : List (List Rec))
    → rec ≡ record_of one → grown ≡ own ++ one ∷ [] → joined after ≡ []
    → joined (before ++ map record_of grown ∷ after) ≡ joined (before ++ map record_of own ∷ after) ++ rec ∷ []
listed-one record_of before own grown one rec after is grown_is none =
    ap (λ (l : List _). joined (before ++ map record_of l ∷ after)) grown_is
    ∙ ap (λ (l : List Rec). joined (before ++ l ∷ after)) (map-one record_of own one)
    ∙ joined-one before (map record_of own) (record_of one) after none
    ∙ ap (λ (r : Rec). joined (before ++ map record_of own ∷ after) ++ r ∷ []) (sym is)

-- ---- where there is no record yet

none_listed : (parts : Parts0) → HasNoRecord parts → listed parts ≡ []
none_listed parts none = rw (
  none.settings,
  none.marks,
  none.nodes,
  none.customers,
  none.segments,
  none.settled,
  none.tallies,
  none.statements,
  none.audit_plans,
  none.recheck_plans,
  none.repair_plans,
  none.containments,
  none.kept,
  none.exit_plans,
  none.left,
  none.tariffs,
) refl

pub none_behind : (parts : Parts0) (rows : List Row) → HasNoRecord parts → StandBehind parts rows
none_behind parts [] none = tt
none_behind parts (row ∷ rest) none = none_later (rec_lists parts) 0 row.kind (omega arith) (none_listed parts none)

-- ---- one row more

pub each-one : {R : Type 0} (P : R → Type 0) (rows : List R) (row : R) → Each P rows → P row → Each P (rows ++ row ∷ [])
each-one P [] row each own = (own, tt)
each-one P (first ∷ rest) row each own = (each.0, each-one P rest row each.1 own)

pub none-yet : (parts : Parts0) → HasNoRecord parts → AreRecordsOf [] parts
none-yet parts none =
    let all = none_listed parts none in
    record { fit = subst (Each Fits) (sym all) tt; rows_are = ap (map row_of) all }

pub one-more : (mid result : Parts0) (rows : List Row) (row : Row) → AreRecordsOf rows mid → AddsRow row mid result → AreRecordsOf (rows ++ row ∷ []) result
one-more mid result rows row before own = record {
  fit = subst (Each Fits) (sym own.all) (each-one Fits (listed mid) own.rec before.fit own.is.0);
  rows_are = ap (map row_of) own.all ∙ map-one row_of (listed mid) own.rec ∙ ap (λ (l : List Row). l ++ row_of own.rec ∷ []) before.rows_are ∙ ap (λ (r : Row). rows ++ r ∷ []) (sym own.is.1);
}

kind_below : (a b : Key) → T (is_lt (key_cmp a b)) → a.0 ≤ b.0
kind_below a b low = elim (cases_lt b.0 a.0) [
  | inl less ↦ absurd (subst (λ (o : Ordering). T (is_lt (ordering_then o (slice_cmp nat_cmp a.1 b.1)))) (sym (nat_cmp_is a.0 b.0 Greater less)) low)
  | inr more ↦ more
]

pub rest_in_order : (row : Row) (rest : List Row) → AreInOrder (row ∷ rest) → AreInOrder rest
rest_in_order row rest order = (split _ _ order).1

pub stand_behind : (row : Row) (rest : List Row) (parts : Parts0) → AreInOrder (row ∷ rest) → HasNoneBehind row.kind parts → StandBehind parts rest
stand_behind row [] parts order none = tt
stand_behind row (next ∷ rest) parts order none =
    none_later (rec_lists parts) row.kind next.kind (kind_below (key_of row) (key_of next) (split _ _ (split _ _ order).0).0) none

-- where a list is cut
cut_behind : {A : Type 0} (xs : List A) (i : ℕ) (x : A) → slice_get xs i ≡ Some x → (take (suc i) xs ≡ take i xs ++ x ∷ []) × (drop i xs ≡ x ∷ drop (suc i) xs)
cut_behind [] i x at = cc
cut_behind (y ∷ ys) zero x at = let same : y ≡ x = cc in (ap (λ (z : _). z ∷ []) same, ap (λ (z : _). z ∷ ys) same)
cut_behind (y ∷ ys) (suc i) x at =
    let rest = cut_behind ys i x at in
    (ap (λ (l : List _). y ∷ l) rest.0, rest.1)

pub cut_at : {A : Type 0} (xs : List A) (i : ℕ) (x : A) → slice_get xs i ≡ Some x → (take (i + 1) xs ≡ take i xs ++ x ∷ []) × (drop i xs ≡ x ∷ drop (i + 1) xs)
cut_at xs i x at =
    let next : suc i ≡ i + 1 = omega arith in
    subst (λ (n : ℕ). (take n xs ≡ take i xs ++ x ∷ []) × (drop i xs ≡ x ∷ drop n xs)) next (cut_behind xs i x at)

pub at_place : {A : Type 0} (xs : List A) (i : ℕ) (x : A) → i < length xs → x ≡ get_or xs i x → slice_get xs i ≡ Some x
at_place [] i x lt is = absurd (omega arith)
at_place (y ∷ ys) zero x lt is = ap Some (sym is)
at_place (y ∷ ys) (suc i) x lt is = at_place ys i x (omega arith) is

-- the rows before a place are records
held_before : (recs : List Rec) (rows : List Row) (place : ℕ) → Each Fits recs → map row_of recs ≡ take place rows
    → (i : ℕ) (other : Row) → i < place → slice_get rows i ≡ Some other → HoldsSome LATEST other
held_before recs [] place fit are i other lt at = cc
held_before recs (row ∷ rows) zero fit are i other lt at = absurd (omega arith)
held_before [] (row ∷ rows) (suc place) fit are i other lt at = cc
held_before (rec ∷ recs) (row ∷ rows) (suc place) fit are zero other lt at =
    let same : row ≡ other = cc in
    let first : row_of rec ≡ row = cc in
    (rec, (fit.0, sym same ∙ sym first))
held_before (rec ∷ recs) (row ∷ rows) (suc place) fit are (suc i) other lt at =
    let rest : map row_of recs ≡ take place rows = cc in
    held_before recs rows place fit.1 rest i other (omega arith) at

pub names_first : (version : Version) (rows : List Row) (place : ℕ) (row : Row) (err : OpenErr) → ((i : ℕ) (other : Row) → i < place → slice_get rows i ≡ Some other → HoldsSome version other)
    → slice_get rows place ≡ Some row → Refuses version row err → NamesFirstIn version rows err
names_first version rows place row (errs.BadRow kind id) before at refused = record { place = place; row = row; stands = at; its_kind = refused.0; its_id = refused.1; none = refused.2; others = before }
names_first version rows place row errs.NoMemory before at refused = tt
names_first version rows place row errs.Fault before at refused = absurd refused
names_first version rows place row (errs.BadTables rule kind id) before at refused = absurd refused

pub names_latest : (mid : Parts0) (rows : List Row) (place : ℕ) (row : Row) (err : OpenErr) → AreRecordsOf (take place rows) mid → slice_get rows place ≡ Some row → Refuses LATEST row err → NamesFirstIn LATEST rows err
names_latest mid rows place row err before at refused = names_first LATEST rows place row err (held_before (listed mid) rows place before.fit before.rows_are) at refused
