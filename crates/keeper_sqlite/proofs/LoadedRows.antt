-- The rows of the select are those of the table.
use Rattle.std.proofs.Common.{◌≡◌, ◌⊎◌, inl, inr, ℕ, pos, ◌<◌, Bool, true, false, ◌&&◌, T, List, [], ◌∷◌, map, codes, None, Some, refl, sym, ap, subst, ◌∙◌, Ordering, Less, Equal, is_eq}
use Rattle.std.specs.Ordering.{eq_by_cmp}
use Rattle.std.specs.FinMap.{entries, from_sorted, entries-from_sorted, get-from_sorted, get-from_entries, same_map}
use Rattle.std.specs.FinMap.Entries.{find, is_sorted, below_all}
use Rattle.std.proofs.lemmas.Cmp.{tied_itself}
use Rattle.std.proofs.lemmas.Bool.{cases_Bool}
use mathlib.Core.Bool.{false≢true}
use Rattle.sqlite.specs.declared.types.Value.TheVariants.{Null, Int}
use Rattle.sqlite.specs.Order.{Row, column}
use Rattle.sqlite.specs.Tree.{Trees}
use Rattle.sqlite.specs.Term.{col}
use Rattle.sqlite.specs.Query.{IsAnswerAs}
use Rattle.sqlite.specs.Program.{overlay}
use Rattle.sqlite.specs.Effect.{Database}
use Rattle.sqlite.specs.Command.TheVariants.{Select}
use Rattle.sqlite.specs.State.{State, Shown}
use Rattle.sqlite.proofs.Callers.{reads_as}
use Rattle.sqlite_rules.specs.Lists.{Has}
use Rattle.sat_base.specs.declared.rows.Row.{Row as Kept}
use Rattle.sat_base.specs.Rows.{Key, Rows, key_cmp, entry}
use Rattle.sat_base.specs.Rows.{AreInOrder, AreThe}
use Rattle.sat_base.proofs.KeyOrder.{keys_total, keys_exact}
use Rattle.keeper_sqlite.specs.Table.{record_schema, select_text}
use Rattle.keeper_sqlite.specs.Records.{entry_in, entry_shown, rows_in, Holds}
use Rattle.keeper_sqlite.proofs.StatementTexts.{by_key, select_is, select_plain, select_unlisted, select_query}
use Rattle.keeper_sqlite.proofs.Querying.{has_mapped, mapped_has, shown, shows}
use Rattle.sqlite_rules.proofs.ListLemmas.{all_has, all_from}
use Rattle.keeper_sqlite.specs.Opened.{HaveByteKinds, ShowByteKinds, IsShownOf}
use Rattle.sat_base.proofs.SortedEdits.{less}
use Rattle.sat_base.proofs.Tests.{equal}

abbrev Entry : Type 0
Entry = Key × List ℕ

split : (a b : Bool) → T (a && b) → T a × T b
split true b h = (tt, h)
split false b h = absurd h

below_has : (k : Key) (es : List Entry) (e : Entry) → T (below_all key_cmp k es) → Has es e → key_cmp k e.0 ≡ Less
below_has k [] e h has = absurd has
below_has k (x ∷ es) e h (inl same) = ap (λ (y : Entry). key_cmp k y.0) same ∙ less _ (split _ _ h).0
below_has k (x ∷ es) e h (inr later) = below_has k es e (split _ _ h).1 later

never : (k l : Key) → key_cmp k l ≡ Less → k ≡ l → ⊥
never k l lt same = let t : key_cmp k l ≡ Equal = ap (λ (x : Key). key_cmp x l) same ∙ tied_itself keys_total l in let c : ◌≡◌ {A = Ordering} Less Equal = sym lt ∙ t in absurd (cc)

-- one value at a key
abbrev IsFunction : List Entry → Type 0
IsFunction es = (e f : Entry) → Has es e → Has es f → e.0 ≡ f.0 → e.1 ≡ f.1

sorted_function : (es : List Entry) → T (is_sorted key_cmp es) → IsFunction es
sorted_function [] h e f he hf same = absurd he
sorted_function (x ∷ es) h e f (inl i) (inl j) same = ap (λ (y : Entry). y.1) (i ∙ sym j)
sorted_function (x ∷ es) h e f (inl i) (inr j) same = absurd (never x.0 f.0 (below_has x.0 es f (split _ _ h).0 j) (sym (ap (λ (y : Entry). y.0) i) ∙ same))
sorted_function (x ∷ es) h e f (inr i) (inl j) same = absurd (never x.0 e.0 (below_has x.0 es e (split _ _ h).0 i) (sym (ap (λ (y : Entry). y.0) j) ∙ sym same))
sorted_function (x ∷ es) h e f (inr i) (inr j) same = sorted_function es (split _ _ h).1 e f i j same

find_none : (es : List Entry) (q : Key) → ((e : Entry) → Has es e → eq_by_cmp key_cmp q e.0 ≡ false) → find key_cmp q es ≡ None
find_none [] q none = refl
find_none (x ∷ es) q none = rw (none x (inl refl)) (find_none es q (λ e h. none e (inr h)))

find_member : (es : List Entry) → IsFunction es → (e : Entry) → Has es e → find key_cmp e.0 es ≡ Some e.1
find_member [] one e h = absurd h
find_member (x ∷ es) one e h = elim (cases_Bool (eq_by_cmp key_cmp e.0 x.0)) [
  | inl t ↦ rw t (ap Some (sym (one e x h (inl refl) (keys_exact e.0 x.0 (equal _ t)))))
  | inr f ↦ elim h [
    | inl same ↦ absurd (false≢true (sym f ∙ ap (λ (y : Entry). eq_by_cmp key_cmp e.0 y.0) (sym same) ∙ ap is_eq (tied_itself keys_total e.0)))
    | inr later ↦ rw f (find_member es (λ a b ha hb. one a b (inr ha) (inr hb)) e later)
  ]
]

find_cases : (es : List Entry) (q : Key) → ((e : Entry) × Has es e × (eq_by_cmp key_cmp q e.0 ≡ true)) ⊎ ((e : Entry) → Has es e → eq_by_cmp key_cmp q e.0 ≡ false)
find_cases [] q = inr (λ e h. absurd h)
find_cases (x ∷ es) q = elim (cases_Bool (eq_by_cmp key_cmp q x.0)) [
  | inl t ↦ inl (x, inl refl, t)
  | inr f ↦ elim (find_cases es q) [
    | inl some ↦ inl (some.0, inr some.1, some.2)
    | inr none ↦ inr (λ e h. elim h [ inl same ↦ ap (λ (y : Entry). eq_by_cmp key_cmp q y.0) same ∙ f | inr later ↦ none e later ])
  ]
]

-- two lists with the same members answer alike, if one has one value at a key
finds_same : (xs ys : List Entry) → IsFunction xs → ((e : Entry) → Has xs e → Has ys e) → ((e : Entry) → Has ys e → Has xs e) → (q : Key) → find key_cmp q xs ≡ find key_cmp q ys
finds_same xs ys one to from q = elim (find_cases xs q) [
  | inl some ↦
      let same : q ≡ some.0.0 = keys_exact q some.0.0 (equal _ some.2) in
      let other : IsFunction ys = λ e f he hf. one e f (from e he) (from f hf) in
      ap (λ (k : Key). find key_cmp k xs) same ∙ find_member xs one some.0 some.1 ∙ sym (ap (λ (k : Key). find key_cmp k ys) same ∙ find_member ys other some.0 (to some.0 some.1))
  | inr none ↦ find_none xs q none ∙ sym (find_none ys q (λ e h. none e (from e h)))
]

module _ (db : Trees) (rows : List Row) (a : IsAnswerAs Null select_query (overlay db []) [] rows) where
  members_to : (e : Entry) → Has (map entry_shown rows) e → Has (map entry_in (db 0)) e
  members_to e h =
      let x = has_mapped entry_shown rows e h in
      let r = shown [] (col 1 1 ∷ col 1 2 ∷ col 1 3 ∷ []) by_key db [] rows a x.0 x.1 in
      subst (Has (map entry_in (db 0))) (sym (x.2 ∙ ap entry_shown r.3)) (mapped_has entry_in (db 0) r.0 r.1)

  members_from : (e : Entry) → Has (map entry_in (db 0)) e → Has (map entry_shown rows) e
  members_from e h =
      let r = has_mapped entry_in (db 0) e h in
      subst (Has (map entry_shown rows)) (sym r.2) (mapped_has entry_shown rows _ (shows [] (col 1 1 ∷ col 1 2 ∷ col 1 3 ∷ []) by_key db [] rows a r.0 r.1 refl))

  pub loaded : (list : List Kept) → AreInOrder list → map entry list ≡ map entry_shown rows → AreThe (rows_in db) list
  loaded list order is =
      let sorted : T (is_sorted key_cmp (map entry_shown rows)) = subst (λ (es : List Entry). T (is_sorted key_cmp es)) is order in
      let same = same_map keys_total keys_exact (from_sorted {R = key_cmp} (map entry_shown rows)) (rows_in db) (λ q.
      get-from_sorted key_cmp (map entry_shown rows) q sorted ∙ finds_same (map entry_shown rows) (map entry_in (db 0)) (sorted_function _ sorted) members_to members_from q ∙ sym (get-from_entries keys_total (map entry_in (db 0)) q)) in
      is ∙ sym (entries-from_sorted key_cmp (map entry_shown rows) sorted) ∙ ap entries same

  -- each row of the table shows, with its kind
  pub kinds_shown : ShowByteKinds rows → HaveByteKinds (db 0)
  kinds_shown bytes = all_from (λ (r : Row). (kind : ℕ) × (column r 1 ≡ Int (pos kind)) × (kind < 256)) (db 0) (λ r here.
      all_has (λ (r : Row). (kind : ℕ) × (column r 0 ≡ Int (pos kind)) × (kind < 256)) rows _ bytes (shows [] (col 1 1 ∷ col 1 2 ∷ col 1 3 ∷ []) by_key db [] rows a r here refl))

  pub shown_of : IsShownOf db rows
  shown_of = record { in_order = loaded; kinds = kinds_shown }

pub selects_shown : (old new : State) (has : old.now.schema ≡ record_schema) (rows : List Row) → Shown select_text [] old new rows → IsShownOf old.now.trees rows
selects_shown old new has rows h =
    let command = Select (record { lets = []; body = select_query }) (codes "kind" ∷ codes "id" ∷ codes "body" ∷ []) in
    shown_of old.now.trees rows ((reads_as select_text [] old new record_schema has command select_is select_plain select_unlisted rows h).answer Null)

pub reads_shown : (s t u : State) → t.now ≡ s.now → s.now ≡ s.committed → s.committed.schema ≡ record_schema → (rows : List Row) → Shown select_text [] t u rows → IsShownOf s.committed.trees rows
reads_shown s t u same settled has rows h =
    let now : t.now ≡ s.committed = same ∙ settled in
    subst (λ (d : Database). IsShownOf d.trees rows) now (selects_shown t u (ap (λ (d : Database). d.schema) now ∙ has) rows h)

-- what the select shows of a connection whose schema is the one table
pub selects : (old new : State) (has : old.now.schema ≡ record_schema) (rows : List Row) → Shown select_text [] old new rows → (list : List Kept) → AreInOrder list → map entry list ≡ map entry_shown rows → AreThe (rows_in old.now.trees) list
selects old new has rows h =
    let command = Select (record { lets = []; body = select_query }) (codes "kind" ∷ codes "id" ∷ codes "body" ∷ []) in
    loaded old.now.trees rows ((reads_as select_text [] old new record_schema has command select_is select_plain select_unlisted rows h).answer Null)

pub reads_rows : (s t u : State) → t.now ≡ s.now → s.now ≡ s.committed → (rows : List Row) → Shown select_text [] t u rows → (list : List Kept) → AreInOrder list → map entry list ≡ map entry_shown rows → (m : Rows) → Holds s.committed m → AreThe m list
reads_rows s t u same settled rows h list order is m holds =
    let now : t.now ≡ s.committed = same ∙ settled in
    let got = selects t u (ap (λ (d : Database). d.schema) now ∙ holds.schema) rows h list order is in
    got ∙ ap entries (ap (λ (d : Database). rows_in d.trees) now ∙ holds.is)
