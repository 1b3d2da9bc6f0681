-- What taking rows out of the table and putting one in does to it as a map.
use Rattle.std.proofs.Common.{◌≡◌, inl, inr, ℕ, ℤ, ◌<◌, Bool, true, false, not, cond, ◌&&◌, ◌||◌, List, [], ◌∷◌, map, filter, None, Some, refl, sym, ap, subst, ◌∙◌, is_eq, Ordering, Less, Equal, Greater}
use Rattle.std.specs.List.{list_any}
use Rattle.std.specs.Ordering.{eq_by_cmp, match_ordering}
use Rattle.std.specs.Cmp.{eq_by_cmp_equiv}
use Rattle.std.specs.FinMap.Entries.{find, where_key, find-where_key}
use Rattle.std.proofs.lemmas.Cmp.{tied_itself, alike_right}
use Rattle.std.proofs.lemmas.Bool.{cases_Bool, or_parts}
use Rattle.sqlite.specs.declared.types.Value.TheVariants.{Int}
use Rattle.sqlite.specs.Order.{Row, value_cmp}
use Rattle.sqlite.specs.Tree.{IsTable, rowid, has_rowid, put_row, without_rowid}
use Rattle.sqlite.specs.Edit.{id_in, without_all, is_taken}
use Rattle.sqlite_value.proofs.OrderLemmas.{value_cmp_total}
use Rattle.sqlite_trees.proofs.TreeLemmas.{IsTable-put_row, all-put_row}
use Rattle.sqlite_rules.specs.Lists.{Has}
use Rattle.sqlite_rules.proofs.ListLemmas.{all_has, all_from, some_has, some_from, has_filtered}
use Rattle.sqlite_rules.proofs.PlaceLemmas.{tied_same}
use Rattle.sqlite_rules.proofs.TableLemmas.{without_all_has}
use Rattle.sat_base.specs.Rows.{Key, key_cmp}
use Rattle.sat_base.proofs.KeyOrder.{keys_total, keys_exact}
use Rattle.keeper_sqlite.specs.Records.{stored, IsRecord, AreRecords, key_in, entry_in}
use Rattle.sat_base.proofs.RowEdits.{turned}
use Rattle.sat_base.proofs.Tests.{equal, exchanged, both-ways}

module _ {X : Type 0} where
  filter_all : (xs : List X) → filter (λ _. true) xs ≡ xs
  filter_all [] = refl
  filter_all (x ∷ xs) = ap (λ t. x ∷ t) (filter_all xs)

  filter_twice : (p q : X → Bool) (xs : List X) → filter p (filter q xs) ≡ filter (λ x. q x && p x) xs
  filter_twice p q [] = refl
  filter_twice p q (x ∷ xs) = elim (cases_Bool (q x)) [
    | inl t ↦ rw (t, filter_twice p q xs)
    | inr f ↦ rw (f, filter_twice p q xs)
  ]

  filter_same : (p q : X → Bool) (xs : List X) → ((x : X) → Has xs x → p x ≡ q x) → filter p xs ≡ filter q xs
  filter_same p q [] same = refl
  filter_same p q (x ∷ xs) same = rw (same x (inl refl), filter_same p q xs (λ y h. same y (inr h)))

none_of : (a b : Bool) → (not a && not b) ≡ not (a || b)
none_of true b = refl
none_of false b = refl

any_id : List ℤ → Row → Bool
any_id ids r = list_any (λ i. has_rowid i r) ids

left_is : (ids : List ℤ) (rows : List Row) → without_all rows ids ≡ filter (λ r. not (list_any (λ i. has_rowid i r) ids)) rows
left_is [] rows = sym (filter_all rows)
left_is (id ∷ ids) rows = left_is ids (without_rowid id rows) ∙ filter_twice _ _ rows ∙ filter_same _ _ rows (λ r _. none_of (has_rowid id r) (list_any (λ i. has_rowid i r) ids))

without_table : (ids : List ℤ) (rows : List Row) → IsTable rows → IsTable (without_all rows ids)
without_table [] rows up = up
without_table (id ∷ ids) rows up = without_table ids (without_rowid id rows) (ascending (λ r. not (has_rowid id r)) rows up)
  where
    ascending : (p : Row → Bool) (rows : List Row) → IsTable rows → IsTable (filter p rows)
    ascending p [] up = tt
    ascending p (r ∷ rows) up = elim (cases_Bool (p r)) [
      | inl t ↦ rw t (all_from _ (filter p rows) (λ x h. all_has _ rows x up.0 (has_filtered p rows x h).0), ascending p rows up.1)
      | inr f ↦ rw f (ascending p rows up.1)
    ]

map_where : (p : Key → Bool) (rows : List Row) → map entry_in (filter (λ r. p (key_in r)) rows) ≡ where_key key_cmp p (map entry_in rows)
map_where p [] = refl
map_where p (r ∷ rows) = elim (cases_Bool (p (key_in r))) [
  | inl t ↦ rw (t, map_where p rows)
  | inr f ↦ rw (f, map_where p rows)
]

-- these rowids are those of the rows with the key
pub record AreIdsOf (rows : List Row) (key : Key) (ids : List ℤ) : Type 0 where
  pub sound : (i : ℤ) → Has ids i → (r : Row) × Has rows r × (key_in r ≡ key) × (rowid r ≡ Int i)
  pub complete : (r : Row) → Has rows r → key_in r ≡ key → Has ids (id_in (rowid r))

module _ (rows : List Row) (ours : AreRecords rows) (key : Key) where
  module _ (ids : List ℤ) (are : AreIdsOf rows key ids) where
    rowid_of : (r : Row) → Has rows r → rowid r ≡ Int (id_in (rowid r))
    rowid_of r h = let it = all_has _ rows r ours.1 h in rw it.is

    picked : (r : Row) → Has rows r → list_any (λ i. has_rowid i r) ids ≡ eq_by_cmp key_cmp key (key_in r)
    picked r h = both-ways _ _
        (λ t. let some = some_has (λ i. has_rowid i r) ids t in
        let it = are.sound some.0 some.1 in
        let same : r ≡ it.0 = tied_same rows r it.0 ours.0 h it.1 (subst (λ v. value_cmp (rowid r) v ≡ Equal) (sym it.3) (equal _ some.2)) in
        ap (λ (x : Row). eq_by_cmp key_cmp key (key_in x)) same ∙ ap (eq_by_cmp key_cmp key) it.2 ∙ ap is_eq (tied_itself keys_total key))
        (λ t. let has = are.complete r h (sym (keys_exact key (key_in r) (equal _ t))) in
        some_from (λ i. has_rowid i r) ids (id_in (rowid r)) has (ap (λ v. is_eq (value_cmp v (Int (id_in (rowid r))))) (rowid_of r h) ∙ ap is_eq (tied_itself value_cmp_total (Int (id_in (rowid r))))))

    left_by_key : without_all rows ids ≡ filter (λ r. not (eq_by_cmp key_cmp key (key_in r))) rows
    left_by_key = left_is ids rows ∙ filter_same _ _ rows (λ r h. ap not (picked r h))

    pub left_records : AreRecords (without_all rows ids)
    left_records = (without_table ids rows ours.0, all_from _ _ (λ r h. all_has _ rows r ours.1 (without_all_has ids rows r h)))

    pub left_lacks : (r : Row) → Has (without_all rows ids) r → eq_by_cmp key_cmp key (key_in r) ≡ false
    left_lacks r h = not_false _ (has_filtered _ rows r (subst (λ (xs : List Row). Has xs r) left_by_key h)).1
      where
        not_false : (b : Bool) → not b ≡ true → b ≡ false
        not_false true h = sym h
        not_false false h = refl

    pub left_finds : (q : Key) → find key_cmp q (map entry_in (without_all rows ids)) ≡ cond (eq_by_cmp key_cmp q key) None (find key_cmp q (map entry_in rows))
    left_finds q =
        ap (λ (xs : List Row). find key_cmp q (map entry_in xs)) left_by_key ∙ ap (find key_cmp q) (map_where (λ x. not (eq_by_cmp key_cmp key x)) rows)
        ∙ find-where_key key_cmp (λ x. not (eq_by_cmp key_cmp key x)) q (λ x e. ap (λ r. not (is_eq r)) (sym (alike_right keys_total q x key e))) (map entry_in rows)
        ∙ turned (eq_by_cmp key_cmp key q) _ _ ∙ ap (λ b. cond b None (find key_cmp q (map entry_in rows))) ((eq_by_cmp_equiv keys_total).symm key q)

module _ (at : ℤ) (kind : ℕ) (id body : List ℕ) (small : kind < 256) where
  abbrev new : Row
  new = stored at kind id body

  pub put_records : (rows : List Row) → AreRecords rows → AreRecords (put_row new rows)
  put_records rows ours = (IsTable-put_row new rows ours.0, all-put_row IsRecord new rows (record { rowid = at; kind = kind; id = id; body = body; is = refl; small = small }) ours.1)

  apart : (r : Row) (q : Key) → eq_by_cmp key_cmp (kind, id) (key_in r) ≡ false → eq_by_cmp key_cmp q (key_in r) ≡ true → eq_by_cmp key_cmp q (kind, id) ≡ true → ⊥
  apart r q other a b =
      let k : q ≡ key_in r = keys_exact _ _ (equal _ a) in
      let l : q ≡ (kind, id) = keys_exact _ _ (equal _ b) in
      let t = ap (λ (x : Key). eq_by_cmp key_cmp x (key_in r)) (sym l) ∙ ap (λ (x : Key). eq_by_cmp key_cmp x (key_in r)) k ∙ ap is_eq (tied_itself keys_total (key_in r)) in cc

  pub put_finds : (rows : List Row) → is_taken rows new ≡ false → ((r : Row) → Has rows r → eq_by_cmp key_cmp (kind, id) (key_in r) ≡ false) → (q : Key)
      → find key_cmp q (map entry_in (put_row new rows)) ≡ cond (eq_by_cmp key_cmp q (kind, id)) (Some body) (find key_cmp q (map entry_in rows))
  put_finds [] free lacks q = refl
  put_finds (r ∷ rows) free lacks q = go (value_cmp (rowid r) (rowid new)) refl (or_parts _ _ free).0 (put_finds rows (or_parts _ _ free).1 (λ x h. lacks x (inr h)) q)
    where
      go : (o : Ordering) → value_cmp (rowid r) (rowid new) ≡ o → is_eq (value_cmp (rowid r) (rowid new)) ≡ false → find key_cmp q (map entry_in (put_row new rows)) ≡ cond (eq_by_cmp key_cmp q (kind, id)) (Some body) (find key_cmp q (map entry_in rows))
          → find key_cmp q (map entry_in (match_ordering o (r ∷ put_row new rows) (new ∷ rows) (new ∷ r ∷ rows))) ≡ cond (eq_by_cmp key_cmp q (kind, id)) (Some body) (find key_cmp q (map entry_in (r ∷ rows)))
      go Less e f later = ap (cond (eq_by_cmp key_cmp q (key_in r)) (Some (entry_in r).1)) later ∙ exchanged (eq_by_cmp key_cmp q (key_in r)) (eq_by_cmp key_cmp q (kind, id)) _ _ _ (apart r q (lacks r (inl refl)))
      go Equal e f later = absurd (let g = ap is_eq e in cc)
      go Greater e f later = refl
