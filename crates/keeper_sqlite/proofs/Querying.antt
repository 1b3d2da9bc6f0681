-- Which rows a query over the one table shows.
use Rattle.std.proofs.Common.{◌≡◌, inl, inr, pos, negsuc, true, false, cond, List, [], ◌∷◌, map, flat_map, None, refl, sym, ap, subst, ◌∙◌}
use Rattle.std.specs.List.{list_all}
use Rattle.std.specs.List.Sorted.{IsPermutation}
use Rattle.std.proofs.lemmas.List.Sorted.{IsPermutation-sym, Contains-permutation}
use Rattle.std.proofs.lemmas.Bool.{cases_Bool}
use Rattle.sqlite.specs.declared.types.Value.TheVariants.{Null, Int}
use Rattle.sqlite.specs.Order.{Row}
use Rattle.sqlite.specs.Tree.{Trees}
use Rattle.sqlite.specs.Term.{Term, Env, lit, eval_all, holds}
use Rattle.sqlite.specs.Query.{Query, inner, end, IsAnswerAs, Output, output}
use Rattle.sqlite.specs.Program.{overlay}
use Rattle.sqlite_value.specs.declared.keys.Key.{Key}
use Rattle.sqlite_rules.specs.Lists.{Has}
use Rattle.sqlite_rules.proofs.ListLemmas.{has_left, has_right, has_either, has_contained, contains_had}

pub has_mapped : {X Y : Type 0} (f : X → Y) (xs : List X) (y : Y) → Has (map f xs) y → (x : X) × Has xs x × (y ≡ f x)
has_mapped f [] y h = absurd h
has_mapped f (x ∷ xs) y (inl h) = (x, inl refl, h)
has_mapped f (x ∷ xs) y (inr h) = let it = has_mapped f xs y h in (it.0, inr it.1, it.2)

pub mapped_has : {X Y : Type 0} (f : X → Y) (xs : List X) (x : X) → Has xs x → Has (map f xs) (f x)
mapped_has f [] x h = absurd h
mapped_has f (y ∷ xs) x (inl h) = inl (ap f h)
mapped_has f (y ∷ xs) x (inr h) = inr (mapped_has f xs x h)

has_flat : {X Y : Type 0} (f : X → List Y) (xs : List X) (y : Y) → Has (flat_map f xs) y → (x : X) × Has xs x × Has (f x) y
has_flat f [] y h = absurd h
has_flat f (x ∷ xs) y h = elim (has_either (f x) (flat_map f xs) y h) [
  | inl here ↦ (x, inl refl, here)
  | inr later ↦ let it = has_flat f xs y later in (it.0, inr it.1, it.2)
]

flat_has : {X Y : Type 0} (f : X → List Y) (xs : List X) (x : X) (y : Y) → Has xs x → Has (f x) y → Has (flat_map f xs) y
flat_has f [] x y h k = absurd h
flat_has f (z ∷ xs) x y (inl same) k = has_left (f z) (flat_map f xs) y (subst (λ t. Has (f t) y) same k)
flat_has f (z ∷ xs) x y (inr later) k = has_right (f z) (flat_map f xs) y (flat_has f xs x y later k)

moved : {X : Type 0} (xs ys : List X) (x : X) → IsPermutation xs ys → Has xs x → Has ys x
moved xs ys x h has = has_contained ys x (Contains-permutation xs ys x h (contains_had xs x has))

-- a query of one table, with no group and no page
abbrev pub simple : List Term → List Term → List (Term × Key) → Query
simple filter project order = record {
  from = inner 0 end;
  filter = filter;
  group = None;
  project = project;
  distinct = false;
  collations = [];
  order = order;
  limit = lit (Int (negsuc 0));
  offset = lit (Int (pos 0));
}

module _ (filter project : List Term) (order : List (Term × Key)) (db : Trees) (params : Row) (rows : List Row) (a : IsAnswerAs Null (simple filter project order) (overlay db []) params rows) where
  abbrev env : Row → Env
  env r = params ∷ r ∷ []

  abbrev matching : Row → List Env
  matching r = cond (list_all (holds (env r)) filter) (env r ∷ []) []

  abbrev shown_of : Row → Output
  shown_of r = output (simple filter project order) (env r)

  staged_is : a.staged ≡ flat_map matching (db 0)
  staged_is = a.grouped

  matched : (r : Row) (e : Env) → Has (matching r) e → (list_all (holds (env r)) filter ≡ true) × (e ≡ env r)
  matched r e h = elim (cases_Bool (list_all (holds (env r)) filter)) [
    | inl t ↦ elim (rw t at h) [ inl same ↦ (t, same) | inr none ↦ absurd none ]
    | inr f ↦ absurd (rw f at h)
  ]

  pub shown : (x : Row) → Has rows x → (r : Row) × Has (db 0) r × (list_all (holds (env r)) filter ≡ true) × (x ≡ eval_all project (env r))
  shown x h =
      let o = has_mapped (λ (p : Output). p.1) a.ordered x (subst (λ (xs : List Row). Has xs x) a.shown h) in
      let k = moved a.ordered a.kept o.0 (IsPermutation-sym a.kept a.ordered a.same) o.1 in
      let e = has_mapped (output (simple filter project order)) a.staged o.0 (subst (λ (xs : List Output). Has xs o.0) a.distinct k) in
      let r = has_flat matching (db 0) e.0 (subst (λ (xs : List Env). Has xs e.0) staged_is e.1) in
      let m = matched r.0 e.0 r.2 in
      (r.0, r.1, m.0, o.2 ∙ ap (λ (p : Output). p.1) e.2 ∙ ap (eval_all project) m.1)

  pub shows : (r : Row) → Has (db 0) r → list_all (holds (env r)) filter ≡ true → Has rows (eval_all project (env r))
  shows r h t =
      let e = subst (λ (xs : List Env). Has xs (env r)) (sym staged_is) (flat_has matching (db 0) r (env r) h (rw t (inl refl))) in
      let k = subst (λ (xs : List Output). Has xs (shown_of r)) (sym a.distinct) (mapped_has (output (simple filter project order)) a.staged (env r) e) in
      let o = moved a.kept a.ordered (shown_of r) a.same k in
      subst (λ (xs : List Row). Has xs (eval_all project (env r))) (sym a.shown) (mapped_has (λ (p : Output). p.1) a.ordered (shown_of r) o)
