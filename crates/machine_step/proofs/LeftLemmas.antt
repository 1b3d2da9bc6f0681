-- The rule of nodes that left, by the rows and the nodes that keep it.
use Rattle.std.proofs.Common.{◌≡◌, ℕ, Bool, true, not, List, [], ◌∷◌, ◌++◌, None, refl, ap, ◌∙◌, arith}
use Rattle.std.specs.Prelude.{map, filter}
use Rattle.std.specs.List.{list_all}
use Rattle.std.proofs.lemmas.Bool.Decides.{nat_tests}
use Rattle.sat_base.specs.declared.settings.Marks.{Marks}
use Rattle.node_registry.specs.declared.node.Node.{Node}
use Rattle.node_registry.specs.declared.node.Left.{Left}
use Rattle.machine_step.specs.Rules.{least}
use Rattle.machine_step.specs.PlanRules.{is_sound_left, is_accounted, bad_lefts, missing_lefts, bad_left}

pub least-none : (xs : List ℕ) → least xs ≡ None → xs ≡ []
least-none [] none = refl
least-none (x ∷ xs) none = cc

none-append : (xs ys : List ℕ) → xs ++ ys ≡ [] → (xs ≡ []) × (ys ≡ [])
none-append [] ys none = (refl, none)
none-append (x ∷ xs) ys none = cc

module _ {X : Type 0} (good : X → Bool) (id : X → ℕ) where
  none-bad : (xs : List X) → map id (filter (λ x. not (good x)) xs) ≡ [] → list_all good xs ≡ true
  none-bad [] none = refl
  none-bad (x ∷ xs) none = grind (arith, nat_tests, none, none-bad xs)

  bad-none : (xs : List X) → list_all good xs ≡ true → map id (filter (λ x. not (good x)) xs) ≡ []
  bad-none [] all = refl
  bad-none (x ∷ xs) all = grind (arith, nat_tests, all, bad-none xs)

module _ (marks : Marks) (nodes : List Node) (rows : List Left) where
  pub lefts-kept : bad_left marks nodes rows ≡ None → (list_all (is_sound_left marks nodes) rows ≡ true) × (list_all (is_accounted rows) nodes ≡ true)
  lefts-kept none =
      let both = none-append (bad_lefts marks nodes rows) (missing_lefts rows nodes) (least-none (bad_lefts marks nodes rows ++ missing_lefts rows nodes) none) in
      (none-bad (is_sound_left marks nodes) (λ left. left.node.0) rows both.0, none-bad (is_accounted rows) (λ node. node.id.0) nodes both.1)

  pub kept-lefts : list_all (is_sound_left marks nodes) rows ≡ true → list_all (is_accounted rows) nodes ≡ true → bad_left marks nodes rows ≡ None
  kept-lefts sound accounted =
      let none = bad-none (is_sound_left marks nodes) (λ left. left.node.0) rows sound in
      let all = bad-none (is_accounted rows) (λ node. node.id.0) nodes accounted in
      ap (λ (xs : List ℕ). least (xs ++ missing_lefts rows nodes)) none ∙ ap least all
