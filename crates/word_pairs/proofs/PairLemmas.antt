-- The pairs of a command line, from a place on.
use Rattle.std.proofs.Common.{◌≡◌, ℕ, zero, suc, ◌+◌, ◌-◌, ◌<◌, ◌≤◌, Bool, true, false, List, [], ◌∷◌, length, drop, Option, Some, None, refl, sym, ap, ◌∙◌, arith, add-one}
use Rattle.std.specs.Prelude.{slice_get, ◌&&◌, is_none, is_some, not, option_map}
use Rattle.std.specs.List.{list_any}
use Rattle.std.proofs.lemmas.Option.{same_Some}
use denote.Ref.{Bor}
use Rattle.sat_base.specs.Text.{same}
use Rattle.word_pairs.specs.Pairs.{is_value, value_of, is_pair, is_form, texts, is_named}

pub any_text : (names : List (Bor (List ℕ))) (name : List ℕ) → is_named names name ≡ list_any (λ n. same n name) (texts names)
any_text [] name = refl
any_text (n ∷ names) name = rw (any_text names name) refl

-- ---- two words at a place

two : (words : List (List ℕ)) (i : ℕ) → i + 2 ≤ length words → (b : List ℕ) × ((a : List ℕ) → slice_get words i ≡ Some a → drop i words ≡ a ∷ b ∷ drop (suc (suc i)) words) × (slice_get words (suc i) ≡ Some b)
two [] i le = absurd (omega arith)
two (w ∷ []) zero le = absurd (omega arith)
two (w ∷ v ∷ words) zero le = (v, λ a e. rw (same_Some _ _ e) refl, refl)
two (w ∷ words) (suc i) le = two words i (omega arith)

module _ (words : List (List ℕ)) (i : ℕ) (a : List ℕ) (le : i + 2 ≤ length words) (e : slice_get words i ≡ Some a) where
  shape : (b : List ℕ) × (drop i words ≡ a ∷ b ∷ drop (i + 2) words) × (slice_get words (i + 1) ≡ Some b)
  shape =
      let t = two words i le in
      let n : suc (suc i) ≡ i + 2 = omega arith in
      (t.0, t.1 a e ∙ ap (λ m. a ∷ t.0 ∷ drop m words) n, ap (slice_get words) (add-one i) ∙ t.2)

  pub other_name : (name : List ℕ) → same a name ≡ false → value_of name (drop i words) ≡ value_of name (drop (i + 2) words)
  other_name name ne = rw (shape.1, ne) refl

  pub this_name : (name b : List ℕ) → slice_get words (i + 1) ≡ Some b → same a name ≡ true → value_of name (drop i words) ≡ Some b
  this_name name b f is = rw (shape.1, is) (sym shape.2 ∙ f)

  pub strange_name : (names : List (List ℕ)) → list_any (λ n. same n a) names ≡ false → is_pair names (drop i words) ≡ false
  strange_name names strange = rw (shape.1, strange) refl

  pub no_value : (names : List (List ℕ)) (b : List ℕ) → slice_get words (i + 1) ≡ Some b → list_any (λ n. same n a) names ≡ true → is_value b ≡ false → is_pair names (drop i words) ≡ false
  no_value names b f known bad = let same_b : shape.0 ≡ b = same_Some _ _ (sym shape.2 ∙ f) in rw (shape.1, known, same_b, bad) refl

  pub a_value : (names : List (List ℕ)) (b : List ℕ) → slice_get words (i + 1) ≡ Some b → list_any (λ n. same n a) names ≡ true → is_value b ≡ true → is_pair names (drop i words) ≡ is_none (value_of a (drop (i + 2) words))
  a_value names b f known good = let same_b : shape.0 ≡ b = same_Some _ _ (sym shape.2 ∙ f) in rw (shape.1, known, same_b, good) refl

form_two : (names words : List (List ℕ)) (i : ℕ) → i + 2 ≤ length words → is_form names (drop i words) ≡ (is_pair names (drop i words) && is_form names (drop (suc (suc i)) words))
form_two names [] i le = absurd (omega arith)
form_two names (w ∷ []) zero le = absurd (omega arith)
form_two names (w ∷ v ∷ words) zero le = refl
form_two names (w ∷ words) (suc i) le = form_two names words i (omega arith)

pub bad_pair : (names words : List (List ℕ)) (i : ℕ) → i + 2 ≤ length words → is_pair names (drop i words) ≡ false → is_form names (drop i words) ≡ false
bad_pair names words i le bad = rw (form_two names words i le, bad) refl

pub good_pair : (names words : List (List ℕ)) (i : ℕ) → i + 2 ≤ length words → is_pair names (drop i words) ≡ true → is_form names (drop i words) ≡ is_form names (drop (i + 2) words)
good_pair names words i le good =
    let n : suc (suc i) ≡ i + 2 = omega arith in
    rw (form_two names words i le, good) (ap (λ m. is_form names (drop m words)) n)

pub unsaid : (o : Option (Bor (List ℕ))) (b : Bool) → is_some o ≡ not b → b ≡ is_none (option_map (λ (v : Bor (List ℕ)). v.now) o)
unsaid None true e = refl
unsaid None false e = absurd cc
unsaid (Some v) true e = absurd cc
unsaid (Some v) false e = refl

-- ---- fewer than two

pub no_pair : (words : List (List ℕ)) (i : ℕ) (name : List ℕ) → length words - i < 2 → value_of name (drop i words) ≡ None
no_pair [] zero name lt = refl
no_pair [] (suc i) name lt = refl
no_pair (w ∷ []) zero name lt = refl
no_pair (w ∷ v ∷ words) zero name lt = absurd (omega arith)
no_pair (w ∷ words) (suc i) name lt = no_pair words i name (omega arith)

pub odd_word : (names words : List (List ℕ)) (i : ℕ) → i < length words → length words - i < 2 → is_form names (drop i words) ≡ false
odd_word names [] i lt few = absurd (omega arith)
odd_word names (w ∷ []) zero lt few = refl
odd_word names (w ∷ v ∷ words) zero lt few = absurd (omega arith)
odd_word names (w ∷ words) (suc i) lt few = odd_word names words i (omega arith) (omega arith)
