-- How the rows of one kind answer to their keys, as one record is put or removed.
use Rattle.std.proofs.Common.{◌≡◌, ℕ, Bool, true, false, cond, List, [], ◌∷◌, Option, Some, None, refl, sym, ap, ◌∙◌}
use Rattle.std.specs.Prelude.{map, not, ◌==◌, nat_lt, if◌then◌else◌}
use Rattle.std.specs.Ordering.{eq_by_cmp}
use Rattle.std.specs.FinMap.{find}
use Rattle.sat_base.specs.declared.rows.Row.{Row}
use Rattle.sat_base.specs.Rows.{Key, key_cmp, key_of, entry}
use Rattle.sat_base.proofs.KeyOrder.{keys_exact}
use Rattle.rows.specs.Rows.{without}
use Rattle.rows.specs.Slots.{with_row}
use Rattle.machine_step.specs.Bounds.{Each}
use Rattle.sat_base.proofs.Tests.{equal, exchanged}

-- two keys are the same
abbrev pub ties : Key → Key → Bool
ties one other = eq_by_cmp key_cmp one other

-- only equal keys tie
pub tied : (one other : Key) → ties one other ≡ true → one ≡ other
tied one other e = keys_exact one other (equal (key_cmp one other) e)

-- what a list answers at a key
abbrev pub at_key : Key → List (Key × List ℕ) → Option (List ℕ)
at_key q es = find key_cmp q es

-- ---- choices

absorbed : {A : Type 0} (a b : Bool) (x y z : A) → b ≡ a → cond a x z ≡ cond a x (cond b y z)
absorbed true b x y z e = refl
absorbed false b x y z e = rw e refl

pub cond_same : {A : Type 0} (b : Bool) (x : A) → x ≡ cond b x x
cond_same true x = refl
cond_same false x = refl

-- ---- records of one kind

module _ {R : Type 0} (rank : R → ℕ) (row : R → Row) where
  abbrev pub entries_of : List R → List (Key × List ℕ)
  entries_of all = map entry (map row all)

  -- the ranks tell the keys of a record and another apart
  abbrev pub IsTold : R → R → Type 0
  IsTold one other = ties (key_of (row one)) (key_of (row other)) ≡ (rank one == rank other)

  at_replaced : (first one : R) (rest : List R) (q : Key) → ties (key_of (row first)) (key_of (row one)) ≡ true
      → at_key q (entries_of (one ∷ rest)) ≡ cond (ties q (key_of (row one))) (Some (row one).body) (at_key q (entries_of (first ∷ rest)))
  at_replaced first one rest q tie =
      let same : key_of (row first) ≡ key_of (row one) = tied (key_of (row first)) (key_of (row one)) tie in
      absorbed (ties q (key_of (row one))) (ties q (key_of (row first))) _ _ _ (ap (ties q) same)

  at_skipped : (first : R) (key : Key) (v : Option (List ℕ)) (old new : List R) (q : Key) → ties (key_of (row first)) key ≡ false
      → at_key q (entries_of new) ≡ cond (ties q key) v (at_key q (entries_of old))
      → at_key q (entries_of (first ∷ new)) ≡ cond (ties q key) v (at_key q (entries_of (first ∷ old)))
  at_skipped first key v old new q apart behind =
      let other : ties q (key_of (row first)) ≡ true → ties q key ≡ true → ⊥ = λ a b.
      let here : q ≡ key_of (row first) = tied q (key_of (row first)) a in
      let no : true ≡ false = sym b ∙ ap (λ (k : Key). ties k key) here ∙ apart in
      cc in
      ap (λ (o : Option (List ℕ)). cond (ties q (key_of (row first))) (Some (row first).body) o) behind
      ∙ exchanged (ties q (key_of (row first))) (ties q key) _ _ _ other

  -- a record that is put answers at its key, and the others as before
  pub at_with_row : (all : List R) (one : R) (q : Key) → Each (λ first. IsTold first one) all → (tell : (first : R) → (rank one == rank first) ≡ (rank first == rank one))
      → at_key q (entries_of (with_row rank all one)) ≡ cond (ties q (key_of (row one))) (Some (row one).body) (at_key q (entries_of all))
  at_with_row [] one q told tell = refl
  at_with_row (first ∷ rest) one q told tell =
      go (nat_lt (rank one) (rank first)) (rank one == rank first) refl (at_with_row rest one q told.1 tell)
    where
      go : (less same : Bool) → (rank one == rank first) ≡ same
          → at_key q (entries_of (with_row rank rest one)) ≡ cond (ties q (key_of (row one))) (Some (row one).body) (at_key q (entries_of rest))
          → at_key q (entries_of (if less then one ∷ first ∷ rest else if same then one ∷ rest else first ∷ with_row rank rest one))
          ≡ cond (ties q (key_of (row one))) (Some (row one).body) (at_key q (entries_of (first ∷ rest)))
      go true same is behind = refl
      go false true is behind = at_replaced first one rest q (told.0 ∙ sym (tell first) ∙ is)
      go false false is behind = at_skipped first (key_of (row one)) (Some (row one).body) rest (with_row rank rest one) q (told.0 ∙ sym (tell first) ∙ is) behind

  -- a record that is removed answers no more, and the others as before
  pub at_without : (all : List R) (gone : Key) (k : ℕ) (q : Key) → Each (λ first. ties (key_of (row first)) gone ≡ (rank first == k)) all
      → at_key q (entries_of (without rank all k)) ≡ cond (ties q gone) None (at_key q (entries_of all))
  at_without [] gone k q told = cond_same (ties q gone) None
  at_without (first ∷ rest) gone k q told = go (rank first == k) refl (at_without rest gone k q told.1)
    where
      go : (same : Bool) → (rank first == k) ≡ same
          → at_key q (entries_of (without rank rest k)) ≡ cond (ties q gone) None (at_key q (entries_of rest))
          → at_key q (entries_of (cond (not same) (first ∷ without rank rest k) (without rank rest k)))
          ≡ cond (ties q gone) None (at_key q (entries_of (first ∷ rest)))
      go true is behind =
          let here : key_of (row first) ≡ gone = tied (key_of (row first)) gone (told.0 ∙ is) in
          behind ∙ absorbed (ties q gone) (ties q (key_of (row first))) _ _ _ (ap (ties q) here)
      go false is behind = at_skipped first gone None rest (without rank rest k) q (told.0 ∙ is) behind
