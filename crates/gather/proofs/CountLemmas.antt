-- How answers are counted.
use Rattle.std.proofs.Common.{◌≡◌, ℕ, ◌+◌, ◌-◌, ◌^◌, ◌≤◌, List, [], ◌∷◌, ◌++◌, count_by, cond, Bool, true, false, ◌∙◌, arith, subst}
use Rattle.sat_base.specs.declared.nodes.Fetched.{Fetched}
use Rattle.sat_base.specs.Nodes.{CountsUnanswered, is_unanswered}
use Rattle.sat_base.specs.Outside.{CountsExactly}
use Rattle.gather.specs.Counting.{raised_by}
use Rattle.sat_base.proofs.Fetches.{count_by-push}

-- one more that isn't counted
pub count_none : {A : Type 0} (test : A → Bool) (xs : List A) (x : A) → count_by test xs ≡ 0 → test x ≡ false → count_by test (xs ++ x ∷ []) ≡ 0
count_none test xs x none e = count_by-push test xs x ∙ rw e (omega (arith, none))

pub counts_unanswered : (answers : List Fetched) (old new : ℕ) → new ≡ raised_by (count_by is_unanswered answers) old → CountsUnanswered answers old new
counts_unanswered answers old new e less = omega (arith, e, less)

pub counts_last : (n old new : ℕ) → new ≡ raised_by n old → old ≡ 2 ^ 64 - 1 → new ≡ 2 ^ 64 - 1
counts_last n old new e last = omega (arith, e, last)

one_counted : (failed : Bool) (old new : ℕ) → old ≤ new → new ≡ raised_by (0 + cond failed 1 0) old → CountsExactly failed old new
one_counted true old new le e = (le, omega (arith, e, le))
one_counted false old new le e = omega (arith, e, le)

-- one answer
pub counts_one : (answers : List Fetched) (fetched : Fetched) (old new : ℕ) → answers ≡ fetched ∷ [] → old ≤ new
    → new ≡ raised_by (count_by is_unanswered answers) old → CountsExactly (is_unanswered fetched) old new
counts_one answers fetched old new one le e =
    one_counted (is_unanswered fetched) old new le (subst (λ (all : List Fetched). new ≡ raised_by (count_by is_unanswered all) old) one e)
