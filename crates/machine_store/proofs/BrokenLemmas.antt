-- An error of one part of the rules is that of all of them, where those before it are kept.
use Rattle.std.proofs.Common.{◌≡◌, List, [], ◌∷◌, ◌++◌, Option, Some, None, Result, Ok, Err, sym, subst}
use Rattle.std.specs.Result.{IsErrAnd}
use Rattle.machine_step.specs.Tables.{Tables}
use Rattle.machine_step.specs.Broken.{Broken, first_some, first_broken}
use Rattle.machine_store.specs.declared.opening.CoreErr.{CoreErr}
use Rattle.machine_store.specs.declared.opening.CoreErr.TheVariants as errs
use Rattle.machine_store.specs.Opening.{NamesSome, Tests}
use Rattle.machine_store.specs.Testing.{front_tests, paid_tests, rest_tests}

-- an error that is handed on names what it named
pub tests-back : {T : Type 0} (r : Result T CoreErr) (err : CoreErr) (o : Option Broken) → IsErrAnd r (λ e. e ≡ err) → NamesSome err o → Tests r o
tests-back (Ok made) err o back named = absurd back
tests-back (Err e) err o back named = subst (λ (x : CoreErr). NamesSome x o) (sym back) named

-- an error of the front of a list of rules is the list's
named_front : (err : CoreErr) (xs ys : List (Option Broken)) → NamesSome err (first_some xs) → NamesSome err (first_some (xs ++ ys))
named_front (errs.Rule rule kind id) [] ys is = cc
named_front errs.NoMemory [] ys is = tt
named_front err (None ∷ xs) ys is = named_front err xs ys is
named_front err (Some b ∷ xs) ys is = is

-- behind a front that is kept, an error is that of the rest
named_behind : (err : CoreErr) (xs ys : List (Option Broken)) → first_some xs ≡ None → NamesSome err (first_some ys) → NamesSome err (first_some (xs ++ ys))
named_behind err [] ys none is = is
named_behind err (None ∷ xs) ys none is = named_behind err xs ys none is
named_behind err (Some b ∷ xs) ys none is = cc

module _ (t : Tables) (front : first_some (front_tests t) ≡ None) where
  pub at_paid : (err : CoreErr) → NamesSome err (first_some (paid_tests t)) → NamesSome err (first_broken t)
  at_paid err is = named_behind err (front_tests t) (paid_tests t ++ rest_tests t) front (named_front err (paid_tests t) (rest_tests t) is)

  pub at_rest : first_some (paid_tests t) ≡ None → (err : CoreErr) → NamesSome err (first_some (rest_tests t)) → NamesSome err (first_broken t)
  at_rest paid err is = named_behind err (front_tests t) (paid_tests t ++ rest_tests t) front (named_behind err (paid_tests t) (rest_tests t) paid is)
