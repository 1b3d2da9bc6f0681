-- A scheme is what its numbers are checked to.
use Rattle.std.proofs.Common.{◌≡◌, ℕ, Result, Ok, Err, Some, ◌↔◌, ◌∙◌, sym, ap, subst, refl}
use Rattle.std.specs.Prelude.{IsOk, IfOk}
use Rattle.std.specs.Result.{result_ok}
use Rattle.sat_base.specs.declared.scheme.Scheme.{Scheme}
use Rattle.sat_base.specs.declared.scheme.SchemeErr.{SchemeErr}
use Rattle.sat_base.specs.Scheme.{IsScheme}
use Rattle.record_rows.specs.Laws.Records.{numbers_of, one_scheme, rules_of}

abbrev AreScheme : ℕ × (ℕ × (ℕ × (ℕ × ℕ))) → Type 0
AreScheme p = IsScheme p.0 p.1.0 p.1.1.0 p.1.1.1.0 p.1.1.1.1

abbrev HasNumbers : ℕ × (ℕ × (ℕ × (ℕ × ℕ))) → Scheme → Type 0
HasNumbers p s = (s.k ≡ p.0) × (s.m ≡ p.1.0) × (s.o ≡ p.1.1.0) × (s.n ≡ p.1.1.1.0) × (s.share ≡ p.1.1.1.1)

pub checked : (result : Result Scheme SchemeErr) (x : Scheme) (p : ℕ × (ℕ × (ℕ × (ℕ × ℕ))))
    → (IsOk result ↔ AreScheme p) → IfOk result (HasNumbers p) → numbers_of x ≡ p → result_ok result ≡ Some x
checked (Ok s) x p ok numbers same =
    let given : numbers_of s ≡ p = rw (numbers.0, numbers.1, numbers.2, numbers.3, numbers.4) refl in
    ap Some (one_scheme s x (given ∙ sym same))
checked (Err e) x p ok numbers same = let is_ok = ok.1 (subst AreScheme same (rules_of x)) in absurd (cc)
