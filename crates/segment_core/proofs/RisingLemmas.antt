-- Rising places, by their list's two facts.
use Rattle.std.proofs.Common.{◌≡◌, ◌≤◌, ◌<◌, ◌+◌, ℕ, zero, suc, List, [], ◌∷◌, get_or, arith, refl, Bool, true, false}
use Rattle.std.specs.Prelude.{All, AllPairs, ◌||◌, nat_lt, nat_le, if◌then◌else◌}
use Rattle.std.proofs.lemmas.Bool.Decides.{nat_tests}
use Rattle.std.proofs.lemmas.List.Kept.{AllPairs-cons}
use Rattle.sat_base.specs.declared.records.At.{At}
use Rattle.segment_core.specs.Places.{IsByIndex}
use Rattle.segment_core.specs.Rising.{is_rising}

abbrev R : At → At → Type 0
R a b = a.index < b.index

abbrev Low : At → Type 0
Low p = p.index < 128

abbrev From : ℕ → At → Type 0
From least p = least ≤ p.index

parted : (a b r : Bool) → (if a || b then false else r) ≡ true → (a ≡ false) × (b ≡ false) × (r ≡ true)
parted true b r e = absurd (grind (arith, e))
parted false true r e = absurd (grind (arith, e))
parted false false r e = (refl, refl, e)

all_cons : (F : At → Type 0) (p : At) (ps : List At) → F p → All F ps → All F (p ∷ ps)
all_cons F p ps h t zero d lt = h
all_cons F p ps h t (suc k) d lt = t k d (omega arith)

pairs_tail : (p : At) (ps : List At) → AllPairs R (p ∷ ps) → AllPairs R ps
pairs_tail p ps h i j d lt w = h (suc i) (suc j) d (omega arith) (omega arith)

all_tail : (F : At → Type 0) (p : At) (ps : List At) → All F (p ∷ ps) → All F ps
all_tail F p ps h k d lt = h (suc k) d (omega arith)

pub sound : (least : ℕ) (ps : List At) → is_rising least ps ≡ true → IsByIndex ps × (All Low ps × All (From least) ps)
sound least [] e = ((λ i j d lt w. absurd (omega arith)), ((λ k d lt. absurd (omega arith)), (λ k d lt. absurd (omega arith))))
sound least (p ∷ ps) e =
    let t = parted (nat_lt p.index least) (nat_le 128 p.index) (is_rising (p.index + 1) ps) e in
    let r = sound (p.index + 1) ps t.2 in
    let a : least ≤ p.index = grind (arith, nat_tests, t.0) in
    let b : p.index < 128 = grind (arith, nat_tests, t.1) in
    let above : All (R p) ps = λ k d lt. let x : p.index + 1 ≤ (get_or ps k d).index = r.1.1 k d lt in omega arith in
    let more : All (From least) ps = λ k d lt. let x : p.index + 1 ≤ (get_or ps k d).index = r.1.1 k d lt in omega arith in
    (AllPairs-cons R p ps above r.0, (all_cons Low p ps b r.1.0, all_cons (From least) p ps a more))

tests : (a b : Bool) (r : Bool) → a ≡ false → b ≡ false → r ≡ true → (if a || b then false else r) ≡ true
tests a b r e f h = rw (e, f) h

pub complete : (least : ℕ) (ps : List At) → IsByIndex ps → All Low ps → All (From least) ps → is_rising least ps ≡ true
complete least [] rise low from = refl
complete least (p ∷ ps) rise low from =
    let a : least ≤ p.index = from 0 p (omega arith) in
    let b : p.index < 128 = low 0 p (omega arith) in
    let next : All (From (p.index + 1)) ps = λ k d lt. let x : p.index < (get_or ps k d).index = rise 0 (suc k) d (omega arith) (omega arith) in omega arith in
    tests (nat_lt p.index least) (nat_le 128 p.index) (is_rising (p.index + 1) ps) (grind (arith, nat_tests, a)) (grind (arith, nat_tests, b)) (complete (p.index + 1) ps (pairs_tail p ps rise) (all_tail Low p ps low) next)
