-- What was asked, as far as it was, and answers that weren't for lack of memory.
use Rattle.std.proofs.Common.{◌≡◌, ℕ, ◌+◌, Bool, true, false, cond, List, [], ◌∷◌, length, take, Option, Result, Ok, Err, refl, ap, sym, ◌∙◌, arith}
use Rattle.std.specs.Prelude.{All, OnErr, count_by}
use Rattle.std.proofs.Math.Seq.{take-length}
use Rattle.std.proofs.lemmas.List.Elements.{All-nil, All-cons}
use Rattle.std.proofs.lemmas.List.Sums.{sum_by-cons}
use Rattle.sat_base.specs.declared.nodes.Ask.{Ask}
use Rattle.sat_base.specs.declared.nodes.Fetched.{Fetched}
use Rattle.sat_base.specs.declared.nodes.Fetched.TheVariants as fetches
use Rattle.sat_base.specs.Nodes.{AsksSome, is_out_of_memory as wants}
use Rattle.sat_base.specs.Outside.{with_end}
use Rattle.sat_base.proofs.Told.{with_end-none}
use Rattle.audit_core.specs.declared.plan.Heard.{Heard}
use Rattle.audit_core.specs.Heard.{is_out_of_memory}
use Rattle.node_asks.specs.Hearing.{fetched_in}

-- what holds in any case holds of an error
pub on_err : {T E : Type 0} (r : Result T E) (P : Type 0) → P → OnErr r P
on_err (Ok v) P h = tt
on_err (Err e) P h = h

-- none of the asks was made
pub none_sent : (old : Option (List Ask)) (asks : List Ask) → AsksSome old asks old
none_sent old asks = (0, sym (with_end-none old))

-- all of them were
pub all_sent : (old new : Option (List Ask)) (asks : List Ask) → new ≡ with_end old asks → AsksSome old asks new
all_sent old new asks e = (length asks, e ∙ ap (λ (xs : List Ask). with_end old xs) (sym (take-length asks)))

one_given : (what : Fetched) → wants what ≡ false → is_out_of_memory what ≡ false
one_given (fetches.Share bytes) e = refl
one_given fetches.Missing e = refl
one_given fetches.NoAnswer e = refl
one_given fetches.NoMemory e = e

count-first : (one : Heard) (rest : List Heard) → count_by wants (fetched_in (one ∷ rest)) ≡ cond (wants one.what) 1 0 + count_by wants (fetched_in rest)
count-first one rest = sum_by-cons (λ (what : Fetched). cond (wants what) 1 0) one.what (fetched_in rest)

first_given : (b : Bool) (n m : ℕ) → n ≡ cond b 1 0 + m → n ≡ 0 → b ≡ false
first_given true n m e none = absurd (omega arith)
first_given false n m e none = refl

rest_given : (b : Bool) (n m : ℕ) → n ≡ cond b 1 0 + m → n ≡ 0 → m ≡ 0
rest_given true n m e none = omega arith
rest_given false n m e none = omega arith

-- where none is wanting, each was given
pub all_given : (heard : List Heard) → count_by wants (fetched_in heard) ≡ 0 → All (λ one. is_out_of_memory one.what ≡ false) heard
all_given [] none = All-nil (λ one. is_out_of_memory one.what ≡ false)
all_given (one ∷ rest) none =
    let counted = count-first one rest in
    All-cons (λ one. is_out_of_memory one.what ≡ false) one rest (one_given one.what (first_given (wants one.what) _ _ counted none))
    (all_given rest (rest_given (wants one.what) _ _ counted none))
