-- What the cases of calls need of valid tables, and how their ends meet their definitions.
use Rattle.std.proofs.Common.{◌≡◌, ◌≢◌, ◌↔◌, ℕ, ◌≤◌, ◌^◌, Bool, true, false, List, length, Option, Some, None, Result, Ok, Err, refl, sym, ap, subst, ◌∙◌, arith}
use Rattle.std.specs.Prelude.{nat_lt, find, nat_le}
use Rattle.std.proofs.lemmas.Bool.Decides.{nat_tests}
use Rattle.std.proofs.lemmas.Bool.{not-true}
use Rattle.sat_base.specs.declared.records.At.{At}
use Rattle.sat_base.specs.declared.ids.CustomerId.{CustomerId}
use Rattle.sat_base.specs.declared.ids.SegId.{SegId}
use Rattle.segment_core.specs.Record.{SegmentRecord}
use Rattle.segment_core.specs.Places.{IsOffer}
use Rattle.segment_core.specs.Commit.{refusal, first_cause, first_repeated, chosen}
use Rattle.segment_core.specs.declared.committing.CommitErr.{CommitErr}
use Rattle.segment_core.specs.declared.committing.CommitErr.TheVariants as causes
use Rattle.machine_calls.specs.declared.asking.Asking.{Asking}
use Rattle.machine_calls.specs.declared.refusal.Refusal.{Refusal}
use Rattle.machine_calls.specs.declared.refusal.Refusal.TheVariants as refusals
use Rattle.machine_step.specs.Tables.{Tables, is_no_size, segment_at, owned_at}
use Rattle.machine_step.specs.Outcome.{Outcome, unless, refused}
use Rattle.placement.specs.Eligible.{subnet_count}
use Rattle.machine_step.specs.Calls.Begin.{terms_for, begun, begin_placed}
use Rattle.machine_step.specs.Calls.Commit.{not_committed, unless_caused, live_of, committed, commit_pending}
use Rattle.machine_step.specs.Rules.{counts_up}
use Rattle.machine_step.specs.Bounds.{IsValid}
use Rattle.machine_step.proofs.PieceLemmas.{offer-counted}
use Rattle.machine_step.proofs.Fits.{fine_found, owned_found}
use Rattle.machine_store.specs.declared.prepared.Prepared.{Prepared}
use Rattle.machine_store.specs.Prepared.{Holds}
use Rattle.machine_step.proofs.SegmentSizes.{size-most}

pub len-within : (t : Tables) (len : ℕ) → IsValid t → is_no_size t.setup len ≡ false → len ≤ 2 ^ 40
len-within t len v size =
    let scheme = v.bounds.setup.scheme in
    size-most t.setup len scheme.some_bytes (omega (arith, scheme.repairs_in_time, scheme.wants_more, scheme.tries_enough, scheme.few_pieces)) size

pub found-len : (t : Tables) (segment : SegId) (found : SegmentRecord) → IsValid t → segment_at t.segments segment.0 ≡ Some found → found.len ≤ 2 ^ 40
found-len t segment found v at = len-within t found.len v (not-true _ (fine_found t v segment.0 found at).sized)

-- a pending segment has the places of an offer
pub offered-found : (t : Tables) (segment : SegId) (found : SegmentRecord) → IsValid t → segment_at t.segments segment.0 ≡ Some found → found.version ≡ 0 → IsOffer t.setup.n found.pieces
offered-found t segment found v at pending =
    let version = (fine_found t v segment.0 found at).version in
    let up : counts_up t.setup.n 0 found.pieces ≡ true = grind (arith, nat_tests, version, pending) in
    offer-counted t.setup.n found.pieces up

unless-false : (b : Bool) (cause : Refusal) (o : Outcome) → b ≡ false → unless b cause o ≡ o
unless-false true cause o is = cc
unless-false false cause o is = refl

-- where the subnets are enough, the pieces are placed
pub enough-placed : (t : Tables) (asking : Asking) (len : ℕ) (words : List ℕ) → t.setup.n ≤ subnet_count (terms_for t len words) → begin_placed t asking len words ≡ begun t asking len words
enough-placed t asking len words enough =
    unless-false (nat_lt (subnet_count (terms_for t len words)) t.setup.n) _ (begun t asking len words) (grind (arith, nat_tests, enough))

-- ---- the ends of a commit

abbrev pub err_of : CommitErr → Result SegmentRecord CommitErr
err_of e = Err e

-- running out of memory is no cause
no-want : (outside repeated : Option ℕ) (have need : ℕ) → first_cause outside repeated have need ≡ Some causes.NoMemory → ⊥
no-want (Some index) repeated have need is = cc
no-want None (Some index) have need is = cc
no-want None None have need is = grind (arith, nat_tests, is)

none-refused : (r : Option CommitErr) (live : SegmentRecord) → ((err : CommitErr) → err ≢ causes.NoMemory → (Ok live ≡ Err err) ↔ (r ≡ Some err)) → (r ≡ Some causes.NoMemory → ⊥) → r ≡ None
none-refused None live refused want = refl
none-refused (Some (causes.NotOffered index)) live refused want = let no : Ok live ≡ Err (causes.NotOffered index) = (refused (causes.NotOffered index) (λ same. cc)).1 refl in cc
none-refused (Some (causes.Repeated index)) live refused want = let no : Ok live ≡ Err (causes.Repeated index) = (refused (causes.Repeated index) (λ same. cc)).1 refl in cc
none-refused (Some (causes.TooFew have need)) live refused want = let no : Ok live ≡ Err (causes.TooFew have need) = (refused (causes.TooFew have need) (λ same. cc)).1 refl in cc
none-refused (Some causes.NoMemory) live refused want = absurd (want refl)

same-segment : (a b : SegmentRecord) → a.id ≡ b.id → a.customer ≡ b.customer → a.len ≡ b.len → a.version ≡ b.version → a.pieces ≡ b.pieces → a ≡ b
same-segment a b id customer len version pieces =
    ap (λ (x : SegId). record a { id = x }) id
    ∙ ap (λ (x : CustomerId). record a { id = b.id; customer = x }) customer
    ∙ ap (λ (x : ℕ). record a { id = b.id; customer = b.customer; len = x }) len
    ∙ ap (λ (x : ℕ). record b { version = x; pieces = a.pieces }) version
    ∙ ap (λ (x : List At). record b { pieces = x }) pieces

pub commit-ok : (t : Tables) (asking : Asking) (segment : SegId) (found live : SegmentRecord) (indexes slice : List ℕ) → slice ≡ indexes
    → ((err : CommitErr) → err ≢ causes.NoMemory → (Ok live ≡ Err err) ↔ (refusal t.setup.n t.setup.o slice ≡ Some err))
    → live.pieces ≡ chosen slice found.pieces → live.version ≡ 1 → live.id ≡ found.id → live.customer ≡ found.customer → live.len ≡ found.len
    → commit_pending t asking segment found indexes ≡ committed t asking segment live indexes
commit-ok t asking segment found live indexes slice same refused pieces version id customer_is len =
    let none : refusal t.setup.n t.setup.o slice ≡ None = none-refused (refusal t.setup.n t.setup.o slice) live refused (no-want (find (λ index. nat_le t.setup.n index) slice) (first_repeated slice) (length slice) t.setup.o) in
    let accepted : refusal t.setup.n t.setup.o indexes ≡ None = ap (refusal t.setup.n t.setup.o) (sym same) ∙ none in
    let is_live : live_of found indexes ≡ live = same-segment (live_of found indexes) live (sym id) (sym customer_is) (sym len) (sym version) (ap (λ (xs : List ℕ). chosen xs found.pieces) (sym same) ∙ sym pieces) in
    ap (λ cause. unless_caused cause (committed t asking segment (live_of found indexes) indexes)) accepted ∙ ap (λ (s : SegmentRecord). committed t asking segment s indexes) is_live

pub commit-refused : (t : Tables) (asking : Asking) (segment : SegId) (found : SegmentRecord) (indexes slice : List ℕ) (e err : CommitErr) → slice ≡ indexes → e ≡ err → err ≢ causes.NoMemory
    → ((x : CommitErr) → x ≢ causes.NoMemory → (err_of e ≡ err_of x) ↔ (refusal t.setup.n t.setup.o slice ≡ Some x))
    → commit_pending t asking segment found indexes ≡ not_committed err
commit-refused t asking segment found indexes slice e err same is cause refused =
    let some : refusal t.setup.n t.setup.o slice ≡ Some err = (refused err cause).0 (ap err_of is) in
    ap (λ r. unless_caused r (committed t asking segment (live_of found indexes) indexes)) (ap (refusal t.setup.n t.setup.o) (sym same) ∙ some)

-- too few, by other names of the same numbers
pub too-few-named : (p : Prepared) (a b c d : ℕ) → a ≡ b → c ≡ d → Holds p (refused (refusals.TooFew a c)) → Holds p (refused (refusals.TooFew b d))
too-few-named p a b c d have need holds = subst (λ (h : ℕ). Holds p (refused (refusals.TooFew h d))) have (subst (λ (n : ℕ). Holds p (refused (refusals.TooFew a n))) need holds)

-- ---- the segment of a customer

pub owned-len : (t : Tables) (asking : Asking) (segment : SegId) (found : SegmentRecord) → IsValid t → owned_at t.segments asking.caller segment ≡ Some found → found.len ≤ 2 ^ 40
owned-len t asking segment found v at = found-len t segment found v (owned_found t v asking.caller segment found at)

-- a pending segment has the places of an offer
pub owned-offered : (t : Tables) (asking : Asking) (segment : SegId) (found : SegmentRecord) → IsValid t → owned_at t.segments asking.caller segment ≡ Some found → found.version ≡ 0 → IsOffer t.setup.n found.pieces
owned-offered t asking segment found v at pending = offered-found t segment found v (owned_found t v asking.caller segment found at) pending
