-- What was read for a head, as a part of a request.
use Rattle.std.proofs.Common.{◌≡◌, ℕ, ◌≤◌, ◌⊎◌, inl, inr, List, [], ◌++◌, length, arith, subst, Bool, false, Err}
use Rattle.httparse.specs.Grammar.{RequestHead}
use Rattle.httparse.specs.declared.spans.HeaderSpan.{HeaderSpan}
use Rattle.sat_base.specs.Outside.{About}
use Rattle.sat_base.specs.Streams.{Took}
use Rattle.sat_base.proofs.Transfers.{took_as, took_none, took_within}
use Rattle.http_parts.specs.Heads.{IsHeadEnd, MayReadHead, failed_head, idle_head, max_head}
use Rattle.http_parts.specs.declared.head.HeadEnd.{HeadEnd}
use Rattle.http_parts.specs.declared.head.HeadEnd.TheVariants as ends
use Rattle.stor_wire.specs.Requests.{Demands, FoundBy, IsReadBehind, IsRefused, MayRead, MayReadBehind, a_head, ended, failed_request, full, max_piece, max_request}
use Rattle.stor_wire.specs.declared.request.ReadErr.{ReadErr}
use Rattle.stor_wire.specs.declared.request.ReadErr.TheVariants.{Fault, Head, NoMemory}
use Rattle.stor_wire.proofs.RequestLemmas.{lacks_short, nothing_behind, refused_never}

pub head_took : (bytes : List ℕ) (idle : ℕ) (failed : Bool) (old new : About) → idle ≤ 1 → Took MayReadHead bytes idle failed old new → Took MayRead bytes 1 failed old new
head_took bytes idle failed old new le t =
    took_within MayRead bytes idle 1 failed old new le (took_as MayRead MayReadHead bytes idle failed old new t (λ before asked may some. a_head may))

-- what was read shows no head
pub headless : (bytes : List ℕ) (headers : List HeaderSpan) (e : HeadEnd) (old new : About) → length bytes ≤ max_head
    → (e ≡ ends.Never) ⊎ ((e ≡ ends.Ended) ⊎ (e ≡ ends.Full)) → IsHeadEnd bytes headers new.left e → Took MayReadHead bytes (idle_head e) (failed_head e) old new
    → (x : List ℕ) × Took MayRead x 1 false old new × (length x ≤ max_request) × IsRefused x new.left
headless bytes headers e old new size (inl is) end t =
    let none = subst (λ (f : HeadEnd). IsHeadEnd bytes headers new.left f) is end in
    let took = subst (λ (f : HeadEnd). Took MayReadHead bytes (idle_head f) (failed_head f) old new) is t in
    (bytes, head_took bytes 0 false old new (omega arith) took, omega (arith, size), refused_never bytes new.left none)
headless bytes headers e old new size (inr (inl is)) end t =
    let none = subst (λ (f : HeadEnd). IsHeadEnd bytes headers new.left f) is end in
    let took = subst (λ (f : HeadEnd). Took MayReadHead bytes (idle_head f) (failed_head f) old new) is t in
    (bytes, head_took bytes 1 false old new (omega arith) took, omega (arith, size), ended (lacks_short bytes none.0 none.1) none.2)
headless bytes headers e old new size (inr (inr is)) end t =
    let none = subst (λ (f : HeadEnd). IsHeadEnd bytes headers new.left f) is end in
    let took = subst (λ (f : HeadEnd). Took MayReadHead bytes (idle_head f) (failed_head f) old new) is t in
    (bytes, head_took bytes 0 false old new (omega arith) took, omega (arith, size), full none.0 none.1)

-- no read is made behind a head
pub none_behind : (h : RequestHead) (rest : List ℕ) (o : About) → Took (λ (taken : List ℕ) (asked : ℕ). MayReadBehind h (rest ++ taken) asked) [] 1 false o o
none_behind h rest o =
    took_within (λ (taken : List ℕ) (asked : ℕ). MayReadBehind h (rest ++ taken) asked) [] 0 1 false o o (omega arith)
    (took_none (λ (taken : List ℕ) (asked : ℕ). MayReadBehind h (rest ++ taken) asked) o)

-- a head that asks nothing, or what it asks isn't told
pub asks_none : (h : RequestHead) (rest : List ℕ) (o : About) (e : ReadErr) → FoundBy (Demands h) (Err e)
    → (x : List ℕ) × Took (λ (taken : List ℕ) (asked : ℕ). MayReadBehind h (rest ++ taken) asked) x 1 (failed_request (Err e)) o o
    × (length x ≤ max_piece) × IsReadBehind h (rest ++ x) o.left (Err e)
asks_none h rest o Head none = ([], none_behind h rest o, omega arith, nothing_behind h (rest ++ []) o.left none)
asks_none h rest o Fault none = absurd none
asks_none h rest o NoMemory none = ([], none_behind h rest o, omega arith, tt)
