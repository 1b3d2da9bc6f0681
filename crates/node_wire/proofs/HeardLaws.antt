-- What is heard is one thing, and what was decided stays.
use Rattle.std.proofs.Common.{◌≡◌, ℕ, ◌≤◌, inr, List, [], ◌++◌, length, take, refl, sym, ◌∙◌, ap, subst, arith, Bool, true, false, cond, nat_le, ◌||◌, Option, Some, None, length-append}
use Rattle.std.proofs.lemmas.List.{take-append-le, length-take-le}
use Rattle.std.proofs.lemmas.Grind.{common_steps}
use mathlib.Core.Bool.{or-true}
use Rattle.httparse.proofs.GrammarLemmas.{response_unique}
use Rattle.node_wire.specs.Heard.{LacksHead, Heard, Said, headed, lacking, share, no_answer, behind, unless_whole, says_of, asked_len}
use Rattle.http_parts.specs.Heads.{max_head}
use Rattle.node_wire.specs.declared.head.Question.{Question}
use Rattle.node_wire.specs.declared.head.Says.{Says}
use Rattle.node_wire.specs.declared.head.Says.TheVariants.{NoAnswer, Missing, Kept, Long, Body}
use Rattle.node_wire.proofs.HeadLemmas.{has_more, lacks_more, body_small}

pub heard_one : (question : Question) (bytes : List ℕ) (ended : Bool) (a b : Option Said) → Heard question bytes ended a → Heard question bytes ended b → a ≡ b
heard_one question bytes ended a b (headed h rest x) (headed k left y) =
    let same = response_unique bytes h k rest left x.reads y.reads in
    ap (λ g. behind ended (says_of question g) rest) same.0 ∙ ap (λ l. behind ended (says_of question k) l) same.1
heard_one question bytes ended a b (headed h rest x) (lacking none) = absurd (none.none h rest x)
heard_one question bytes ended a b (lacking none) (headed k left y) = absurd (none.none k left y)
heard_one question bytes ended a b (lacking none) (lacking other) = refl

body_stays : (b : Bool) (n : ℕ) (rest more : List ℕ) (ended : Bool) (o : Said) → nat_le n (length rest) ≡ b → cond b (Some (share (take n rest))) None ≡ Some o → behind ended (Body n) (rest ++ more) ≡ Some o
body_stays true n rest more ended o t e =
    let le : n ≤ length rest = grind (arith, common_steps, t) in
    let long : nat_le n (length (rest ++ more)) ≡ true = grind (arith, common_steps, le, length-append rest more) in
    rw (long, take-append-le n rest more le) e
body_stays false n rest more ended o t e = cc

behind_stays : (s : Says) (rest more : List ℕ) (ended : Bool) (o : Said) → behind false s rest ≡ Some o → behind ended s (rest ++ more) ≡ Some o
behind_stays NoAnswer rest more ended o e = e
behind_stays Missing rest more ended o e = e
behind_stays Kept rest more ended o e = e
behind_stays Long rest more ended o e = e
behind_stays (Body n) rest more ended o e = body_stays (nat_le n (length rest)) n rest more ended o refl e

full_stays : (b : Bool) (question : Question) (bytes more : List ℕ) (ended : Bool) (o : Said) → nat_le max_head (length bytes) ≡ b → cond b (Some no_answer) None ≡ Some o → LacksHead bytes → Heard question (bytes ++ more) ended (Some o)
full_stays true question bytes more ended o t e lacks =
    let full : max_head ≤ length bytes = grind (arith, common_steps, t) in
    let long : nat_le max_head (length (bytes ++ more)) ≡ true = grind (arith, common_steps, full, length-append bytes more) in
    subst (Heard question (bytes ++ more) ended) (rw long (ap (λ b. unless_whole b) (or-true ended) ∙ e)) (lacking (lacks_more bytes more (inr full) lacks))
full_stays false question bytes more ended o t e lacks = cc

heard_stays_at : (question : Question) (bytes more : List ℕ) (ended : Bool) (p : Option Said) (o : Said) → Heard question bytes false p → p ≡ Some o → Heard question (bytes ++ more) ended (Some o)
heard_stays_at question bytes more ended p o (headed h rest x) e =
    subst (Heard question (bytes ++ more) ended) (behind_stays (says_of question h) rest more ended o e) (headed h (rest ++ more) (has_more bytes more h rest x))
heard_stays_at question bytes more ended p o (lacking none) e = full_stays (nat_le max_head (length bytes)) question bytes more ended o refl e none

-- what bytes decide, they decide with any that follow, ended or not
pub heard_stays : (question : Question) (bytes more : List ℕ) (ended : Bool) (o : Said) → Heard question bytes false (Some o) → Heard question (bytes ++ more) ended (Some o)
heard_stays question bytes more ended o h = heard_stays_at question bytes more ended (Some o) o h refl

share_of_body : (b : Bool) (n limit : ℕ) (rest found : List ℕ) (ended : Bool) → nat_le n (length rest) ≡ b → n ≤ limit
    → cond b (Some (share (take n rest))) (unless_whole ended) ≡ Some (share found) → length found ≤ limit
share_of_body true n limit rest found ended t le e =
    let long : n ≤ length rest = grind (arith, common_steps, t) in
    let same : take n rest ≡ found = cc in
    omega (arith, ap length same, length-take-le n rest long, le)
share_of_body false n limit rest found true t le e = cc
share_of_body false n limit rest found false t le e = cc

share_behind : (s : Says) (limit : ℕ) (rest found : List ℕ) (ended : Bool) → ((n : ℕ) → s ≡ Body n → n ≤ limit) → behind ended s rest ≡ Some (share found) → length found ≤ limit
share_behind NoAnswer limit rest found ended small e = cc
share_behind Missing limit rest found ended small e = cc
share_behind Kept limit rest found ended small e = cc
share_behind Long limit rest found ended small e = let none : [] ≡ found = cc in rw (sym none) (omega arith)
share_behind (Body n) limit rest found ended small e = share_of_body (nat_le n (length rest)) n limit rest found ended refl (small n refl) e

no_share : (b : Bool) (found : List ℕ) → unless_whole b ≡ Some (share found) → ⊥
no_share true found e = cc
no_share false found e = cc

share_within : (question : Question) (bytes found : List ℕ) (ended : Bool) (p : Option Said) → Heard question bytes ended p → p ≡ Some (share found) → length found ≤ asked_len question
share_within question bytes found ended p (headed h rest x) e = share_behind (says_of question h) (asked_len question) rest found ended (body_small question h) e
share_within question bytes found ended p (lacking none) e = absurd (no_share (ended || nat_le max_head (length bytes)) found e)

-- a share has at most as many bytes as were asked for
pub heard_within : (question : Question) (bytes found : List ℕ) (ended : Bool) → Heard question bytes ended (Some (share found)) → length found ≤ asked_len question
heard_within question bytes found ended h = share_within question bytes found ended (Some (share found)) h refl
