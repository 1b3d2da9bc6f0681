-- Where a head stands, nothing but what it says is said, and that is one thing.
use Rattle.std.proofs.Common.{◌≡◌, ℕ, List, drop, map, refl, sym, ◌∙◌, ap, arith, subst, Result, Some}
use Rattle.std.proofs.lemmas.List.{take-append-drop}
use Rattle.httparse.specs.Grammar.{RequestHead}
use Rattle.httparse.proofs.GrammarLemmas.{request_unique}
use Rattle.httparse.specs.Spans.{name_and_value}
use Rattle.http_parts.specs.Heads.{HasHead, max_head}
use Rattle.http_edge.specs.Demands.{Demands, no_route, bad_method, routed, method_of, of_headers}
use Rattle.http_edge.specs.Paths.{IsPath}
use Rattle.http_edge.specs.Requests.{Says, SaysBehind, SaysBody, no_head, short, long, headed, refused, stated, bodied, short_body, whole}
use Rattle.http_edge.specs.declared.demand.Demand.{Demand}
use Rattle.http_edge.specs.declared.demand.Demand.TheVariants.{Refused, Body, Statement}
use Rattle.http_edge.specs.declared.routes.Route.{Route}
use Rattle.http_edge.specs.declared.errors.EdgeErr.{EdgeErr}
use Rattle.machine_calls.specs.declared.wish.Wish.{Wish}
use Rattle.http_edge.proofs.PathLemmas.{route_from}

pub head_decides : (secret bytes : List ℕ) (h : RequestHead) (rest : List ℕ) → HasHead bytes h rest → (said : Result Wish EdgeErr) → Says secret bytes said → SaysBehind secret h rest said
head_decides secret bytes h rest at said (no_head never) = absurd (never (drop max_head bytes) h rest (at.reads.0, take-append-drop max_head bytes ∙ at.reads.1))
head_decides secret bytes h rest at said (short none few) = absurd (none.none h rest at)
head_decides secret bytes h rest at said (long none many) = absurd (none.none h rest at)
head_decides secret bytes h rest at said (headed k left s says behind) =
    let same = request_unique bytes k h left rest says.reads at.reads in
    let P : RequestHead → Type 0 = λ g. SaysBehind secret g left s in
    let Q : List ℕ → Type 0 = λ l. SaysBehind secret h l s in
    subst Q same.1 (subst P same.0 behind)

one_route : (path : List ℕ) (r s : Route) → IsPath r path → IsPath s path → r ≡ s
one_route path r s p q = let e : Some r ≡ Some s = sym (route_from r path p) ∙ route_from s path q in cc

one_demand : (secret : List ℕ) (h : RequestHead) (p q : Demand) → Demands secret h p → Demands secret h q → p ≡ q
one_demand secret h p q (no_route none) (no_route other) = refl
one_demand secret h p q (no_route none) (bad_method r at m) = absurd (none r at)
one_demand secret h p q (no_route none) (routed r at m) = absurd (none r at)
one_demand secret h p q (bad_method r at m) (no_route none) = absurd (none r at)
one_demand secret h p q (bad_method r at m) (bad_method s to n) = refl
one_demand secret h p q (bad_method r at m) (routed s to n) = absurd (m (n ∙ ap method_of (one_route h.target s r to at)))
one_demand secret h p q (routed r at m) (no_route none) = absurd (none r at)
one_demand secret h p q (routed r at m) (bad_method s to n) = absurd (n (m ∙ ap method_of (one_route h.target r s at to)))
one_demand secret h p q (routed r at m) (routed s to n) = ap (λ r. of_headers secret r (map name_and_value h.fields)) (one_route h.target r s at to)

one_body : (r : Route) (n : ℕ) (rest : List ℕ) (a b : Result Wish EdgeErr) → SaysBody r n rest a → SaysBody r n rest b → a ≡ b
one_body r n rest a b (short_body few) (short_body less) = refl
one_body r n rest a b (short_body few) (whole enough) = absurd (omega (arith, few, enough))
one_body r n rest a b (whole enough) (short_body few) = absurd (omega (arith, few, enough))
one_body r n rest a b (whole enough) (whole more) = refl

one_behind : (secret : List ℕ) (h : RequestHead) (rest : List ℕ) (a b : Result Wish EdgeErr) → SaysBehind secret h rest a → SaysBehind secret h rest b → a ≡ b
one_behind secret h rest a b (refused e d) (refused f g) = let same = one_demand secret h (Refused e) (Refused f) d g in cc
one_behind secret h rest a b (refused e d) (bodied r n s g y) = let same = one_demand secret h (Refused e) (Body r n) d g in cc
one_behind secret h rest a b (refused e d) (stated node month g) = let same = one_demand secret h (Refused e) (Statement node month) d g in cc
one_behind secret h rest a b (stated node month d) (refused f g) = let same = one_demand secret h (Statement node month) (Refused f) d g in cc
one_behind secret h rest a b (stated node month d) (stated other later g) = let same = one_demand secret h (Statement node month) (Statement other later) d g in cc
one_behind secret h rest a b (stated node month d) (bodied r n s g y) = let same = one_demand secret h (Statement node month) (Body r n) d g in cc
one_behind secret h rest a b (bodied r n s d x) (stated node month g) = let same = one_demand secret h (Body r n) (Statement node month) d g in cc
one_behind secret h rest a b (bodied r n s d x) (refused f g) = let same = one_demand secret h (Body r n) (Refused f) d g in cc
one_behind secret h rest a b (bodied r n s d x) (bodied q m t g y) =
    let same = one_demand secret h (Body r n) (Body q m) d g in
    let route : r ≡ q = cc in
    let size : n ≡ m = cc in
    let P : Route → Type 0 = λ q. SaysBody q m rest s in
    let Q : ℕ → Type 0 = λ m. SaysBody r m rest s in
    one_body q m rest s t (subst P route (subst Q size x)) y

pub one_answer : (secret bytes : List ℕ) (h : RequestHead) (rest : List ℕ) → HasHead bytes h rest → (a b : Result Wish EdgeErr) → Says secret bytes a → Says secret bytes b → a ≡ b
one_answer secret bytes h rest at a b x y = one_behind secret h rest a b (head_decides secret bytes h rest at a x) (head_decides secret bytes h rest at b y)
