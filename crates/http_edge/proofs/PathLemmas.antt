-- The route of a path: that it is found exactly where the path has one.
use Rattle.std.proofs.Common.{lit<, ◌≡◌, ℕ, suc, zero, ◌+◌, ◌<◌, ◌≤◌, ◌^◌, ◌⊎◌, inl, inr, List, [], ◌∷◌, ◌++◌, length, take, drop, get_or, refl, sym, ◌∙◌, ap, subst, codes, nat_le, cond, ◌==◌, Bool, true, false, not, ◌≢◌, arith, Option, Some, None, option_map, option_and_then, All, IsTrue, IfSome, IfNone}
use Rattle.std.proofs.lemmas.List.{take-append-drop}
use Rattle.std.proofs.lemmas.Grind.{common_steps}
use Rattle.std.specs.Char.{is_ascii_digit}
use Rattle.std.specs.Str.{bytes_eq}
use Rattle.std.specs.Str.Parse.{digits_value}
use Rattle.std.specs.Cmp.Lexicographic.{same_text, other_text}
use Rattle.sat_base.specs.Text.{same, IsNumber, number_up_to, cut_of}
use Rattle.month_text.specs.MonthText.{month_in}
use Rattle.http_edge.specs.Paths.{IsPath}
use Rattle.http_edge.specs.RouteSteps.{starts, with_number, numbered_of, operator_at, node_word, month_route, statement_at, node_at, segment_word, segment_at, customer_word, customer_at, route_at}
use Rattle.http_edge.specs.declared.routes.Route.{Route}
use Rattle.http_edge.specs.declared.routes.Route.TheVariants.{Begin, Commit, Get, Delete, Settle, SetFree, Exit, Statement, AddNode, AddCustomer, CloseMonth, SetRates, Stop}
use Rattle.sat_base.proofs.TextLemmas.{then_some, map_some, cond_some, test_some, cut_front, cut_back, number_is, number_found}

not_case : (b : Bool) → true ≡ not b → false ≡ b
not_case true e = cc
not_case false e = refl

is_case : (b : Bool) → false ≡ not b → true ≡ b
is_case true e = refl
is_case false e = cc

pub other_bytes : (xs ys : List ℕ) → true ≡ not (bytes_eq xs ys) → xs ≢ ys
other_bytes xs ys e = other_text xs ys (not_case (bytes_eq xs ys) e)

pub same_bytes : (xs ys : List ℕ) → false ≡ not (bytes_eq xs ys) → xs ≡ ys
same_bytes xs ys e = same_text xs ys (is_case (bytes_eq xs ys) e)

numbered_front : (most bound : ℕ) (ds : List ℕ) (n : ℕ) (rest : List ℕ) → bound ≡ most + 1 → IsNumber ds n bound → numbered_of most (ds ++ 47 ∷ rest) ≡ Some (n, rest)
numbered_front most bound ds n rest b h = rw (cut_front 47 (lit< tt) ds rest h.numeral.digits, number_is most bound ds n b h) refl

numbered_found : (most bound : ℕ) (text : List ℕ) (p : ℕ × List ℕ) → bound ≡ most + 1 → numbered_of most text ≡ Some p → (ds : List ℕ) × IsNumber ds p.0 bound × (text ≡ ds ++ 47 ∷ p.1)
numbered_found most bound text p b e =
    let t = then_some (with_number most) (cut_of 47 text) p e in
    let m = map_some (λ (n : ℕ). (n, t.0.1)) (number_up_to most t.0.0) p t.2 in
    let P : ℕ × List ℕ → Type 0 = λ q. (ds : List ℕ) × IsNumber ds q.0 bound × (text ≡ ds ++ 47 ∷ q.1) in
    subst P m.2 (t.0.0, number_found most bound t.0.0 m.0 b m.1, cut_back 47 text t.0 t.1)

-- ---- a path's route is found

pub route_from : (r : Route) (path : List ℕ) → IsPath r path → route_at path ≡ Some r
route_from AddNode path h = ap route_at h
route_from AddCustomer path h = ap route_at h
route_from CloseMonth path h = ap route_at h
route_from SetRates path h = ap route_at h
route_from Stop path h = ap route_at h
route_from (Settle node) path h = ap route_at h.2 ∙ ap (option_and_then node_word) (numbered_front 4294967295 (2 ^ 32) h.0 node.0 (codes "settle") refl h.1)
route_from (SetFree node) path h = ap route_at h.2 ∙ ap (option_and_then node_word) (numbered_front 4294967295 (2 ^ 32) h.0 node.0 (codes "free") refl h.1)
route_from (Exit node) path h = ap route_at h.2 ∙ ap (option_and_then node_word) (numbered_front 4294967295 (2 ^ 32) h.0 node.0 (codes "exit") refl h.1)
route_from (Statement node month) path h =
    ap route_at h.2.2
    ∙ ap (option_and_then node_word) (numbered_front 4294967295 (2 ^ 32) h.2.0 node.0 (codes "statement/" ++ h.0) refl h.2.1)
    ∙ ap (option_map (month_route node.0)) h.1
route_from (Begin customer) path h = ap route_at h.2 ∙ ap (option_and_then customer_word) (numbered_front 4294967295 (2 ^ 32) h.0 customer.0 (codes "segments") refl h.1)
route_from (Commit customer segment) path h =
    ap route_at h.2.2
    ∙ ap (option_and_then customer_word) (numbered_front 4294967295 (2 ^ 32) h.2.0 customer.0 (codes "segments/" ++ (h.0 ++ codes "/commit")) refl h.2.1)
    ∙ ap (option_and_then (segment_word customer.0)) (numbered_front 18446744073709551615 (2 ^ 64) h.0 segment.0 (codes "commit") refl h.1)
route_from (Get customer segment) path h =
    ap route_at h.2.2
    ∙ ap (option_and_then customer_word) (numbered_front 4294967295 (2 ^ 32) h.2.0 customer.0 (codes "segments/" ++ (h.0 ++ codes "/get")) refl h.2.1)
    ∙ ap (option_and_then (segment_word customer.0)) (numbered_front 18446744073709551615 (2 ^ 64) h.0 segment.0 (codes "get") refl h.1)
route_from (Delete customer segment) path h =
    ap route_at h.2.2
    ∙ ap (option_and_then customer_word) (numbered_front 4294967295 (2 ^ 32) h.2.0 customer.0 (codes "segments/" ++ (h.0 ++ codes "/delete")) refl h.2.1)
    ∙ ap (option_and_then (segment_word customer.0)) (numbered_front 18446744073709551615 (2 ^ 64) h.0 segment.0 (codes "delete") refl h.1)

-- ---- a route that is found is the path's

same_is : (a b : List ℕ) → same a b ≡ true → a ≡ b
same_is a b e = same_text a b (sym e)

starts_is : (text path : List ℕ) → starts text path ≡ true → path ≡ text ++ drop (length text) path
starts_is text path e = sym (take-append-drop (length text) path) ∙ ap (λ l. l ++ drop (length text) path) (same_is _ _ e)

operator_found : (path : List ℕ) (r : Route) → operator_at path ≡ Some r → IsPath r path
operator_found path r e =
    let P : Route → Type 0 = λ r. IsPath r path in
    elim (cond_some (same path (codes "/op/nodes")) AddNode r _ e) [
      | inl p ↦ subst P p.1 (same_is path (codes "/op/nodes") p.0)
      | inr f ↦ elim (cond_some (same path (codes "/op/customers")) AddCustomer r _ f.1) [
        | inl p ↦ subst P p.1 (same_is path (codes "/op/customers") p.0)
        | inr g ↦ elim (cond_some (same path (codes "/op/close")) CloseMonth r _ g.1) [
          | inl p ↦ subst P p.1 (same_is path (codes "/op/close") p.0)
          | inr h ↦ elim (cond_some (same path (codes "/op/rates")) SetRates r _ h.1) [
            | inl p ↦ subst P p.1 (same_is path (codes "/op/rates") p.0)
            | inr i ↦ elim (cond_some (same path (codes "/op/stop")) Stop r None i.1) [
              | inl p ↦ subst P p.1 (same_is path (codes "/op/stop") p.0)
              | inr k ↦ let no : Some r ≡ None = sym k.1 in cc
            ]
          ]
        ]
      ]
    ]

-- what stands behind a slash is the word
word_is : (path front ds rest behind word : List ℕ) → path ≡ front ++ rest → rest ≡ ds ++ 47 ∷ behind → same behind word ≡ true → path ≡ front ++ (ds ++ 47 ∷ word)
word_is path front ds rest behind word e f g = e ∙ ap (λ l. front ++ l) (f ∙ ap (λ l. ds ++ 47 ∷ l) (same_is behind word g))

-- the whole path of a statement
statement_is : (path rest n behind text : List ℕ) → path ≡ codes "/n/" ++ rest → rest ≡ n ++ 47 ∷ behind → behind ≡ codes "statement/" ++ text → path ≡ codes "/n/" ++ (n ++ (codes "/statement/" ++ text))
statement_is path rest n behind text e f g = e ∙ ap (λ l. codes "/n/" ++ l) (f ∙ ap (λ l. n ++ 47 ∷ l) g)

statement_found : (path rest n behind : List ℕ) (node : ℕ) (r : Route) → IsNumber n node (2 ^ 32) → path ≡ codes "/n/" ++ rest → rest ≡ n ++ 47 ∷ behind → statement_at node behind ≡ Some r → IsPath r path
statement_found path rest n behind node r number e f h =
    let P : Route → Type 0 = λ r. IsPath r path in
    elim (test_some (starts (codes "statement/") behind) r (option_map (month_route node) (month_in (drop 10 behind))) None h) [
      | inl p ↦
          let m = map_some (month_route node) (month_in (drop 10 behind)) r p.1 in
          subst P m.2 (drop 10 behind, m.1, (n, number, statement_is path rest n behind (drop 10 behind) e f (starts_is (codes "statement/") behind p.0)))
      | inr k ↦ let no : Some r ≡ None = sym k.1 in cc
    ]

node_found : (path rest : List ℕ) (r : Route) → path ≡ codes "/n/" ++ rest → node_at rest ≡ Some r → IsPath r path
node_found path rest r path_is e =
    let P : Route → Type 0 = λ r. IsPath r path in
    let t = then_some node_word (numbered_of 4294967295 rest) r e in
    let n = numbered_found 4294967295 (2 ^ 32) rest t.0 refl t.1 in
    elim (cond_some (same t.0.1 (codes "settle")) (Settle (record { 0 = t.0.0 })) r _ t.2) [
      | inl p ↦ subst P p.1 (n.0, n.1, word_is path (codes "/n/") n.0 rest t.0.1 (codes "settle") path_is n.2 p.0)
      | inr f ↦ elim (cond_some (same t.0.1 (codes "free")) (SetFree (record { 0 = t.0.0 })) r _ f.1) [
        | inl p ↦ subst P p.1 (n.0, n.1, word_is path (codes "/n/") n.0 rest t.0.1 (codes "free") path_is n.2 p.0)
        | inr g ↦ elim (cond_some (same t.0.1 (codes "exit")) (Exit (record { 0 = t.0.0 })) r _ g.1) [
          | inl p ↦ subst P p.1 (n.0, n.1, word_is path (codes "/n/") n.0 rest t.0.1 (codes "exit") path_is n.2 p.0)
          | inr h ↦ statement_found path rest n.0 t.0.1 t.0.0 r n.1 path_is n.2 h.1
        ]
      ]
    ]

-- the whole path of a segment
segment_is : (path rest c behind more s last word : List ℕ) → path ≡ codes "/c/" ++ rest → rest ≡ c ++ 47 ∷ behind → behind ≡ codes "segments/" ++ more → more ≡ s ++ 47 ∷ last → same last word ≡ true
    → path ≡ codes "/c/" ++ (c ++ (codes "/segments" ++ (codes "/" ++ (s ++ 47 ∷ word))))
segment_is path rest c behind more s last word e f g h k =
    e ∙ ap (λ l. codes "/c/" ++ l) (f ∙ ap (λ l. c ++ 47 ∷ l) (g ∙ ap (λ l. codes "segments/" ++ l) (h ∙ ap (λ l. s ++ 47 ∷ l) (same_is last word k))))

segment_found : (path rest c behind more : List ℕ) (customer : ℕ) (r : Route) → IsNumber c customer (2 ^ 32) → path ≡ codes "/c/" ++ rest → rest ≡ c ++ 47 ∷ behind → behind ≡ codes "segments/" ++ more
    → segment_at customer more ≡ Some r → IsPath r path
segment_found path rest c behind more customer r number e f g h =
    let P : Route → Type 0 = λ r. IsPath r path in
    let t = then_some (segment_word customer) (numbered_of 18446744073709551615 more) r h in
    let n = numbered_found 18446744073709551615 (2 ^ 64) more t.0 refl t.1 in
    elim (cond_some (same t.0.1 (codes "commit")) (Commit (record { 0 = customer }) (record { 0 = t.0.0 })) r _ t.2) [
      | inl p ↦ subst P p.1 (n.0, n.1, (c, number, segment_is path rest c behind more n.0 t.0.1 (codes "commit") e f g n.2 p.0))
      | inr i ↦ elim (cond_some (same t.0.1 (codes "get")) (Get (record { 0 = customer }) (record { 0 = t.0.0 })) r _ i.1) [
        | inl p ↦ subst P p.1 (n.0, n.1, (c, number, segment_is path rest c behind more n.0 t.0.1 (codes "get") e f g n.2 p.0))
        | inr j ↦ elim (cond_some (same t.0.1 (codes "delete")) (Delete (record { 0 = customer }) (record { 0 = t.0.0 })) r None j.1) [
          | inl p ↦ subst P p.1 (n.0, n.1, (c, number, segment_is path rest c behind more n.0 t.0.1 (codes "delete") e f g n.2 p.0))
          | inr k ↦ let no : Some r ≡ None = sym k.1 in cc
        ]
      ]
    ]

customer_found : (path rest : List ℕ) (r : Route) → path ≡ codes "/c/" ++ rest → customer_at rest ≡ Some r → IsPath r path
customer_found path rest r path_is e =
    let P : Route → Type 0 = λ r. IsPath r path in
    let t = then_some customer_word (numbered_of 4294967295 rest) r e in
    let n = numbered_found 4294967295 (2 ^ 32) rest t.0 refl t.1 in
    elim (cond_some (same t.0.1 (codes "segments")) (Begin (record { 0 = t.0.0 })) r _ t.2) [
      | inl p ↦ subst P p.1 (n.0, n.1, word_is path (codes "/c/") n.0 rest t.0.1 (codes "segments") path_is n.2 p.0)
      | inr f ↦ elim (test_some (starts (codes "segments/") t.0.1) r (segment_at t.0.0 (drop 9 t.0.1)) None f.1) [
        | inl p ↦ segment_found path rest n.0 t.0.1 (drop 9 t.0.1) t.0.0 r n.1 path_is n.2 (starts_is (codes "segments/") t.0.1 p.0) p.1
        | inr k ↦ let no : Some r ≡ None = sym k.1 in cc
      ]
    ]

pub route_found : (path : List ℕ) (r : Route) → route_at path ≡ Some r → IsPath r path
route_found path r e =
    elim (test_some (starts (codes "/c/") path) r (customer_at (drop 3 path)) _ e) [
      | inl p ↦ customer_found path (drop 3 path) r (starts_is (codes "/c/") path p.0) p.1
      | inr f ↦ elim (test_some (starts (codes "/n/") path) r (node_at (drop 3 path)) _ f.1) [
        | inl p ↦ node_found path (drop 3 path) r (starts_is (codes "/n/") path p.0) p.1
        | inr g ↦ operator_found path r g.1
      ]
    ]

pub if_found : (o : Option Route) (path : List ℕ) → o ≡ route_at path → IfSome o (λ r. IsPath r path)
if_found None path e = tt
if_found (Some r) path e = route_found path r (sym e)

pub if_none : (o : Option Route) (path : List ℕ) → o ≡ route_at path → IfNone o ((r : Route) → IsPath r path → ⊥)
if_none (Some r) path e = tt
if_none None path e = λ r h. let no : Some r ≡ None = sym (e ∙ route_from r path h) in cc
