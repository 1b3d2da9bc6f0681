-- What a head asks: one thing at most.
use Rattle.std.proofs.Common.{◌≡◌, ℕ, List, [], ◌∷◌, take, map, codes, sym, ◌∙◌, ap, arith, subst, Bool}
use Rattle.std.proofs.lemmas.Option.{same_Some}
use Rattle.httparse.specs.Grammar.{RequestHead}
use Rattle.httparse.specs.Spans.{name_and_value}
use Rattle.httparse.proofs.GrammarLemmas.{request_unique}
use Rattle.sat_base.specs.declared.ids.SegId.{SegId}
use Rattle.order_uses.specs.declared.take.Wanted.{Wanted}
use Rattle.stor_wire.specs.Values.{Fields}
use Rattle.stor_wire.specs.Requests.{Begins, IsFetch, IsNamed, IsPut, Says}
use Rattle.stor_wire.specs.declared.request.Request.{Request}
use Rattle.stor_wire.specs.declared.request.Request.TheVariants.{Fetch, Put}
use Rattle.stor_wire.proofs.PathLemmas.{one_piece}

wanted_is : (a b : Wanted) → a.put ≡ b.put → a.segment ≡ b.segment → a.index ≡ b.index → a.len ≡ b.len → a.order ≡ b.order → a ≡ b
wanted_is a b put segment index len order =
    let with_put : Bool → Wanted = λ p. record { put = p; segment = a.segment; index = a.index; len = a.len; order = a.order } in
    let with_segment : SegId → Wanted = λ s. record { put = b.put; segment = s; index = a.index; len = a.len; order = a.order } in
    let with_index : ℕ → Wanted = λ i. record { put = b.put; segment = b.segment; index = i; len = a.len; order = a.order } in
    let with_len : ℕ → Wanted = λ n. record { put = b.put; segment = b.segment; index = b.index; len = n; order = a.order } in
    let with_order : List ℕ → Wanted = λ o. record { put = b.put; segment = b.segment; index = b.index; len = b.len; order = o } in
    ap with_put put ∙ ap with_segment segment ∙ ap with_index index ∙ ap with_len len ∙ ap with_order order

one_named : (target : List ℕ) (hs : Fields) (a b : Wanted) → IsNamed target hs a → IsNamed target hs b → a.put ≡ b.put → a.len ≡ b.len → a ≡ b
one_named target hs a b x y put len =
    let piece = one_piece target a.segment b.segment a.index b.index x.path y.path in
    wanted_is a b put piece.0 piece.1 len (same_Some _ _ (sym x.order ∙ y.order))

one_fetch : (target : List ℕ) (hs : Fields) (a b : Wanted) (m n : ℕ) → IsFetch target hs a m → IsFetch target hs b n → (a ≡ b) × (m ≡ n)
one_fetch target hs a b m n x y = (
  one_named target hs a b x.named y.named (x.fetches ∙ sym y.fetches) (same_Some _ _ (sym x.len ∙ y.len)),
  same_Some _ _ (sym x.from ∙ y.from),
)

pub one_put : (target : List ℕ) (hs : Fields) (a b : Wanted) → IsPut target hs a → IsPut target hs b → a ≡ b
one_put target hs a b x y = one_named target hs a b x.named y.named (x.puts ∙ sym y.puts) (same_Some _ _ (sym x.len ∙ y.len))

abbrev first_of : List ℕ → ℕ
first_of [] = 0
first_of (n ∷ ns) = n

-- no method is both
pub methods_apart : (method : List ℕ) → method ≡ codes "GET" → method ≡ codes "PUT" → ⊥
methods_apart method x y = let e : 71 ≡ 80 = ap first_of (sym x ∙ y) in omega (arith, e)

one_says : (h : RequestHead) (rest : List ℕ) (a b : Request) → Says h rest a → Says h rest b → a ≡ b
one_says h rest (Fetch v m) (Fetch w n) x y =
    let same = one_fetch h.target (map name_and_value h.fields) v w m n x.1 y.1 in
    ap (λ (u : Wanted). Fetch u m) same.0 ∙ ap (λ (k : ℕ). Fetch w k) same.1
one_says h rest (Fetch v m) (Put w q) x y = absurd (methods_apart h.method x.0 y.0.0)
one_says h rest (Put v p) (Fetch w n) x y = absurd (methods_apart h.method y.0 x.0.0)
one_says h rest (Put v p) (Put w q) x y =
    let same = one_put h.target (map name_and_value h.fields) v w x.0.1 y.0.1 in
    let pieces : p ≡ q = x.2 ∙ ap (λ (u : Wanted). take u.len rest) same ∙ sym y.2 in
    ap (λ (u : Wanted). Put u p) same ∙ ap (λ (l : List ℕ). Put w l) pieces

-- what is said of one head and rest is said of those that the bytes read as
pub says_as : (bytes : List ℕ) (h : RequestHead) (rest : List ℕ) (request : Request) (begins : Begins bytes request)
    → h ≡ begins.head → rest ≡ begins.rest → Says h rest request
says_as bytes h rest request begins head behind =
    let P : RequestHead → Type 0 = λ g. Says g begins.rest request in
    let Q : List ℕ → Type 0 = λ l. Says h l request in
    subst Q (sym behind) (subst P (sym head) begins.says)

pub one_request : (bytes : List ℕ) (a b : Request) → Begins bytes a → Begins bytes b → a ≡ b
one_request bytes a b x y =
    let same = request_unique bytes x.head y.head x.rest y.rest x.reads y.reads in
    one_says x.head x.rest a b x.says (says_as bytes x.head x.rest b y same.0 same.1)
