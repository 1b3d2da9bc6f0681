-- The bytes of an array, one item after the other.
use Rattle.std.proofs.Common.{◌≡◌, ℕ, suc, ◌+◌, ◌<◌, ◌≤◌, nat_le, true, false, List, [], ◌∷◌, ◌++◌, length, drop, get_or, refl, sym, ◌∙◌, ap, arith, add-one, append_assoc, append-nil, Option, Some, None, option_map, option_and_then}
use Rattle.std.proofs.Math.Seq.{drop-cons}
use Rattle.std.proofs.lemmas.Grind.{common_steps}
use Rattle.serde_json.specs.View.{view, items_view}
use Rattle.serde_json.specs.declared.value.Value.{Value}
use Rattle.http_edge.specs.Fields.{byte_of, bytes_of, with_byte, count_of, pieces_of}

front_item : (vs : List Value) (i : ℕ) (v : Value) → i < length vs → v ≡ get_or vs i v → bytes_of (items_view (drop i vs)) ≡ option_and_then (with_byte (bytes_of (items_view (drop (i + 1) vs)))) (byte_of (view v))
front_item vs i v h at =
    rw add-one
    (ap (λ l. bytes_of (items_view l)) (drop-cons vs i v h)
    ∙ ap (λ w. option_and_then (with_byte (bytes_of (items_view (drop (suc i) vs)))) (byte_of (view w))) (sym at))

more_bytes : (front : List ℕ) (b : ℕ) (o : Option (List ℕ)) → option_map (λ bs. front ++ bs) (with_byte o b) ≡ option_map (λ bs. (front ++ b ∷ []) ++ bs) o
more_bytes front b None = refl
more_bytes front b (Some bs) = ap (λ l. Some l) (sym (append_assoc front (b ∷ []) bs))

pub bytes_wrong : (vs : List Value) (i : ℕ) (v : Value) (front : List ℕ) (all : Option (List ℕ)) → i < length vs → v ≡ get_or vs i v → byte_of (view v) ≡ None
    → all ≡ option_map (λ bs. front ++ bs) (bytes_of (items_view (drop i vs))) → all ≡ None
bytes_wrong vs i v front all h at wrong e =
    e ∙ ap (option_map (λ bs. front ++ bs)) (front_item vs i v h at ∙ ap (option_and_then (with_byte (bytes_of (items_view (drop (i + 1) vs))))) wrong)

pub bytes_more : (vs : List Value) (i : ℕ) (v : Value) (front : List ℕ) (b : ℕ) (all : Option (List ℕ)) → i < length vs → v ≡ get_or vs i v → byte_of (view v) ≡ Some b
    → all ≡ option_map (λ bs. front ++ bs) (bytes_of (items_view (drop i vs))) → all ≡ option_map (λ bs. (front ++ b ∷ []) ++ bs) (bytes_of (items_view (drop (i + 1) vs)))
bytes_more vs i v front b all h at is e =
    e ∙ ap (option_map (λ bs. front ++ bs)) (front_item vs i v h at ∙ ap (option_and_then (with_byte (bytes_of (items_view (drop (i + 1) vs))))) is)
    ∙ more_bytes front b (bytes_of (items_view (drop (i + 1) vs)))

pub bytes_first : (front : List ℕ) (o : Option (List ℕ)) → front ≡ [] → o ≡ option_map (λ bs. front ++ bs) o
bytes_first front None e = refl
bytes_first front (Some bs) e = ap (λ l. Some (l ++ bs)) (sym e)

pub bytes_all : (vs : List Value) (i : ℕ) (front : List ℕ) (all : Option (List ℕ)) → drop i vs ≡ [] → all ≡ option_map (λ bs. front ++ bs) (bytes_of (items_view (drop i vs))) → all ≡ Some front
bytes_all vs i front all end e = e ∙ ap (λ l. option_map (λ bs. front ++ bs) (bytes_of (items_view l))) end ∙ ap (λ l. Some l) (append-nil front)

count_is : (vs : List Value) → count_of (items_view vs) ≡ length vs
count_is [] = refl
count_is (v ∷ vs) = rw (add-one) (ap suc (count_is vs))

pub pieces_many : (vs : List Value) → 256 < length vs → pieces_of (items_view vs) ≡ None
pieces_many vs h =
    let t : nat_le (count_of (items_view vs)) 256 ≡ false = rw (count_is vs) (grind (arith, common_steps, h)) in
    rw t refl

pub pieces_few : (vs : List Value) → length vs ≤ 256 → pieces_of (items_view vs) ≡ bytes_of (items_view vs)
pieces_few vs h =
    let t : nat_le (count_of (items_view vs)) 256 ≡ true = rw (count_is vs) (grind (arith, common_steps, h)) in
    rw t refl
