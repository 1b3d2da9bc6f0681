-- The places of an offer stand by their indexes.
use Rattle.std.proofs.Common.{◌≡◌, ℕ, zero, suc, ◌+◌, ◌<◌, List, [], ◌∷◌, ◌++◌, length, get_or, refl, sym, ap, ◌∙◌, zero-add, arith}
use Rattle.std.specs.List.{range_with_len}
use Rattle.std.proofs.lemmas.List.{get_or-map, length-map, map-append}
use Rattle.std.proofs.lemmas.List.FromFn.{get_or-range_with_len, length-range_with_len}
use Rattle.sat_base.specs.declared.records.At.{At}
use Rattle.segment_core.specs.Places.{index_of, IsByIndex, IsOffer}

length_offer : (n : ℕ) (places : List At) → IsOffer n places → length places ≡ n
length_offer n places offer = sym (length-map places index_of) ∙ ap length offer ∙ length-range_with_len 0 n

index_at : (n : ℕ) (places : List At) → IsOffer n places → (i : ℕ) (d : At) → i < length places → (get_or places i d).index ≡ i
index_at n places offer i d lt =
    let within : i < n = omega (arith, length_offer n places offer) in
    sym (get_or-map index_of places i d d.index lt) ∙ ap (λ indexes. get_or indexes i d.index) offer ∙ get_or-range_with_len 0 n i d.index within ∙ zero-add i

pub offer_by_index : (n : ℕ) (places : List At) → IsOffer n places → IsByIndex places
offer_by_index n places offer i j d lt within =
    rw (index_at n places offer i d (omega arith), index_at n places offer j d within) lt

range_more : (a n : ℕ) → range_with_len a (n + 1) ≡ range_with_len a n ++ (a + n) ∷ []
range_more a zero = let same : a + 0 ≡ a = omega arith in rw same refl
range_more a (suc n) =
    let longer : suc n + 1 ≡ suc (n + 1) = omega arith in
    let last : a + 1 + n ≡ a + suc n = omega arith in
    rw (longer, range_more (a + 1) n, last) refl

-- one more place
pub offer_more : (n : ℕ) (places : List At) (place : At) → IsOffer n places → place.index ≡ n → IsOffer (n + 1) (places ++ place ∷ [])
offer_more n places place offer next =
    let last : 0 + n ≡ n = omega arith in
    rw (map-append index_of places (place ∷ []), range_more 0 n, last, offer, next) refl
