-- Shares by an encoder that holds the stripe.
use Rattle.std.proofs.Common.{◌≡◌, ◌<◌, ◌*◌, ℕ, Bool, true, false, not, ◌&&◌, eqb, refl, List, length, sym, ap, ap₂, ◌∙◌, zero-add, slice_index}
use Rattle.std.proofs.lemmas.Bool.{eqb-true, and_parts}
use Rattle.std.specs.List.{range_with_len}
use Rattle.std.proofs.lemmas.List.FromFn.{get_or-range_with_len, length-range_with_len}
use Rattle.rs_stripe.specs.Encoding.{Encoding, filled}
use Rattle.rs_stripe.proofs.ManyShares.{filled_whole}
use Rattle.rs_stripe.specs.Segment.{share_of}
use Rattle.bw_decode.specs.Room.{IsEncoderOf, IsHeldBy}

index_at : (n j : ℕ) → j < n → slice_index (range_with_len 0 n) j ≡ j
index_at n j h = get_or-range_with_len 0 n j 0 h ∙ zero-add j

-- it has as many indexes as shares
pub index_count : (k size n : ℕ) (encoder : Encoding) → IsEncoderOf k size n encoder → length encoder.indexes ≡ n
index_count k size n encoder own = ap length own.indexes_are ∙ length-range_with_len 0 n

pub held_share : (k size n : ℕ) (stripe : List ℕ) (encoder : Encoding) (j : ℕ) → IsHeldBy k size n stripe encoder → j < n
    → share_of encoder.k encoder.size encoder.stripe (slice_index encoder.indexes j) ≡ share_of k size stripe j
held_share k size n stripe encoder j held h =
    ap (λ m. share_of m encoder.size encoder.stripe (slice_index encoder.indexes j)) held.own.k_is
    ∙ ap (λ m. share_of k m encoder.stripe (slice_index encoder.indexes j)) held.own.size_is
    ∙ ap (λ bytes. share_of k size bytes (slice_index encoder.indexes j)) held.stripe_is
    ∙ ap (share_of k size stripe) (ap (λ xs. slice_index xs j) held.own.indexes_are ∙ index_at n j h)

-- what holds a stripe from now on
pub held_now : (k size n : ℕ) (stripe : List ℕ) (before after : Encoding) → IsEncoderOf k size n before → length stripe ≡ k * size
    → after.k ≡ before.k → after.size ≡ before.size → after.indexes ≡ before.indexes
    → after.stripe ≡ filled (before.k * before.size) stripe
    → IsHeldBy k size n stripe after
held_now k size n stripe before after own len ks sizes indexes bytes = record {
  own = record {
    k_is = ks ∙ own.k_is;
    size_is = sizes ∙ own.size_is;
    indexes_are = indexes ∙ own.indexes_are;
  };
  stripe_is = bytes ∙ filled_whole (before.k * before.size) stripe (len ∙ sym (ap₂ (λ a b. a * b) own.k_is own.size_is));
}

holds : (a : Bool) → false ≡ not a → a ≡ true
holds true e = refl
holds false e = cc

-- schemes that don't differ have the same numbers
pub same_numbers : (k k' m m' o o' n n' share share' : ℕ)
    → false ≡ not (eqb k k' && (eqb m m' && (eqb o o' && (eqb n n' && eqb share share'))))
    → (k ≡ k') × (n ≡ n') × (share ≡ share')
same_numbers k k' m m' o o' n n' share share' e =
    let all = and_parts (eqb k k') _ (holds _ e) in
    let last = and_parts (eqb n n') _ (and_parts (eqb o o') _ (and_parts (eqb m m') _ all.1).1).1 in
    (eqb-true k k' all.0, eqb-true n n' last.0, eqb-true share share' last.1)
