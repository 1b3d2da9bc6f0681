-- What the pairs of one segment come to.
use Rattle.std.proofs.Common.{◌≡◌, ℕ, ◌<◌, ◌^◌, Bool, true, false, not, ◌&&◌, ◌||◌, arith}
use Rattle.std.specs.Prelude.{◌==◌, if◌then◌else◌}
use Rattle.std.proofs.lemmas.Bool.Decides.{nat_tests}
use Rattle.segment_index.specs.declared.pairs.Pair.{Pair}
use Rattle.segment_index.specs.Pairs.{pair_rank}

-- equal ranks are those of equal pairs
pub rank_high : (a b : Pair) → a.low < 2 ^ 64 → b.low < 2 ^ 64 → pair_rank a ≡ pair_rank b → a.high ≡ b.high
unfolding pair_rank
rank_high a b la lb e = omega (arith, e)

pub rank_low : (a b : Pair) → a.low < 2 ^ 64 → b.low < 2 ^ 64 → pair_rank a ≡ pair_rank b → a.low ≡ b.low
unfolding pair_rank
rank_low a b la lb e = omega (arith, e)

-- what goes and then comes, at one segment's id and at another's
pub moved : (here was will old dropped now : Bool) → (here ≡ true → old ≡ was) → dropped ≡ (not (here && (was && not will)) && old) → now ≡ ((here && will) || dropped)
    → now ≡ (if here then will else old)
moved true true true old dropped now is d n = grind (arith, is)
moved true true false old dropped now is d n = grind (arith, is)
moved true false true old dropped now is d n = grind (arith, is)
moved true false false old dropped now is d n = grind (arith, is)
moved false was will old dropped now is d n = grind (arith, d, n)

-- one more piece, at a node where the segment doesn't stay, and at one where it does
pub dropped : (here node id other : ℕ) (took stays old before after : Bool) → (here ≡ node → stays ≡ false)
    → before ≡ (not ((other == id) && (took && not stays)) && old)
    → after ≡ (not ((here == node) && (id == other)) && before)
    → after ≡ (not ((other == id) && ((took || (here == node)) && not stays)) && old)
dropped here node id other took stays old before after leaves was is = grind (arith, nat_tests, leaves, was, is)

pub left_in : (here node id other : ℕ) (took stays old now : Bool) → (here ≡ node → stays ≡ true)
    → now ≡ (not ((other == id) && (took && not stays)) && old)
    → now ≡ (not ((other == id) && ((took || (here == node)) && not stays)) && old)
left_in here node id other took stays old now stay was = grind (arith, nat_tests, stay, was)
