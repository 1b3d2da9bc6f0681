-- How many stripes a segment makes.
use Rattle.std.proofs.Common.{◌≡◌, ℕ, ◌+◌, ◌*◌, ◌/◌, ◌%◌, ◌<◌, ◌≤◌, ◌⊎◌, inl, inr, min, ap, arith}
use Rattle.std.proofs.Math.Nat.{mul-le-mul_left, mul-le-mul}
use Rattle.std.proofs.lemmas.Bool.{cases_lt}
use Rattle.std.proofs.lemmas.Grind.{div_ceil_times}
use Rattle.sat_base.specs.Scheme.{stripe_count}

pub some_bytes : (k size : ℕ) → 1 ≤ k → 1 ≤ size → 1 ≤ k * size
some_bytes k size hk hs = let least : 1 * 1 ≤ k * size = mul-le-mul hk hs in omega (arith, least)

-- a segment has no more stripes than bytes
pub few_stripes : (k size len : ℕ) → 1 ≤ k → 1 ≤ size → stripe_count k size len ≤ len
few_stripes k size len hk hs = go (k * size) (some_bytes k size hk hs)
  where
    go : (d : ℕ) → 1 ≤ d → len / d + min 1 (len % d) ≤ len
    go d some = at (len / d + min 1 (len % d)) (div_ceil_times len d (omega (arith, some))).1
      where
        at : (n : ℕ) → n * d < len + d → n ≤ len
        at n h = pick (cases_lt len n)
          where
            pick : (len < n) ⊎ (n ≤ len) → n ≤ len
            pick (inr l) = l
            pick (inl l) =
                let most : d * (len + 1) ≤ d * n = mul-le-mul_left d (omega (arith, l)) in
                let least : len * 1 ≤ len * d = mul-le-mul_left len some in
                absurd (omega (arith, most, least, h))

-- whole stripes are as many as they are
pub count_stripes : (k size count : ℕ) → 1 ≤ k → 1 ≤ size → stripe_count k size (count * (k * size)) ≡ count
count_stripes k size count hk hs = go (k * size) (some_bytes k size hk hs)
  where
    go : (d : ℕ) → 1 ≤ d → (count * d) / d + min 1 ((count * d) % d) ≡ count
    go d some = at ((count * d) / d + min 1 ((count * d) % d)) (div_ceil_times (count * d) d (omega (arith, some)))
      where
        at : (n : ℕ) → (count * d ≤ n * d) × (n * d < count * d + d) → n ≡ count
        at n (low, high) = pick (cases_lt count n) (cases_lt n count)
          where
            pick : (count < n) ⊎ (n ≤ count) → (n < count) ⊎ (count ≤ n) → n ≡ count
            pick (inl l) other =
                let most : d * (count + 1) ≤ d * n = mul-le-mul_left d (omega (arith, l)) in absurd (omega (arith, most, high))
            pick (inr l) (inl m) =
                let most : d * (n + 1) ≤ d * count = mul-le-mul_left d (omega (arith, m)) in absurd (omega (arith, most, low, some))
            pick (inr l) (inr m) = omega (arith, l, m)

-- a segment of some bytes makes some stripe
pub some_stripes : (k size len : ℕ) → 1 ≤ k → 1 ≤ size → 1 ≤ len → 1 ≤ stripe_count k size len
some_stripes k size len hk hs some = go (k * size) (some_bytes k size hk hs)
  where
    go : (d : ℕ) → 1 ≤ d → 1 ≤ len / d + min 1 (len % d)
    go d least = at (len / d + min 1 (len % d)) (div_ceil_times len d (omega (arith, least))).0
      where
        at : (n : ℕ) → len ≤ n * d → 1 ≤ n
        at n h = pick (cases_lt 0 n)
          where
            pick : (0 < n) ⊎ (n ≤ 0) → 1 ≤ n
            pick (inl l) = omega (arith, l)
            pick (inr l) = let empty : n ≡ 0 = omega (arith, l) in let none : n * d ≡ 0 * d = ap (λ m. m * d) empty in absurd (omega (arith, none, h, some))
