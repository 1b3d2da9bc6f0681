-- The stripes of a named segment.
use Rattle.std.proofs.Common.{◌≡◌, ℕ, suc, ◌+◌, ◌-◌, ◌*◌, ◌/◌, ◌%◌, ◌<◌, ◌≤◌, List, ◌++◌, length, take, drop, replicate, min, refl, sym, ap, ◌∙◌, subst, arith, length-append}
use Rattle.std.specs.Prelude.{All}
use Rattle.std.proofs.Math.Nat.{mul-le-mul_right}
use Rattle.std.proofs.lemmas.Grind.{div_ceil_times}
use Rattle.std.proofs.lemmas.List.{length-take-le, length-drop, length-replicate}
use Rattle.std.proofs.lemmas.List.Elements.{All-append, All-replicate, All-take, All-drop}
use Rattle.sat_base.specs.Scheme.{stripe_count}
use Rattle.rs_stripe.specs.Segment.{padded, run, stripe_of}
use Rattle.repair_core.proofs.Numbers.{some_bytes}

-- a segment's stripes have room for its bytes
stripes_hold : (k size len : ℕ) → 1 ≤ k → 1 ≤ size → len ≤ stripe_count k size len * (k * size)
stripes_hold k size len hk hs = go (k * size) (some_bytes k size hk hs)
  where
    go : (d : ℕ) → 1 ≤ d → len ≤ (len / d + min 1 (len % d)) * d
    go d some = (div_ceil_times len d (omega (arith, some))).0

length-padded : (k size : ℕ) (named : List ℕ) → 1 ≤ k → 1 ≤ size → length (padded k size named) ≡ stripe_count k size (length named) * (k * size)
length-padded k size named hk hs = go (stripe_count k size (length named) * (k * size)) (stripes_hold k size (length named) hk hs)
  where
    go : (n : ℕ) → length named ≤ n → length (named ++ replicate (n - length named) 0) ≡ n
    go n fits = length-append named (replicate (n - length named) 0) ∙ (let rest = length-replicate {A = ℕ} (n - length named) 0 in omega (arith, rest, fits))

length-run : (w count : ℕ) (bytes : List ℕ) (s : ℕ) → length bytes ≡ count * w → s < count → length (run w bytes s) ≡ w
length-run w count bytes s long within =
    let part : (s + 1) * w ≤ count * w = mul-le-mul_right w (omega (arith, within)) in
    length-take-le w (drop (s * w) bytes) (omega (arith, length-drop (s * w) bytes, long, part))

pub stripe_long : (k size : ℕ) (named : List ℕ) (s : ℕ) → 1 ≤ k → 1 ≤ size → s < stripe_count k size (length named) → length (stripe_of k size named s) ≡ k * size
stripe_long k size named s hk hs within = length-run (k * size) (stripe_count k size (length named)) (padded k size named) s (length-padded k size named hk hs) within

pub stripe_bytes : (k size : ℕ) (named : List ℕ) (s : ℕ) → All (λ byte. byte < 256) named → All (λ byte. byte < 256) (stripe_of k size named s)
stripe_bytes k size named s bytes =
    let P : ℕ → Type 0 = λ byte. byte < 256 in
    let more : ℕ = stripe_count k size (length named) * (k * size) - length named in
    All-take P (k * size) (drop (s * (k * size)) (padded k size named)) (All-drop P (s * (k * size)) (padded k size named)
    (All-append P named (replicate more 0) bytes (All-replicate P more 0 (omega arith))))
