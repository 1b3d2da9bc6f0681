-- The sizes of segments.
use Rattle.std.proofs.Common.{◌≡◌, ℕ, ◌*◌, ◌/◌, ◌<◌, ◌≤◌, ◌^◌, false, Some, arith}
use Rattle.std.proofs.Math.Nat.{mul-le-mul_left}
use Rattle.std.proofs.lemmas.Bool.Decides.{nat_tests}
use Rattle.std.proofs.lemmas.Bool.{not-true}
use Rattle.segment_core.specs.Record.{SegmentRecord}
use Rattle.machine_step.specs.Bounds.{IsValid}
use Rattle.machine_step.specs.Tables.{Setup, Tables, is_no_size, segment_at}
use Rattle.machine_step.proofs.Fits.{fine_found}

size-within : (setup : Setup) (len : ℕ) → 1 ≤ setup.share → setup.k ≤ 128 → is_no_size setup len ≡ false → len < 2 ^ 40
size-within setup len some few size =
    let piece : setup.share * (4194304 / setup.share) ≤ 4194304 = omega arith in
    let all : setup.k * (setup.share * (4194304 / setup.share)) ≤ setup.k * 4194304 = mul-le-mul_left setup.k piece in
    let most : len ≤ 4194304 / setup.share * setup.k * setup.share = grind (arith, nat_tests, size) in
    omega (arith, all, most, few)

pub size-most : (setup : Setup) (len : ℕ) → 1 ≤ setup.share → setup.k ≤ 128 → is_no_size setup len ≡ false → len ≤ 2 ^ 40
size-most setup len some few size = let short = size-within setup len some few size in omega (arith, short)

module _ (t : Tables) (v : IsValid t) where
  pub size-short : (len : ℕ) → is_no_size t.setup len ≡ false → len < 2 ^ 40
  size-short len size =
      let scheme = v.bounds.setup.scheme in
      size-within t.setup len scheme.some_bytes (omega (arith, scheme.repairs_in_time, scheme.wants_more, scheme.tries_enough, scheme.few_pieces)) size

  pub found-short : (id : ℕ) (found : SegmentRecord) → segment_at t.segments id ≡ Some found → found.len < 2 ^ 40
  found-short id found at = size-short found.len (not-true _ (fine_found t v id found at).sized)
