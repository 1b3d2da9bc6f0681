-- The most bytes that a node stores.
use Rattle.std.proofs.Common.{◌≡◌, ℕ, suc, ◌+◌, ◌*◌, ◌/◌, ◌%◌, ◌<◌, ◌≤◌, ◌^◌, Bool, true, false, not, List, [], ◌∷◌, length, min, refl, arith}
use Rattle.std.specs.Prelude.{if◌then◌else◌, nat_le, filter}
use Rattle.std.specs.List.{list_all, sum_by}
use Rattle.std.proofs.Math.Nat.{mul-le-mul_left}
use Rattle.std.proofs.lemmas.Grind.{div_ceil_times}
use Rattle.std.proofs.lemmas.List.Sums.{sum_by-cons}
use Rattle.std.proofs.lemmas.Bool.Decides.{nat_tests}
use Rattle.std.proofs.lemmas.Bool.{and_parts}
use Rattle.sat_base.specs.Scheme.{IsScheme, stripe_count}
use Rattle.sat_base.specs.declared.limits.TheConstants as limits
use Rattle.sat_base.specs.declared.settings.Marks.{Marks}
use Rattle.sat_base.specs.declared.settings.Customer.{Customer}
use Rattle.node_registry.specs.declared.node.Node.{Node}
use Rattle.segment_core.specs.Record.{SegmentRecord}
use Rattle.machine_step.specs.Tables.{Setup, Tables, is_no_size}
use Rattle.machine_step.specs.PlanRules.{is_exited}
use Rattle.machine_step.specs.Stored.{piece_bytes, lies_at, stored_bytes}
use Rattle.machine_step.specs.Rules.{is_sound_segment}
use Rattle.machine_step.specs.Bounds.{IsValid}
use Rattle.machine_step.proofs.GrowthLemmas.{fine}
use Rattle.machine_step.proofs.Validity.{segments_hold}

div-most : (len most width : ℕ) → 0 < width → len ≤ most * width → len / width + min 1 (len % width) ≤ most
div-most len most width some le =
    let count = len / width + min 1 (len % width) in
    let times : count * width < len + width = (div_ceil_times len width some).1 in
    go (nat_le count most) refl times
  where
    go : (b : Bool) → nat_le (len / width + min 1 (len % width)) most ≡ b → (len / width + min 1 (len % width)) * width < len + width → len / width + min 1 (len % width) ≤ most
    go true e h = grind (arith, nat_tests, e)
    go false e h =
        let count = len / width + min 1 (len % width) in
        let above : suc most ≤ count = grind (arith, nat_tests, e) in
        let wide : width * suc most ≤ width * count = mul-le-mul_left width above in
        absurd (omega arith)

module _ (setup : Setup) (scheme : IsScheme setup.k setup.m setup.o setup.n setup.share) where
  piece-most : (segment : SegmentRecord) → not (is_no_size setup segment.len) ≡ true → piece_bytes setup segment ≤ limits.PIECE
  piece-most segment sized =
      let few : segment.len ≤ limits.PIECE / setup.share * setup.k * setup.share = grind (arith, nat_tests, sized) in
      let some : 0 < setup.k * setup.share = omega (arith, mul-le-mul_left setup.k scheme.some_bytes, scheme.rebuilds) in
      let count : stripe_count setup.k setup.share segment.len ≤ limits.PIECE / setup.share = div-most segment.len (limits.PIECE / setup.share) (setup.k * setup.share) some (omega arith) in
      let wide : setup.share * stripe_count setup.k setup.share segment.len ≤ setup.share * (limits.PIECE / setup.share) = mul-le-mul_left setup.share count in
      omega (arith, wide, scheme.some_bytes)

  sum-most : (marks : Marks) (nodes : List Node) (customers : List Customer) (test : SegmentRecord → Bool) (rows : List SegmentRecord) → list_all (is_sound_segment setup marks nodes customers) rows ≡ true → sum_by (piece_bytes setup) (filter test rows) ≤ length rows * limits.PIECE
  sum-most marks nodes customers test [] all = omega arith
  sum-most marks nodes customers test (segment ∷ rows) all =
      let parts = and_parts (is_sound_segment setup marks nodes customers segment) _ all in
      let one = piece-most segment (fine setup marks nodes customers segment parts.0).sized in
      go (test segment) one (sum-most marks nodes customers test rows parts.1)
    where
      go : (b : Bool) → piece_bytes setup segment ≤ limits.PIECE → sum_by (piece_bytes setup) (filter test rows) ≤ length rows * limits.PIECE → sum_by (piece_bytes setup) (if b then segment ∷ filter test rows else filter test rows) ≤ suc (length rows) * limits.PIECE
      go true one h = omega (arith, one, h, sum_by-cons (piece_bytes setup) segment (filter test rows))
      go false one h = omega (arith, h)

module _ (t : Tables) (v : IsValid t) where
  pub stored-most : (node : Node) → stored_bytes t.setup t.segments node ≤ 2 ^ 44
  unfolding stored_bytes
  stored-most node =
      let hold = segments_hold t v in
      let most = sum-most t.setup v.bounds.setup.scheme t.marks t.nodes t.customers (lies_at node.id) t.segments hold.all in
      let few : length t.segments ≤ 262144 = omega (arith, hold.few, v.bounds.setup.caps.segments.1) in
      go (is_exited node.status) (omega (arith, most, few))
    where
      go : (b : Bool) → sum_by (piece_bytes t.setup) (filter (lies_at node.id) t.segments) ≤ 2 ^ 44 → (if b then 0 else sum_by (piece_bytes t.setup) (filter (lies_at node.id) t.segments)) ≤ 2 ^ 44
      go true h = omega arith
      go false h = h
