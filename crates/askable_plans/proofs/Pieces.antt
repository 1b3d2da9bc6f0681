-- Pieces of a segment as the places of a plan.
use Rattle.std.proofs.Common.{◌≡◌, ℕ, zero, suc, ◌<◌, ◌≤◌, ◌^◌, Bool, true, false, List, [], ◌∷◌, length, Some, refl, ap, subst, ◌∙◌, arith}
use Rattle.std.specs.Prelude.{All, filter, find, if◌then◌else◌, nat_lt, slice_index}
use Rattle.std.proofs.lemmas.Bool.Decides.{nat_tests}
use Rattle.std.proofs.lemmas.List.Elements.{All-nil, All-cons}
use Rattle.std.proofs.lemmas.Bool.{not-true}
use Rattle.sat_base.specs.declared.records.At.{At}
use Rattle.sat_base.specs.declared.scheme.Scheme.{Scheme}
use Rattle.sat_base.specs.Scheme.{stripe_count}
use Rattle.rows.specs.Rows.{AllAbove, IsRising}
use Rattle.bw_decode.specs.Near.{Rises}
use Rattle.audit_core.specs.Heard.{place_indexes}
use Rattle.node_registry.specs.declared.node.Node.{Node}
use Rattle.segment_core.specs.Places.{IsByIndex, index_of}
use Rattle.segment_core.specs.Record.{SegmentRecord}
use Rattle.repair_core.proofs.Numbers.{few_stripes, some_stripes}
use Rattle.machine_step.specs.Bounds.{IsValid}
use Rattle.machine_step.specs.Places.{places_of}
use Rattle.machine_step.specs.Rules.{are_below}
use Rattle.machine_step.specs.Step.{IsSchemeOf}
use Rattle.machine_step.specs.Tables.{Setup, Tables, is_no_size, segment_at}
use Rattle.machine_step.proofs.Drawn.{some-within}
use Rattle.machine_step.proofs.Fits.{fine_found}
use Rattle.machine_step.proofs.IndexLemmas.{rising-by_index}
use Rattle.machine_step.proofs.PieceLemmas.{all-filtered}
use Rattle.node_asks.specs.Asks.{pieces_of}
use Rattle.machine_step.proofs.SegmentSizes.{size-most}

-- the places of pieces are theirs
pub pieces_are : (nodes : List Node) (pieces : List At) → pieces_of (places_of nodes pieces) ≡ pieces
pieces_are nodes [] = refl
pieces_are nodes (p ∷ ps) = ap (λ (xs : List At). p ∷ xs) (pieces_are nodes ps)

above_at : (n : ℕ) (xs : List At) (k : ℕ) → AllAbove index_of n xs → k < length (place_indexes xs) → n < slice_index (place_indexes xs) k
above_at n [] k above lt = absurd (omega arith)
above_at n (x ∷ xs) zero above lt = above.0
above_at n (x ∷ xs) (suc k) above lt = above_at n xs k above.1 (omega arith)

pub rises_at : (xs : List At) → IsRising index_of xs → Rises (place_indexes xs)
rises_at [] rising i j lt within = absurd (omega arith)
rises_at (x ∷ xs) rising i zero lt within = absurd (omega arith)
rises_at (x ∷ xs) rising zero (suc j) lt within = above_at x.index xs j rising.0 (omega arith)
rises_at (x ∷ xs) rising (suc i) (suc j) lt within = rises_at xs rising.1 i j (omega arith) (omega arith)

pub rises_by : (xs : List At) → IsByIndex xs → Rises (place_indexes xs)
rises_by xs by = rises_at xs (rising-by_index xs by)

pub below_at : (n : ℕ) (xs : List At) → are_below n xs ≡ true → All (λ i. i < n) (place_indexes xs)
below_at n [] below = All-nil (λ i. i < n)
below_at n (x ∷ xs) below =
    let here : x.index < n = grind (arith, nat_tests, below) in
    let rest : are_below n xs ≡ true = grind (arith, nat_tests, below) in
    All-cons (λ i. i < n) x.index (place_indexes xs) here (below_at n xs rest)

-- one that is found is as all are
pub find_below : (n : ℕ) (test : At → Bool) (xs : List At) (p : At) → find test xs ≡ Some p → are_below n xs ≡ true → p.index < n
find_below n test [] p is below = absurd cc
find_below n test (x ∷ xs) p is below = go (test x) is (find_below n test xs p)
  where
    go : (b : Bool) → (if b then Some x else find test xs) ≡ Some p → (find test xs ≡ Some p → are_below n xs ≡ true → p.index < n) → p.index < n
    go true is later = let here : x.index < n = grind (arith, nat_tests, below) in let same : x ≡ p = cc in subst (λ (q : At). q.index < n) same here
    go false is later = let rest : are_below n xs ≡ true = grind (arith, nat_tests, below) in later is rest

-- the sizes of a segment that is there
pub record IsSized (setup : Setup) (len : ℕ) : Type 0 where
  pub few : len ≤ 2 ^ 40
  pub some_stripes : 1 ≤ stripe_count setup.k setup.share len
  pub few_stripes : stripe_count setup.k setup.share len ≤ len

module _ (t : Tables) (v : IsValid t) where
  pub sized : (id : ℕ) (found : SegmentRecord) → segment_at t.segments id ≡ Some found → IsSized t.setup found.len
  sized id found at =
      let scheme = v.bounds.setup.scheme in
      let size : is_no_size t.setup found.len ≡ false = not-true _ (fine_found t v id found at).sized in
      let some : 1 ≤ found.len = grind (arith, nat_tests, size) in
      record {
        few = size-most t.setup found.len scheme.some_bytes (omega (arith, scheme.repairs_in_time, scheme.wants_more, scheme.tries_enough, scheme.few_pieces)) size;
        some_stripes = some_stripes t.setup.k t.setup.share found.len scheme.rebuilds scheme.some_bytes some;
        few_stripes = few_stripes t.setup.k t.setup.share found.len scheme.rebuilds scheme.some_bytes;
      }

  -- some pieces of a segment
  pub some_rise : (test : At → Bool) (id : ℕ) (found : SegmentRecord) → segment_at t.segments id ≡ Some found → Rises (place_indexes (filter test found.pieces))
  some_rise test id found at = rises_by (filter test found.pieces) (some-within t v test id found at).by_index

  pub some_below : (scheme : Scheme) → IsSchemeOf t.setup scheme → (test : At → Bool) (id : ℕ) (found : SegmentRecord) → segment_at t.segments id ≡ Some found
      → All (λ i. i < scheme.n) (place_indexes (filter test found.pieces))
  some_below scheme own test id found at =
      let below : are_below t.setup.n (filter test found.pieces) ≡ true
      = all-filtered (λ piece. nat_lt piece.index t.setup.n) test found.pieces (fine_found t v id found at).indexed in
      below_at scheme.n (filter test found.pieces) (ap (λ n. are_below n (filter test found.pieces)) own.n ∙ below)
