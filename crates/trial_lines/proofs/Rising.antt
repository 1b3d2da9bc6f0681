-- Indexes that rise, taken from the front.
use Rattle.std.proofs.Common.{◌≡◌, ℕ, ◌+◌, ◌-◌, ◌<◌, List, slice_index_or, inl, inr, arith}
use Rattle.std.proofs.lemmas.Bool.{cases_lt}
use Rattle.sat_base.specs.declared.records.At.{At}

-- the places before this one rise
abbrev pub RiseBefore : List At → ℕ → Type 0
RiseBefore pieces i = (j k : ℕ) (d : At) → j < k → k < i → (slice_index_or pieces j d).index < (slice_index_or pieces k d).index

-- and so do those up to it, where it is above the one before
pub rise_more : (pieces : List At) (i : ℕ) → RiseBefore pieces i
    → ((d : At) → 0 < i → (slice_index_or pieces (i - 1) d).index < (slice_index_or pieces i d).index) → RiseBefore pieces (i + 1)
rise_more pieces i before here j k d lt below =
    elim (cases_lt k i) [
      | inl h ↦ before j k d lt h
      | inr h ↦
          let last : k ≡ i = omega arith in
          rw last (elim (cases_lt j (i - 1)) [
            | inl g ↦
                let lower : (slice_index_or pieces j d).index < (slice_index_or pieces (i - 1) d).index = before j (i - 1) d g (omega arith) in
                let upper : (slice_index_or pieces (i - 1) d).index < (slice_index_or pieces i d).index = here d (omega arith) in
                omega arith
            | inr g ↦ let next : j ≡ i - 1 = omega arith in rw next (here d (omega arith))
          ])
    ]
