use Rattle.std.proofs.Common.{◌≡◌, ℕ, ◌+◌, ◌-◌, ◌*◌, ◌<◌, ◌∙◌, ap, ap₂, sym, List, take, drop, length, slice_index, arith}
use Rattle.gf256.specs.Halves.{joined}
use Rattle.rs_stripe.specs.Segment.{share_of}
use Rattle.rs_stripe.specs.Encoding.{Encoding}
use Rattle.rs_stripe.specs.Held.{bytes_in}
use Rattle.rs_stripe.specs.Weights.{AreMatrix}
use Rattle.rs_stripe.proofs.ManyShares.{matrix_row, length-matrix_row, share_from_sums, tabulated}
use Rattle.rs_stripe.proofs.encoder.Encoder.write_share.Goals as goal

pub returns : goal.returns
returns c =
    let held = c.self.inside in
    let is = c.self.invariant in
    let k = held.k in
    let place = c.args.place in
    let low = held.low.items in
    let high = held.high.items in
    let rows = c.as_slice.result.now in
    let n = place * k + k - place * k in
    let cut : place * k + k - place * k ≡ k = omega arith in
    let weights = take (place * k + k - place * k) (drop (place * k) rows) in
    let within : place < length held.indexes.items = omega (arith, c.requires.place, ap (λ (e : Encoding). length e.indexes) c.self.view_is) in
    let matrix : AreMatrix k held.indexes.items rows = rw c.as_slice.ensures.value is.matrix in
    let rows_len : length rows ≡ length held.indexes.items * k = rw c.as_slice.ensures.value is.rows in
    let size : c.args.self.now.size ≡ held.size = sym (ap (λ (e : Encoding). e.size) c.self.view_is) in
    let bytes : (p : ℕ) → p < k * held.size → slice_index (bytes_in low high) p ≡ joined c.as_slice-2.result.now c.as_slice-3.result.now p
    = λ p h. tabulated (length low) (joined low high) p (omega (arith, is.low)) ∙ ap₂ (λ (a b : List ℕ). joined a b p) (sym c.as_slice-2.ensures.value) (sym c.as_slice-3.ensures.value) in
    share_from_sums k held.size (slice_index held.indexes.items place) (length weights) (slice_index weights) (joined c.as_slice-2.result.now c.as_slice-3.result.now)
    (bytes_in low high) c.combine.new.out
    (matrix_row k held.indexes.items rows place n matrix within cut)
    (length-matrix_row k (length held.indexes.items) rows place n within rows_len cut)
    bytes (c.combine.ensures.len ∙ c.requires.out ∙ size) c.combine.ensures.value
    ∙ ap (λ (e : Encoding). share_of e.k e.size e.stripe (slice_index e.indexes place)) c.self.view_is
