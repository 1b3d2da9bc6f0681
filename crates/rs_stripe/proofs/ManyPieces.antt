-- Pieces of many indexes, while they are written.
use Rattle.std.proofs.Common.{ℕ, ◌≡◌, ◌<◌, ◌≤◌, ◌+◌, ◌*◌, refl, sym, ap, ◌∙◌, List, ◌++◌, length, take, slice_index, slice_index_or, arith}
use Rattle.std.specs.Prelude.{map}
use Rattle.std.specs.List.{concat}
use Rattle.std.proofs.lemmas.List.{same_lists, get_or-map, length-map, take_all}
use Rattle.sat_base.specs.Scheme.{stripe_count}
use Rattle.rs_stripe.specs.Segment.{tabulate, share_of, stripe_of, piece_of}
use Rattle.rs_stripe.specs.Encoding.{filled}
use Rattle.rs_stripe.specs.Pieces.{IsWritten, AreWritten}
use Rattle.rs_stripe.proofs.SegmentLemmas.{length-share_of, concat_more, piece_from_shares}
use Rattle.rs_stripe.proofs.ManyShares.{held_share}

-- the shares of one stripe more are written
pub written_more : (k size : ℕ) (segment indexes : List ℕ) (len s : ℕ) (bytes : List ℕ) (old new : List (List ℕ))
    → AreWritten k size segment indexes len s old → length new ≡ length old
    → ((p : ℕ) → p < k * size → slice_index bytes p ≡ slice_index segment (s * (k * size) + p))
    → ((t : ℕ) (d : List ℕ) → t < length old
    → IsWritten (share_of k size (filled (k * size) bytes) (slice_index indexes t)) (s * size) (slice_index_or old t d) (slice_index_or new t d))
    → AreWritten k size segment indexes len (s + 1) new
written_more k size segment indexes len s bytes old new before same held each = record {
  as_many = same ∙ before.as_many;
  long = λ t d h. (each t d (omega (arith, same, h))).long ∙ before.long t d (omega (arith, same, h));
  written = λ t d h.
      let within : t < length old = omega (arith, same, h) in
      let j = slice_index indexes t in
      let share = share_of k size (filled (k * size) bytes) j in
      let shares = λ (s : ℕ). share_of k size (stripe_of k size segment s) j in
      let ends : (s + 1) * size ≡ s * size + length share = omega (arith, length-share_of k size (filled (k * size) bytes) j) in
      ap (λ n. take n (slice_index_or new t d)) ends ∙ (each t d within).written
      ∙ ap (λ z. z ++ share) (before.written t d within)
      ∙ ap (λ z. concat (tabulate s shares) ++ z) (held_share k size segment s j bytes held)
      ∙ sym (concat_more s shares);
}

-- where all stripes are written they are the pieces
pub pieces_written : (k size : ℕ) (segment indexes : List ℕ) (stripes : ℕ) (pieces : List (List ℕ))
    → AreWritten k size segment indexes (stripes * size) stripes pieces → stripes ≡ stripe_count k size (length segment)
    → pieces ≡ map (piece_of k size segment) indexes
pieces_written k size segment indexes stripes pieces are count =
    same_lists pieces (map (piece_of k size segment) indexes) (are.as_many ∙ sym (length-map indexes (piece_of k size segment)))
    (λ t d h.
    let j = slice_index indexes t in
    let piece = slice_index_or pieces t d in
    let whole : length piece ≤ stripes * size = omega (arith, are.long t d h) in
    piece_from_shares k size j k size stripes segment piece refl refl count
    (sym (take_all (stripes * size) piece whole) ∙ are.written t d h)
    ∙ sym (get_or-map (piece_of k size segment) indexes t 0 d (omega (arith, are.as_many, h))))
