-- Room that is used again for each stripe, and fresh pieces while they are written.
use Rattle.std.specs.Prelude.{◌≡◌, ◌≢◌, ℕ, ◌+◌, ◌*◌, ◌^◌, ◌<◌, ◌≤◌, Bool, false, ◌||◌, List, [], ◌∷◌, length, map, take, slice_index_or, filter, All}
use Rattle.std.specs.List.{concat}
use Rattle.sat_base.specs.declared.items.Share.{Share}
use Rattle.repair_core.specs.Indexes.{has_index}
use Rattle.bw_decode.specs.Altered.{is_altered, indexes_of}
use Rattle.rs_stripe.specs.Encoding.{Encoding}
use Rattle.repair_core.specs.Stripes.{IsStripe, AreNear, altered_indexes, longer}

-- one of the two has room for a share
abbrev pub IsRoomy : ℕ → List ℕ → List ℕ → Type 0
IsRoomy size held aside = length held ≢ size → length aside ≡ size

-- each answer has room for a share, held or aside
pub record AreRoomy (size : ℕ) (answers : List Share) (spares : List (List ℕ)) : Type 0 where
  pub as_many : length spares ≡ length answers
  pub roomy :
      (i : ℕ) (d : Share) (e : List ℕ) → i < length answers
      → IsRoomy size (slice_index_or answers i d).bytes (slice_index_or spares i e)

-- the piece as far as it is written
abbrev pub cut_short : ℕ → Share → Share
cut_short len piece = record { index = piece.index; bytes = take len piece.bytes }

-- room for answers, and for a stripe
pub record IsRoom (k size : ℕ) (answers : List Share) (spares : List (List ℕ)) (stripe : List ℕ) : Type 0 where
  pub roomy : AreRoomy size answers spares
  pub long : length stripe ≡ k * size

-- a stripe's share is written behind those of `done` stripes
pub record IsWritten (k size done : ℕ) (stripe : List ℕ) (old new : Share) : Type 0 where
  pub written : cut_short ((done + 1) * size) new ≡ longer k size (stripe ∷ []) (cut_short (done * size) old)
  pub index : new.index ≡ old.index
  pub long : length new.bytes ≡ length old.bytes

-- marks for each index, and whole pieces of count stripes, of which `done` are written
pub record IsMade (size n count done : ℕ) (marks : List Bool) (fresh : List Share) : Type 0 where
  pub indexes : length marks ≡ 256
  pub below : All (λ piece. piece.index < n) fresh
  pub long : All (λ piece. length piece.bytes ≡ count * size) fresh
  pub within : done ≤ count
  pub few : count ≤ 2 ^ 40

-- an encoder of the shares of these pieces
pub record IsEncoder (k size : ℕ) (fresh : List Share) (encoder : Encoding) : Type 0 where
  pub k_is : encoder.k ≡ k
  pub size_is : encoder.size ≡ size
  pub indexes_are : encoder.indexes ≡ indexes_of fresh

-- the stripe is near the answers; those that it shows to be altered are marked, and its shares are written
pub record IsMended (k size : ℕ) (answers : List Share) (done : ℕ) (marks : List Bool) (fresh : List Share) (stripe : List ℕ) (new_marks : List Bool) (new_fresh : List Share) : Type 0 where
  pub near : IsStripe k size answers stripe
  pub marks_are :
      (index : ℕ) → slice_index_or new_marks index false
      ≡ (slice_index_or marks index false || has_index (indexes_of (filter (is_altered k size stripe) answers)) index)
  pub fresh_are :
      map (cut_short ((done + 1) * size)) new_fresh
      ≡ map (longer k size (stripe ∷ [])) (map (cut_short (done * size)) fresh)

-- the marked ones of these indexes
abbrev pub marked_of : List Bool → List ℕ → List ℕ
marked_of marks indexes = filter (λ index. slice_index_or marks index false) indexes

-- these stripes are near their answers, and marks and pieces, of which `done` stripes were written, are what comes
-- of them
pub record IsSoFar (k size count : ℕ) (pieces : List Share) (done : ℕ) (marks : List Bool) (fresh : List Share) (stripes : List (List ℕ)) (new_marks : List Bool) (new_fresh : List Share) : Type 0 where
  pub near : AreNear k size count pieces stripes
  pub marks_are :
      (index : ℕ) → slice_index_or new_marks index false
      ≡ (slice_index_or marks index false || has_index (altered_indexes k size count stripes pieces) index)
  pub fresh_are :
      map (cut_short ((done + length stripes) * size)) new_fresh
      ≡ map (longer k size stripes) (map (cut_short (done * size)) fresh)

-- so many stripes are near their answers, and marks and pieces are what comes of them
pub record AreMended (k size count : ℕ) (pieces : List Share) (number done : ℕ) (marks : List Bool) (fresh : List Share) (new_marks : List Bool) (new_fresh : List Share) : Type 0 where
  pub stripes : List (List ℕ)
  pub as_many : length stripes ≡ number
  pub so_far : IsSoFar k size count pieces done marks fresh stripes new_marks new_fresh

-- the same, and these are the stripes' bytes
pub record AreKept (k size count : ℕ) (pieces : List Share) (number done : ℕ) (marks : List Bool) (fresh : List Share) (new_marks : List Bool) (new_fresh : List Share) (bytes : List ℕ) : Type 0 where
  pub mended : AreMended k size count pieces number done marks fresh new_marks new_fresh
  pub bytes_are : bytes ≡ concat mended.stripes
