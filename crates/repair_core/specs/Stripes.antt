-- Stripes that are near what pieces answer, which pieces they show to be altered, and the pieces that they make. A
-- stripe is k rows of size bytes.
use Rattle.std.specs.Prelude.{◌≡◌, ℕ, zero, suc, ◌*◌, ◌<◌, Bool, false, ◌||◌, List, [], ◌++◌, length, map, filter, slice_index_or, All}
use Rattle.std.specs.List.{concat}
use Rattle.sat_base.specs.declared.items.Share.{Share}
use Rattle.rs_stripe.specs.Segment.{share_of}
use Rattle.bw_decode.specs.Altered.{is_altered, indexes_of}
use Rattle.bw_decode.specs.Near.{IsNear}
use Rattle.repair_core.specs.Answers.{answer_at, answers_at}

-- k rows of bytes that are near the answers
pub record IsStripe (k size : ℕ) (answers : List Share) (stripe : List ℕ) : Type 0 where
  pub long : length stripe ≡ k * size
  pub bytes : All (λ byte. byte < 256) stripe
  pub near : IsNear k size stripe answers

-- some stripe is near the answers
abbrev pub HasNear : ℕ → ℕ → List Share → Type 0
HasNear k size answers = (stripe : List ℕ) × IsNear k size stripe answers

-- no stripe is
abbrev pub IsNoneNear : ℕ → ℕ → List Share → Type 0
IsNoneNear k size answers = (stripe : List ℕ) → IsNear k size stripe answers → ⊥

-- stripe s is the first of the count stripes that no stripe is near
pub record IsUnclear (k size count : ℕ) (pieces : List Share) (s : ℕ) : Type 0 where
  pub within : s < count
  pub none : IsNoneNear k size (answers_at size count s pieces)
  pub earlier : (t : ℕ) → t < s → HasNear k size (answers_at size count t pieces)

-- the stripes are near what the pieces answer for the first, the second and so on
abbrev pub AreNear : ℕ → ℕ → ℕ → List Share → List (List ℕ) → Type 0
AreNear k size count pieces stripes =
    (s : ℕ) → s < length stripes → IsStripe k size (answers_at size count s pieces) (slice_index_or stripes s [])

-- the test holds at some number below n
abbrev pub any_below : ℕ → (ℕ → Bool) → Bool
any_below zero test = false
any_below (suc n) test = any_below n test || test n

-- the piece's answer is altered for at least one of the stripes
abbrev pub is_ever_altered : ℕ → ℕ → ℕ → List (List ℕ) → Share → Bool
is_ever_altered k size count stripes piece =
    any_below (length stripes) (λ s. is_altered k size (slice_index_or stripes s []) (answer_at size count s piece))

-- the indexes of the pieces that are altered for at least one of the stripes
abbrev pub altered_indexes : ℕ → ℕ → ℕ → List (List ℕ) → List Share → List ℕ
altered_indexes k size count stripes pieces = indexes_of (filter (is_ever_altered k size count stripes) pieces)

-- the piece with the stripes' shares of its index behind it
abbrev pub longer : ℕ → ℕ → List (List ℕ) → Share → Share
longer k size stripes piece =
    record { index = piece.index; bytes = piece.bytes ++ concat (map (λ stripe. share_of k size stripe piece.index) stripes) }
