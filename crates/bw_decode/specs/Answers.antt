-- What a linear form reads of the answers, and which of the answers are known to be altered.
use Rattle.std.specs.Prelude.{◌≡◌, ◌≢◌, ℕ, ◌+◌, ◌*◌, ◌<◌, cond, eqb, Bool, true, false, not, ◌||◌, List, length, map, get_or, slice_index, slice_index_or, count_by}
use Rattle.sat_base.specs.declared.items.Share.{Share}
use Rattle.gf_linear.specs.Lagrange.{interpolated}
use Rattle.rs_stripe.specs.Codeword.{share}
use Rattle.bw_decode.specs.Altered.{is_altered, indexes_of}
use Rattle.bw_decode.specs.Near.{IsNear, Rises}
use Rattle.bw_decode.specs.Forms.{at_column}

-- the form's value of the answer, or 0 where its length is wrong
abbrev pub value_of : ℕ → ((ℕ → ℕ) → ℕ) → Share → ℕ
value_of size F answer = cond (eqb (length answer.bytes) size) (F (slice_index answer.bytes)) 0

-- that value of each answer
abbrev pub values_of : ℕ → ((ℕ → ℕ) → ℕ) → List Share → List ℕ
values_of size F answers = map (value_of size F) answers

-- byte c of the answer, or 0 where its length is wrong
abbrev pub byte_of : ℕ → ℕ → Share → ℕ
byte_of size c answer = value_of size (at_column c) answer

-- that byte of each answer
abbrev pub bytes_of : ℕ → ℕ → List Share → List ℕ
bytes_of size c answers = map (byte_of size c) answers

-- place i is marked
abbrev pub IsMarked : List Bool → ℕ → Type 0
IsMarked marks i = slice_index_or marks i false ≡ true

-- so many places are
abbrev pub marked : List Bool → ℕ
marked marks = count_by (λ mark. mark) marks

-- what is known of the marked answers: those of wrong length are among them, and each is altered
-- against every near stripe
pub record AreKnown (k size : ℕ) (answers : List Share) (marks : List Bool) : Type 0 where
  pub lengths :
      (i : ℕ) (a : Share) → i < length answers → length (get_or answers i a).bytes ≢ size
      → IsMarked marks i
  pub altered :
      (s : List ℕ) → IsNear k size s answers → (i : ℕ) (a : Share) → i < length answers
      → IsMarked marks i → is_altered k size s (get_or answers i a) ≡ true

-- no answer that isn't marked is altered against this stripe
abbrev pub AreRight : ℕ → ℕ → List ℕ → List Share → List Bool → Type 0
AreRight k size stripe answers marks =
    (i : ℕ) (a : Share) → i < length answers → slice_index_or marks i false ≡ false
    → is_altered k size stripe (get_or answers i a) ≡ false

-- the places rise, and are those of answers that aren't marked
pub record AreChosen (marks : List Bool) (places : List ℕ) : Type 0 where
  pub rise : Rises places
  pub within : (j : ℕ) → j < length places → slice_index places j < length marks
  pub unmarked :
      (j : ℕ) → j < length places → slice_index_or marks (slice_index places j) false ≡ false

-- the stripe is that of the chosen answers: row l has, in each column, the value at l of the
-- polynomial through their bytes
abbrev pub IsPredicted : ℕ → List Share → List ℕ → List ℕ → Type 0
IsPredicted size answers places stripe =
    (l c : ℕ) → l < length places → c < size
    → slice_index stripe (l * size + c)
    ≡ interpolated (length places) (λ j. slice_index (indexes_of answers) (slice_index places j))
    (λ j. slice_index (bytes_of size c answers) (slice_index places j)) l

-- the form's value of row l of the stripe
abbrev pub row_value : ℕ → List ℕ → ((ℕ → ℕ) → ℕ) → ℕ → ℕ
row_value size stripe F l = F (λ c. slice_index stripe (l * size + c))

-- share j of column c of the stripe
abbrev pub column_share : ℕ → ℕ → List ℕ → ℕ → ℕ → ℕ
column_share k size stripe c j = share k (row_value size stripe (at_column c)) j

-- an answer isn't marked, and its value isn't that of the stripe's share
pub record Disagrees
    (k size : ℕ) (stripe : List ℕ) (answers : List Share) (marks : List Bool) (F : (ℕ → ℕ) → ℕ)
    : Type 0 where
  pub place : ℕ
  pub within : place < length answers
  pub unmarked : slice_index_or marks place false ≡ false
  pub differs :
      share k (row_value size stripe F) (slice_index (indexes_of answers) place)
      ≢ slice_index (values_of size F answers) place

-- so is one in column c
abbrev pub DisagreesIn : ℕ → ℕ → List ℕ → List Share → List Bool → ℕ → Type 0
DisagreesIn k size stripe answers marks c =
    (c < size) × Disagrees k size stripe answers marks (at_column c)

-- beside the old marks there are those of the answers off the codeword of the data d, whose points
-- and values are X and Y
abbrev pub IsBlamed : ℕ → (ℕ → ℕ) → (ℕ → ℕ) → (ℕ → ℕ) → List Bool → List Bool → Type 0
IsBlamed k d X Y old new =
    (i : ℕ) → i < length old
    → slice_index_or new i false
    ≡ (slice_index_or old i false || not (eqb (share k d (X i)) (Y i)))
