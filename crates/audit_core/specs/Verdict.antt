-- What an audit finds.
use Rattle.std.specs.Prelude.{◌≡◌, ℕ, ◌+◌, ◌*◌, ◌<◌, ◌≤◌, ◌==◌, List, length, map, filter, replicate, count_by, All}
use Rattle.sha2.specs.Sha256.{sha256}
use Rattle.sat_base.specs.declared.items.Share.{Share}
use Rattle.rs_stripe.specs.Segment.{share_of}
use Rattle.bw_decode.specs.Altered.{is_altered, indexes_of}
use Rattle.bw_decode.specs.Near.{IsNear}
use Rattle.audit_core.specs.declared.verdict.Silent.{Silent}
use Rattle.audit_core.specs.declared.verdict.Verdict.{Verdict}
use Rattle.audit_core.specs.declared.verdict.Verdict.TheVariants.{Clear, Unclear}

-- the answers that a stripe shows to be altered. A stripe is k rows of size bytes
abbrev pub altered_indexes : ℕ → ℕ → List ℕ → List Share → List ℕ
altered_indexes k size stripe answers = indexes_of (filter (is_altered k size stripe) answers)

abbrev pub silent_indexes : List Silent → List ℕ
silent_indexes silent = map (λ one. one.index) silent

-- how often an index stands in a list
abbrev pub count_of : ℕ → List ℕ → ℕ
count_of index indexes = count_by (λ one. one == index) indexes

-- the stripe is near answers that are enough to judge by, and the altered ones are blamed
pub record IsFound (k size : ℕ) (answers : List Share) (stripe blamed : List ℕ) : Type 0 where
  pub enough : k + 2 ≤ length answers
  pub long : length stripe ≡ k * size
  pub bytes : All (λ byte. byte < 256) stripe
  pub near : IsNear k size stripe answers
  pub blames : blamed ≡ altered_indexes k size stripe answers

-- too few answers came to judge by, or no stripe is near them
abbrev pub IsNoneNear : ℕ → ℕ → List Share → Type 0
IsNoneNear k size answers = k + 2 ≤ length answers → (stripe : List ℕ) → IsNear k size stripe answers → ⊥

-- each silent node owes its share of the stripe
abbrev pub AreOwing : ℕ → ℕ → List ℕ → List Silent → Type 0
AreOwing k size stripe silent = All (λ one. one.expect ≡ sha256 (share_of k size stripe one.index)) silent

-- of the silent nodes nothing is known
abbrev pub AreUnknown : List Silent → Type 0
AreUnknown silent = All (λ one. one.expect ≡ replicate 32 0) silent

-- the verdict on these answers
abbrev pub IsVerdict : ℕ → ℕ → List Share → List Silent → Verdict → Type 0
IsVerdict k size answers silent (Clear blamed) =
    (stripe : List ℕ) × IsFound k size answers stripe blamed × AreOwing k size stripe silent
IsVerdict k size answers silent Unclear = IsNoneNear k size answers × AreUnknown silent

-- each index stands in three lists together as often as in the first one
abbrev pub NamesEach : List ℕ → List ℕ → List ℕ → List ℕ → Type 0
NamesEach indexes first second third =
    (index : ℕ) → count_of index indexes ≡ count_of index first + count_of index second + count_of index third
