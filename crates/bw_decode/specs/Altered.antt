-- Which of the answers were altered on the way. A stripe is k rows of size bytes.
use Rattle.std.specs.Prelude.{ℕ, Bool, not, List, map, count_by}
use Rattle.std.specs.Str.{bytes_eq}
use Rattle.sat_base.specs.declared.items.Share.{Share}
use Rattle.rs_stripe.specs.Segment.{share_of}

-- the answer's bytes aren't the stripe's share at its index
abbrev pub is_altered : ℕ → ℕ → List ℕ → Share → Bool
is_altered k size stripe answer = not (bytes_eq answer.bytes (share_of k size stripe answer.index))

-- how many of the answers are altered
abbrev pub altered : ℕ → ℕ → List ℕ → List Share → ℕ
altered k size stripe answers = count_by (is_altered k size stripe) answers

-- the indexes of the answers
abbrev pub indexes_of : List Share → List ℕ
indexes_of answers = map (λ answer. answer.index) answers
