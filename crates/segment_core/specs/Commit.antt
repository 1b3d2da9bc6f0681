-- Which indexes may be committed, and which of the offered places they choose.
use Rattle.std.specs.Prelude.{ℕ, Bool, List, [], ◌∷◌, ◌++◌, length, find, filter, nat_le, nat_lt, ◌==◌, if◌then◌else◌, Option, Some, None}
use Rattle.std.specs.List.{list_any}
use Rattle.sat_base.specs.declared.records.At.{At}
use Rattle.segment_core.specs.declared.committing.CommitErr.{CommitErr}
use Rattle.segment_core.specs.declared.committing.CommitErr.TheVariants.{NotOffered, Repeated, TooFew}

abbrev pub is_among : List ℕ → ℕ → Bool
is_among indexes index = list_any (λ one. one == index) indexes

-- the first index that equals an earlier one, where some stand before the list
abbrev pub first_repeated_after : List ℕ → List ℕ → Option ℕ
first_repeated_after before [] = None
first_repeated_after before (index ∷ rest) =
    if is_among before index then Some index else first_repeated_after (before ++ index ∷ []) rest

-- the first index that equals an earlier one
abbrev pub first_repeated : List ℕ → Option ℕ
first_repeated indexes = first_repeated_after [] indexes

-- the first cause to refuse: an index that wasn't offered, one that comes again, too few of them
abbrev pub first_cause : Option ℕ → Option ℕ → ℕ → ℕ → Option CommitErr
first_cause (Some index) repeated have need = Some (NotOffered index)
first_cause None (Some index) have need = Some (Repeated index)
first_cause None None have need = if nat_lt have need then Some (TooFew have need) else None

-- why indexes are refused where n places are offered and o pieces wanted, if they are
abbrev pub refusal : ℕ → ℕ → List ℕ → Option CommitErr
refusal n o indexes = first_cause (find (λ index. nat_le n index) indexes) (first_repeated indexes) (length indexes) o

-- the offered places of these indexes
abbrev pub chosen : List ℕ → List At → List At
chosen indexes offered = filter (λ place. is_among indexes place.index) offered
