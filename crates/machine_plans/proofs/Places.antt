-- The tables at the places of a history.
use Rattle.std.proofs.Common.{◌≡◌, ℕ, zero, suc, ◌+◌, ◌<◌, ◌≤◌, List, [], ◌∷◌, Some, refl, sym, ap, subst, ◌∙◌, arith}
use Rattle.std.specs.Prelude.{slice_get, take, drop}
use Rattle.segment_core.specs.Record.{SegmentRecord}
use Rattle.machine_step.specs.Tables.{Tables, segment_at}
use Rattle.machine_step.specs.Bounds.{IsValid}
use Rattle.machine_history.specs.History.{Said, taken, replay, IsRight, IsLegal}
use Rattle.machine_history.proofs.HistoryLemmas.{same_later, valid_law}
use Rattle.machine_plans.specs.Opened.{at_place}
use Rattle.machine_plans.specs.Ends.{IsSameSegment}

legal_take : (h : List Said) (j : ℕ) (t : Tables) → IsLegal t h → IsLegal t (take j h)
legal_take [] zero t legal = tt
legal_take [] (suc j) t legal = tt
legal_take (said ∷ h) zero t legal = tt
legal_take (said ∷ h) (suc j) t legal = (legal.0, legal_take h j (taken t said) legal.1)

pub right_at : (h : List Said) (j : ℕ) (said : Said) (t : Tables) → IsLegal t h → slice_get h j ≡ Some said → IsRight (at_place t h j) said
right_at [] j said t legal at = absurd cc
right_at (first ∷ h) zero said t legal at = let same : first ≡ said = cc in subst (IsRight t) same legal.0
right_at (first ∷ h) (suc j) said t legal at = right_at h j said (taken t first) legal.1 at

pub valid_at : (h : List Said) (j : ℕ) (t : Tables) → IsValid t → IsLegal t h → IsValid (at_place t h j)
valid_at h j t v legal = valid_law t (take j h) v (legal_take h j t legal)

-- behind a call
pub next_at : (h : List Said) (j : ℕ) (said : Said) (t : Tables) → slice_get h j ≡ Some said → at_place t h (suc j) ≡ taken (at_place t h j) said
next_at [] j said t at = cc
next_at (first ∷ h) zero said t at = let same : first ≡ said = cc in ap (taken t) same
next_at (first ∷ h) (suc j) said t at = next_at h j said (taken t first) at

legal_between : (h : List Said) (i j : ℕ) (t : Tables) → i ≤ j → IsLegal t h → IsLegal (at_place t h i) (drop i (take j h))
legal_between [] zero zero t le legal = tt
legal_between [] zero (suc j) t le legal = tt
legal_between [] (suc i) zero t le legal = tt
legal_between [] (suc i) (suc j) t le legal = tt
legal_between (said ∷ h) zero j t le legal = legal_take (said ∷ h) j t legal
legal_between (said ∷ h) (suc i) zero t le legal = absurd (omega arith)
legal_between (said ∷ h) (suc i) (suc j) t le legal = legal_between h i j (taken t said) (omega arith) legal.1

later_is : (h : List Said) (i j : ℕ) (t : Tables) → i ≤ j → at_place t h j ≡ replay (at_place t h i) (drop i (take j h))
later_is [] zero zero t le = refl
later_is [] zero (suc j) t le = refl
later_is [] (suc i) zero t le = refl
later_is [] (suc i) (suc j) t le = refl
later_is (said ∷ h) zero j t le = refl
later_is (said ∷ h) (suc i) zero t le = absurd (omega arith)
later_is (said ∷ h) (suc i) (suc j) t le = later_is h i j (taken t said) (omega arith)

-- what stands in the first part of a history stands in it
pub get_take : (h : List Said) (i j : ℕ) (said : Said) → slice_get (take j h) i ≡ Some said → (i < j) × (slice_get h i ≡ Some said)
get_take [] i zero said at = absurd cc
get_take [] i (suc j) said at = absurd cc
get_take (first ∷ h) i zero said at = absurd cc
get_take (first ∷ h) zero (suc j) said at = (omega arith, at)
get_take (first ∷ h) (suc i) (suc j) said at = let rest = get_take h i j said at in (omega (arith, rest.0), rest.1)

pub legal_until : (h : List Said) (j : ℕ) (t : Tables) → IsLegal t h → IsLegal t (take j h)
legal_until = legal_take

-- ---- segments at two places

-- a segment of this number is there in this version
pub record IsPlannedOn (t : Tables) (id version : ℕ) : Type 0 where
  pub segment : SegmentRecord
  pub at : segment_at t.segments id ≡ Some segment
  pub in_version : segment.version ≡ version

pub same_at : (h : List Said) (i j : ℕ) (t : Tables) → IsValid t → IsLegal t h → i ≤ j → (id version : ℕ) → IsPlannedOn (at_place t h i) id version → IsPlannedOn (at_place t h j) id version
    → IsSameSegment (at_place t h i) (at_place t h j) id version
same_at h i j t v legal le id version first last =
    let later = later_is h i j t le in
    let there : segment_at (replay (at_place t h i) (drop i (take j h))).segments id ≡ Some last.segment = ap (λ (x : Tables). segment_at x.segments id) (sym later) ∙ last.at in
    let same : last.segment ≡ first.segment
    = same_later (at_place t h i) (drop i (take j h)) (valid_at h i t v legal) (legal_between h i j t le legal) id first.segment last.segment first.at there (last.in_version ∙ sym first.in_version) in
    record { segment = first.segment; at_first = first.at; at_last = last.at ∙ ap Some same; in_version = first.in_version }
