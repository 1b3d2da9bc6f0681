-- What a repair says of a named segment.
use Rattle.std.specs.Prelude.{◌≡◌, ◌⊎◌, ℕ, zero, suc, ◌+◌, ◌*◌, ◌<◌, ◌≤◌, ◌&&◌, ◌||◌, not, Bool, List, length, filter, map, take, All, Option, Some, true, false}
use Rattle.sat_base.specs.declared.items.Share.{Share}
use Rattle.sat_base.specs.declared.nodes.Held.{Held}
use Rattle.sat_base.specs.declared.records.At.{At}
use Rattle.sat_base.specs.declared.requests.Place.{Place}
use Rattle.sat_base.specs.declared.scheme.Scheme.{Scheme}
use Rattle.sat_base.specs.Nodes.{held_at}
use Rattle.rs_stripe.specs.Segment.{piece_of, stripe_of}
use Rattle.bw_decode.specs.Near.{IsNear, Rises}
use Rattle.segment_core.specs.Record.{SegmentRecord}
use Rattle.repair_core.specs.declared.outcome.Mended.{Mended}
use Rattle.repair_core.specs.declared.plan.RepairPlan.{RepairPlan}
use Rattle.repair_core.specs.declared.rebuilt.Remade.{Remade}
use Rattle.repair_core.specs.Answers.{answers_at}
use Rattle.repair_core.specs.Indexes.{has_index, place_indexes}
use Rattle.repair_core.specs.Progress.{Progress}
use Rattle.repair_core.specs.Rebuilt.{fresh_piece}
use Rattle.repair_core.specs.Windows.{next_stripes}
use Rattle.node_asks.specs.Answers.{shares_in}
use Rattle.machine_step.specs.Containment.{has_piece}
use Rattle.machine_step.specs.Mending.{kept_sources, placed_targets}
use Rattle.machine_step.specs.Tables.{Tables, segment_at}
use Rattle.node_asks.specs.Asks.{at_of, piece_len_of, pieces_of}
use Rattle.node_asks.specs.Ending.{sound_of}
use Rattle.node_asks.specs.Remaking.{Ends, Heeding, Heeds, heeding_of}
use Rattle.node_asks.specs.Spreading.{IsSpread}

-- on each stripe of a window r shares answer, at least k, and at most (r - k) / 2 of them aren't the segment's
pub record IsWellHeard (k size : ℕ) (named : List ℕ) (old : Progress) (shares : List Share) : Type 0 where
  pub each : (s : ℕ) → s < next_stripes old → IsNear k size (stripe_of k size named (old.done + s)) (answers_at size (next_stripes old) s shares)

-- so it is in each of these windows
abbrev pub AreWellHeard : (held : Option (List Held)) (secret : List ℕ) (scheme : Scheme) (plan : RepairPlan) (named : List ℕ) (n : ℕ) (start end : Heeding) → Heeds held secret scheme plan n start end → Type 0
AreWellHeard held secret scheme plan named zero start end h = Unit {0}
AreWellHeard held secret scheme plan named (suc n) start end h =
    AreWellHeard held secret scheme plan named n start h.0 h.1 × IsWellHeard scheme.k scheme.share named h.0.progress (shares_in h.3.all)

-- the node of a place holds the segment's piece of its index, as far as it was asked for
pub record HoldsPiece (scheme : Scheme) (plan : RepairPlan) (named : List ℕ) (pieces : List Held) (place : Place) : Type 0 where
  pub bytes : List ℕ
  pub held : held_at pieces place.node plan.segment place.index ≡ Some bytes
  pub same : take (piece_len_of scheme plan) bytes ≡ piece_of scheme.k scheme.share named place.index

-- the fresh pieces are the segment's, and so is what each source holds that answered in every window and isn't blamed. Those that answered are the plan's
pub record KeepsPieces (scheme : Scheme) (plan : RepairPlan) (named : List ℕ) (pieces : List Held) (remade : Remade) (still : List Place) : Type 0 where
  pub fresh : remade.fresh ≡ map (fresh_piece scheme.k scheme.share named) (place_indexes plan.targets)
  pub sources : All (λ place. has_index remade.blamed place.index ≡ false → HoldsPiece scheme plan named pieces place) still
  pub places : All (λ place. has_piece plan.sources (at_of place) ≡ true) still

-- ---- by a history

-- a piece of the next version that was placed, or whose node answered in every window and isn't blamed
abbrev pub is_sound_piece : Mended → List ℕ → At → Bool
is_sound_piece mended answered piece = has_piece (placed_targets mended) piece || (has_piece (kept_sources mended) piece && has_index answered piece.index)

-- the node of a piece holds the segment's: a target behind the repair, and a source as it was asked
abbrev pub IsHeld : Scheme → RepairPlan → List ℕ → List Held → List Held → At → Type 0
IsHeld scheme plan named before behind piece =
    (held_at behind piece.node plan.segment piece.index ≡ Some (piece_of scheme.k scheme.share named piece.index))
    ⊎ ((bytes : List ℕ) × (held_at before piece.node plan.segment piece.index ≡ Some bytes) × (take (piece_len_of scheme plan) bytes ≡ piece_of scheme.k scheme.share named piece.index))

-- the segment's next version has at least k such pieces, and each of them is the segment's
pub record KeepsBytes (next : Tables) (mended : Mended) (answered : List ℕ) (named : List ℕ) (before behind : List Held) : Type 0 where
  pub after : SegmentRecord
  pub at : segment_at next.segments mended.plan.segment.0 ≡ Some after
  pub version : after.version ≡ mended.plan.version + 1
  pub enough : mended.scheme.k ≤ length (filter (is_sound_piece mended answered) after.pieces)
  pub each : All (λ piece. is_sound_piece mended answered piece ≡ true → IsHeld mended.scheme mended.plan named before behind piece) after.pieces

-- what came of asking for a mended repair: its sources answered well, and its fresh pieces were put at their targets
pub record IsWellMended (secret : List ℕ) (mended : Mended) (sources targets : List Place) (answered : List ℕ) (named : List ℕ) (before behind : List Held) : Type 0 where
  pub remade : Remade
  pub end : Heeding
  pub ends : Ends (Some before) secret mended.scheme mended.plan sources (Some remade) end
  pub well : AreWellHeard (Some before) secret mended.scheme mended.plan named ends.0.0 (heeding_of mended.scheme mended.plan sources) end ends.0.1
  pub answered_are : answered ≡ map (λ place. place.index) end.still
  pub spread : IsSpread before mended.plan.segment targets remade.fresh mended.placed behind
  pub blamed_are : mended.blamed ≡ remade.blamed
  pub missing_are : mended.missing ≡ filter (λ index. has_index end.gone index && not (has_index remade.blamed index)) (place_indexes mended.plan.sources)
  pub enough : mended.scheme.k ≤ length (sound_of mended.blamed answered)

-- a plan's pieces stand by rising index, below n, at these places
pub record AreAt (mended : Mended) (sources targets : List Place) : Type 0 where
  pub sources_are : pieces_of sources ≡ mended.plan.sources
  pub targets_are : pieces_of targets ≡ mended.plan.targets
  pub sources_rise : Rises (place_indexes mended.plan.sources)
  pub sources_below : All (λ index. index < mended.scheme.n) (place_indexes mended.plan.sources)
  pub targets_rise : Rises (place_indexes mended.plan.targets)
