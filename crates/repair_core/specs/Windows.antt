-- Rebuilding in windows: the start, and what each window makes of it.
use Rattle.std.specs.Prelude.{◌≡◌, ℕ, zero, suc, ◌+◌, ◌-◌, ◌*◌, ◌<◌, min, List, [], length, map, take, drop, All, true}
use Rattle.sat_base.specs.declared.items.Share.{Share}
use Rattle.bw_decode.specs.Altered.{indexes_of}
use Rattle.bw_decode.specs.Near.{Rises}
use Rattle.repair_core.specs.Indexes.{has_index, joined}
use Rattle.repair_core.specs.Stripes.{AreNear, IsUnclear, altered_indexes, longer}
use Rattle.repair_core.specs.Progress.{Progress}

-- a fresh piece of which nothing is written
abbrev pub empty_piece : ℕ → Share
empty_piece index = record { index = index; bytes = [] }

-- before the first window
abbrev pub start_of : (k size n window count : ℕ) → (sources targets : List ℕ) → Progress
start_of k size n window count sources targets = record {
  k = k;
  size = size;
  n = n;
  window = window;
  count = count;
  sources = sources;
  done = 0;
  blamed = [];
  fresh = map empty_piece targets;
}

-- how many stripes the next window has
abbrev pub next_stripes : Progress → ℕ
next_stripes old = min old.window (old.count - old.done)

-- after a window with these shares, whose stripes are these
abbrev pub after : Progress → List Share → List (List ℕ) → Progress
after old shares stripes = record old {
  done = old.done + length stripes;
  blamed = joined old.sources old.blamed (altered_indexes old.k old.size (length stripes) stripes shares);
  fresh = map (longer old.k old.size stripes) old.fresh;
}

-- the next window, with these shares, leads from the old to the new: its stripes are near the shares
pub record IsWindow (old : Progress) (shares : List Share) (new : Progress) : Type 0 where
  pub stripes : List (List ℕ)
  pub number : length stripes ≡ next_stripes old
  pub near : AreNear old.k old.size (length stripes) shares stripes
  pub is_after : new ≡ after old shares stripes

-- stripe s of the segment is the first of the next window that none is near
pub record IsUnclearWindow (old : Progress) (shares : List Share) (s : ℕ) : Type 0 where
  pub place : ℕ
  pub counted : s ≡ old.done + place
  pub unclear : IsUnclear old.k old.size (next_stripes old) shares place

-- what stands in the piece from stripe `from` on for so many stripes
abbrev pub cut_of : ℕ → ℕ → ℕ → Share → Share
cut_of size from number piece =
    record { index = piece.index; bytes = take (number * size) (drop (from * size) piece.bytes) }

-- the next window's shares, cut from whole pieces
abbrev pub window_of : Progress → List Share → List Share
window_of old pieces = map (cut_of old.size old.done (next_stripes old)) pieces

-- n windows with the shares of these pieces lead from the start to the end
abbrev pub Reaches : List Share → ℕ → Progress → Progress → Type 0
Reaches pieces zero start end = start ≡ end
Reaches pieces (suc n) start end =
    (before : Progress) × Reaches pieces n start before × (before.done < before.count) × IsWindow before (window_of before pieces) end

-- whole pieces of right length, by rising index among the sources, whose indexes rise and are points of the field
pub record AreWhole (size count : ℕ) (sources : List ℕ) (pieces : List Share) : Type 0 where
  pub lengths : All (λ piece. length piece.bytes ≡ count * size) pieces
  pub rising : Rises (indexes_of pieces)
  pub among : All (λ index. has_index sources index ≡ true) (indexes_of pieces)
  pub sources_rise : Rises sources
  pub below : All (λ index. index < 256) sources

-- so far windows with the shares of these pieces have led, from the start
pub record IsUnderWay (k size n window count : ℕ) (sources targets : List ℕ) (pieces : List Share) (now : Progress) : Type 0 where
  pub windows : ℕ
  pub reached : Reaches pieces windows (start_of k size n window count sources targets) now
