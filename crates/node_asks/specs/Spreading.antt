-- What becomes of fresh pieces at their targets.
use Rattle.std.specs.Prelude.{◌≡◌, ℕ, ◌+◌, ◌-◌, ◌^◌, ◌<◌, ◌≤◌, true, false, Bool, List, length, Option, Some, None}
use Rattle.std.specs.List.{AllZip, list_any}
use Rattle.sat_base.specs.declared.ids.SegId.{SegId}
use Rattle.sat_base.specs.declared.items.Share.{Share}
use Rattle.sat_base.specs.declared.nodes.Held.{Held}
use Rattle.sat_base.specs.declared.nodes.Stored.{Stored}
use Rattle.sat_base.specs.declared.nodes.Stored.TheVariants as stores
use Rattle.sat_base.specs.declared.requests.Place.{Place}
use Rattle.sat_base.specs.Nodes.{held_at, is_piece}
use Rattle.repair_core.specs.Indexes.{has_index}

-- whether a piece was kept, or gave no answer
abbrev pub stored_as : Bool → Stored
stored_as true = stores.Kept
stored_as false = stores.NoAnswer

-- a piece for each target, in order, of this length
abbrev pub IsFresh : ℕ → Place → Share → Type 0
IsFresh len place piece = (piece.index ≡ place.index) × (length piece.bytes ≡ len)

-- whether a held piece is that of a target
abbrev pub is_target : SegId → List Place → Held → Bool
is_target segment targets held = list_any (λ place. is_piece place.node segment place.index held) targets

-- a target that kept its piece holds it
abbrev pub HoldsFresh : List Held → SegId → List ℕ → Place → Share → Type 0
HoldsFresh pieces segment kept place piece = has_index kept place.index ≡ true → held_at pieces place.node segment place.index ≡ Some piece.bytes

-- the targets that kept their pieces hold them, and all other pieces are as they were
pub record IsSpread (old : List Held) (segment : SegId) (targets : List Place) (fresh : List Share) (kept : List ℕ) (new : List Held) : Type 0 where
  pub holds : AllZip (HoldsFresh new segment kept) targets fresh
  pub others : (held : Held) → is_target segment targets held ≡ false → held_at new held.node held.segment held.index ≡ held_at old held.node held.segment held.index

-- so it is where the nodes tell what they hold
abbrev pub Spreads : Option (List Held) → SegId → List Place → List Share → Option (List Held) → List ℕ → Type 0
Spreads None segment targets fresh new kept = new ≡ None
Spreads (Some old) segment targets fresh new kept = (pieces : List Held) × (new ≡ Some pieces) × IsSpread old segment targets fresh kept pieces

-- so many of the asks that aren't kept are counted, by a count that doesn't end at its last value
abbrev pub CountsLeftOut : ℕ → ℕ → ℕ → ℕ → Type 0
CountsLeftOut asked kept old new = new < 2 ^ 64 - 1 → old + (asked - kept) ≤ new
