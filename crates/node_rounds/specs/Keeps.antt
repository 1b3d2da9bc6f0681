-- What a mended repair of a round leaves of a segment that the reader names.
use Rattle.std.specs.Prelude.{◌≡◌, ℕ, List, map, Some}
use Rattle.sat_base.specs.declared.nodes.Held.{Held}
use Rattle.sat_base.specs.declared.requests.Place.{Place}
use Rattle.repair_core.specs.declared.outcome.Mended.{Mended}
use Rattle.repair_core.specs.declared.rebuilt.Remade.{Remade}
use Rattle.machine_step.specs.Tables.{Tables}
use Rattle.node_asks.specs.Remaking.{Ends, Heeding, heeding_of}
use Rattle.named_segments.specs.Repairs.{AreWellHeard, KeepsBytes}
use Rattle.node_rounds.specs.declared.kit.NodesView.{NodesView}

-- its sources were asked window by window, and wherever they answered well in each of these, the segment's bytes are kept
pub record KeepsNamed (next : Tables) (secret : List ℕ) (mended : Mended) (sources : List Place) (named : List ℕ) (before : List Held) (new : NodesView) : Type 0 where
  pub behind : List Held
  pub held : new.held ≡ Some behind
  pub remade : Remade
  pub end : Heeding
  pub ends : Ends (Some before) secret mended.scheme mended.plan sources (Some remade) end
  pub keeps : AreWellHeard (Some before) secret mended.scheme mended.plan named ends.0.0 (heeding_of mended.scheme mended.plan sources) end ends.0.1
      → KeepsBytes next mended (map (λ place. place.index) end.still) named before behind
