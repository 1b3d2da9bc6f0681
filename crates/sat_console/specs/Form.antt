-- The form of a line of `settle`: NODE MOMENT HEX, with single spaces between.
use Rattle.std.specs.Prelude.{ℕ, ◌-◌, ◌^◌, List, Option, Some, None, Result, Ok}
use Rattle.sat_base.specs.declared.limits.TheConstants as limits
use Rattle.hex.specs.Hex.{decode_of}
use Rattle.hex.specs.declared.FromHexError.{FromHexError}
use Rattle.sat_base.specs.declared.ids.NodeId.{NodeId}
use Rattle.sat_base.specs.Text.{cut_of, number_up_to}

-- what a line asks: that a node's order be settled at a moment
pub record Asked : Type 0 where
  pub node : NodeId
  pub moment : ℕ
  pub order : List ℕ

abbrev pub asked_parts : Option ℕ → Option ℕ → Result (List ℕ) FromHexError → Option Asked
asked_parts (Some node) (Some moment) (Ok order) = Some (record { node = record { 0 = node }; moment = moment; order = order })
asked_parts _ _ _ = None

abbrev pub space : ℕ
space = 32

abbrev pub node_of : List ℕ → Option ℕ
node_of text = number_up_to (2 ^ 32 - 1) text

abbrev pub moment_of : List ℕ → Option ℕ
moment_of text = number_up_to (limits.MOMENTS - 1) text

abbrev pub with_moment : Option ℕ → Option (List ℕ × List ℕ) → Option Asked
with_moment first None = None
with_moment first (Some p) = asked_parts first (moment_of p.0) (decode_of p.1)

abbrev pub with_node : Option (List ℕ × List ℕ) → Option Asked
with_node None = None
with_node (Some p) = with_moment (node_of p.0) (cut_of space p.1)

-- what the line asks, where it has the form
unfoldable pub asked_of : List ℕ → Option Asked
asked_of line = with_node (cut_of space line)
