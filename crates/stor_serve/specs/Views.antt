-- What contracts see of a node.
use Rattle.std.specs.Prelude.{ℕ, List, Option}
use Rattle.sat_base.specs.Lane.{LaneView}
use Rattle.order_uses.specs.View.{UsesView}
use Rattle.stor_base.specs.declared.pieces.Piece.{Piece}
use Rattle.stor_base.specs.declared.settler.OfferMade.{OfferMade}
use Rattle.stor_serve.specs.declared.node.Node.{Node}

-- what its pieces tell
pub record PiecesView : Type 0 where
  pub held : Option (List Piece)
  pub faults : ℕ

-- what the settler tells that it offers its orders to
pub record SettlerView : Type 0 where
  pub offers : Option (List OfferMade)
  pub faults : ℕ

-- the orders that it serves under, its pieces, and what its clock tells
pub record NodeView (K : Type 0) : Type 0 where
  pub uses : UsesView K
  pub pieces : PiecesView
  pub coming : Option (List ℕ)

-- a node, its links, and who settles its orders
pub record RunView (K : Type 0) : Type 0 where
  pub node : NodeView K
  pub lane : LaneView
  pub settler : SettlerView

abbrev pub run_view : {K P L T S : Type 0} → (P → Option (List Piece)) → (P → ℕ) → (L → LaneView) → (T → Option (List ℕ)) → (S → Option (List OfferMade)) → (S → ℕ) → Node K P L T S → RunView K
run_view held faults about coming offers settling node = record {
  node = record { uses = node.uses; pieces = record { held = held node.pieces; faults = faults node.pieces }; coming = coming node.clock };
  lane = about node.lane;
  settler = record { offers = offers node.settler; faults = settling node.settler };
}
