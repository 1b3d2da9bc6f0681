-- A storage node's run, from the opening of its orders to its end, by what its devices tell.
use Rattle.std.specs.Prelude.{◌≡◌, ◌⊎◌, ℕ, List, [], Option}
use Rattle.sat_base.specs.Keeper.{KeeperView}
use Rattle.sat_base.specs.Lane.{LaneView}
use Rattle.sat_base.specs.Outside.{About}
use Rattle.order_uses.specs.View.{IsKept, IsLeft, Opens, Refuses}
use Rattle.order_uses.specs.declared.opening.UsesErr.{UsesErr}
use Rattle.stor_base.specs.declared.pieces.Piece.{Piece}
use Rattle.stor_base.specs.declared.settler.OfferMade.{OfferMade}
use Rattle.stor_serve.specs.Runs.{Ran}
use Rattle.stor_serve.specs.Totals.{CountsLinks, HoldsPuts, SettlesByOffers}
use Rattle.stor_serve.specs.Views.{RunView}
use Rattle.stor_serve.specs.declared.lane.NodeEnd.{NodeEnd}
use Rattle.stor_serve.specs.declared.served.Served.{Served}
use Rattle.stor_node_cli.specs.Ending.{SaysEnd, SaysWhy}
use Rattle.stor_node_cli.specs.Words.{Asked}
use Rattle.stor_node_cli.specs.declared.world.NodeWorld.{NodeWorld}

-- what contracts see of the devices
pub record WorldView (K : Type 0) : Type 0 where
  pub console : About
  pub keeper : K
  -- the pieces that are held, where they tell, and how many of their calls failed
  pub held : Option (List Piece)
  pub piece_faults : ℕ
  pub lane : LaneView
  -- the moments that the clock is still to tell, where it tells
  pub coming : Option (List ℕ)
  -- the orders that the settler was offered, where it tells, and how many offers failed
  pub offers : Option (List OfferMade)
  pub offer_faults : ℕ

abbrev pub world_view : {C K P L T S : Type 0} → (C → About) → (P → Option (List Piece)) → (P → ℕ) → (L → LaneView) → (T → Option (List ℕ)) → (S → Option (List OfferMade)) → (S → ℕ) → NodeWorld C K P L T S → WorldView K
world_view about held faults links coming offers settling world = record {
  console = about world.console;
  keeper = world.keeper;
  held = held world.pieces;
  piece_faults = faults world.pieces;
  lane = links world.lane;
  coming = coming world.clock;
  offers = offers world.settler;
  offer_faults = settling world.settler;
}

module _ {K : Type 0} (about : K → KeeperView) where
  -- the orders weren't opened, and that is said; nothing but the console and the keeper was used
  pub record NotOpened (asked : Asked) (old new : WorldView K) (status : ℕ) (all : List Served) : Type 0 where
    pub why : UsesErr
    pub refuses : Refuses about asked.key old.keeper new.keeper why
    pub says : SaysWhy why status old.console new.console
    pub others : new ≡ record old { console = new.console; keeper = new.keeper }
    pub none_served : all ≡ []

  -- the run begins with the devices that were handed in, over the orders that the keeper has
  pub record Begins (asked : Asked) (old : WorldView K) (first : RunView K) : Type 0 where
    pub opens : Opens about old.keeper (record { 0 = asked.node }) asked.key asked.cap first.node.uses
    pub held : first.node.pieces.held ≡ old.held
    pub piece_faults : first.node.pieces.faults ≡ old.piece_faults
    pub lane : first.lane ≡ old.lane
    pub coming : first.node.coming ≡ old.coming
    pub offers : first.settler.offers ≡ old.offers
    pub offer_faults : first.settler.faults ≡ old.offer_faults

  -- and hands back those that it ends with. The keeper has the rows of its orders, and leaves them at a crash
  pub record HandsBack (last : RunView K) (new : WorldView K) : Type 0 where
    pub keeper : new.keeper ≡ last.node.uses.keeper
    pub kept : IsKept about last.node.uses
    pub left : IsLeft about last.node.uses
    pub held : new.held ≡ last.node.pieces.held
    pub piece_faults : new.piece_faults ≡ last.node.pieces.faults
    pub lane : new.lane ≡ last.lane
    pub coming : new.coming ≡ last.node.coming
    pub offers : new.offers ≡ last.settler.offers
    pub offer_faults : new.offer_faults ≡ last.settler.faults

  -- the links were served, one after another, and why there are no more is said
  pub record ServesFrom (first : RunView K) (console : About) (new : WorldView K) (status : ℕ) (all : List Served) : Type 0 where
    pub last : RunView K
    pub end : NodeEnd
    pub ran : Ran about first last all end
    -- so over all links: the bytes under each order, the orders that are settled, and the pieces that are held
    pub counted : CountsLinks first last all
    pub settled : SettlesByOffers first last all
    pub held : HoldsPuts first last all
    pub hands_back : HandsBack last new
    pub says : SaysEnd end status console new.console

  -- so it is of a node whose orders were opened
  pub record Serves (asked : Asked) (old new : WorldView K) (status : ℕ) (all : List Served) : Type 0 where
    pub first : RunView K
    pub begins : Begins asked old first
    pub serves : ServesFrom first old.console new status all

  abbrev pub Comes : Asked → WorldView K → WorldView K → ℕ → List Served → Type 0
  Comes asked old new status all = NotOpened asked old new status all ⊎ Serves asked old new status all
