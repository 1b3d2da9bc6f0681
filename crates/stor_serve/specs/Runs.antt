-- What a node comes to over the links of a lane, one after another.
use Rattle.std.specs.Prelude.{◌≡◌, List, [], ◌∷◌, ◌++◌, true, false}
use Rattle.sat_base.specs.Keeper.{KeeperView}
use Rattle.sat_base.specs.Lane.{got_back, handed}
use Rattle.sat_base.specs.Outside.{About, raised}
use Rattle.stor_serve.specs.Links.{Serves}
use Rattle.stor_serve.specs.Offering.{OffersAt}
use Rattle.stor_serve.specs.Views.{NodeView, RunView}
use Rattle.stor_serve.specs.declared.lane.NodeEnd.{NodeEnd}
use Rattle.stor_serve.specs.declared.lane.NodeEnd.TheVariants as ends
use Rattle.stor_serve.specs.declared.served.Served.{Served}

module _ {K : Type 0} (about : K → KeeperView) where
  -- a link came, was served and given back, and then the order was offered that was due at its moment
  pub record Turns (old new : RunView K) (served : Served) : Type 0 where
    pub link : About
    pub link' : About
    pub between : NodeView K
    pub not_over : old.lane.over ≡ false
    pub lane_is : new.lane ≡ got_back (handed old.lane link) link'
    pub serves : Serves about old.node between link link' served
    pub offers : OffersAt about served.now between.uses new.node.uses old.settler new.settler
    pub node_is : new.node ≡ record between { uses = new.node.uses }

  -- links one after another
  pub data Runs (first : RunView K) : List Served → RunView K → Type 0 where
    none : Runs first [] first
    more : (all : List Served) (served : Served) (old new : RunView K) → Runs first all old → Turns old new served → Runs first (all ++ served ∷ []) new

-- why it ended, and what its last wait for a link changed
abbrev pub Closes : {K : Type 0} → NodeEnd → RunView K → RunView K → Type 0
Closes ends.Over old new = new ≡ record old { lane = record old.lane { over = true } }
Closes ends.Failed old new = new ≡ record old { lane = record old.lane { faults = raised old.lane.faults } }
Closes ends.NoMemory old new = new ≡ old

-- all links of a lane
pub record Ran {K : Type 0} (about : K → KeeperView) (first last : RunView K) (all : List Served) (end : NodeEnd) : Type 0 where
  pub before_last : RunView K
  pub runs : Runs about first all before_last
  pub closes : Closes end before_last last
