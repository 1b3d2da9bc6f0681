-- What lanes and ticks tell, and how a call changes it.
use Rattle.std.specs.Prelude.{◌≡◌, ℕ, ◌<◌, List, [], ◌∷◌, ◌++◌, length, Bool, false, true, Option, Some, None}
use Rattle.sat_base.specs.declared.lane.Came.{Came}
use Rattle.sat_base.specs.declared.lane.Came.TheVariants as nexts
use Rattle.sat_base.specs.Console.{Console}
use Rattle.sat_base.specs.Outside.{About, raised}

-- the connections that a lane handed out, as they then were, and those that it took back, as they were by then
pub record Links : Type 0 where
  pub came : List About
  pub done : List About

-- what contracts see of a lane
pub record LaneView : Type 0 where
  -- where it tells
  pub links : Option Links
  -- how many connections were handed out. It stands still at 2^64 - 1
  pub given : ℕ
  -- no connection will come any more
  pub over : Bool
  -- how many waits for a connection failed. It stands still at 2^64 - 1
  pub faults : ℕ

abbrev pub with_came : Option Links → About → Option Links
with_came None link = None
with_came (Some links) link = Some (record links { came = links.came ++ link ∷ [] })

abbrev pub with_done : Option Links → About → Option Links
with_done None link = None
with_done (Some links) link = Some (record links { done = links.done ++ link ∷ [] })

-- some connection is out that wasn't taken back
abbrev pub SomeIsOut : Option Links → Type 0
SomeIsOut None = Unit {0}
SomeIsOut (Some links) = length links.done < length links.came

-- a lane after it handed out a connection
abbrev pub handed : LaneView → About → LaneView
handed lane link = record lane { links = with_came lane.links link; given = raised lane.given }

-- and after it took one back
abbrev pub got_back : LaneView → About → LaneView
got_back lane link = record lane { links = with_done lane.links link }

-- what a wait for the next connection does to a lane
module _ {C : Type 0} (about : C → About) where
  abbrev pub Nexts : LaneView → Came C → LaneView → Type 0
  Nexts before (nexts.Conn conn) after = (before.over ≡ false) × (after ≡ handed before (about conn)) × SomeIsOut after.links
  Nexts before nexts.Ended after = after ≡ record before { over = true }
  Nexts before nexts.Failed after = (before.over ≡ false) × (after ≡ record before { faults = raised before.faults })

-- what contracts see of a lane in memory
pub record MemLaneView : Type 0 where
  -- the connections that are still to come
  pub coming : List Console
  pub lane : LaneView
  -- the numbers of the waits that are to fail; the first has number 1
  pub failing : List ℕ
  -- how many waits were made
  pub calls : ℕ
