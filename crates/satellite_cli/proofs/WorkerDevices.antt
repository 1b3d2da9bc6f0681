-- What is told of a workers is what is told of its devices.
use Rattle.std.proofs.Common.{◌≡◌, ℕ, List, map, Option, Vec, Global}
use Rattle.sat_base.specs.Lane.{LaneView}
use Rattle.sat_base.specs.Ticks.{TicksView}
use Rattle.sat_base.specs.declared.nodes.Ask.{Ask}
use Rattle.sat_base.specs.declared.nodes.Held.{Held}
use Rattle.sat_sessions.specs.Lanes.{post_view}
use Rattle.sat_sessions.specs.declared.lanes.Post.{Post}
use Rattle.node_rounds.specs.Asked.{nodes_view}
use Rattle.node_rounds.specs.Parts.{kit_view}
use Rattle.node_rounds.specs.Tally.{tally_view}
use Rattle.node_rounds.specs.declared.kit.Kit.{Kit}
use Rattle.node_rounds.specs.declared.tally.TallyKit.{TallyKit}
use Rattle.satellite_cli.specs.Serving.{DevicesView, devices_view}
use Rattle.satellite_cli.specs.declared.worker_devices.Spare.{Spare}
use Rattle.satellite_cli.specs.declared.worker_devices.WorkerDevices.{WorkerDevices}

module _ {L T W N I : Type 0} (lane : L → LaneView) (coming : T → Option (List ℕ)) (left : W → Option (List ℕ)) (words_faults : W → ℕ)
    (held : N → Option (List Held)) (asks : N → Option (List Ask)) (nodes_faults : N → ℕ) (ticks : I → TicksView) where
  -- what is told of the posts and kits of a workers
  abbrev pub workers_view : List (Post L T W) → Kit N T W I → Kit N T W I → TallyKit T I → DevicesView
  workers_view posts audit repair tally = record {
    posts = map (post_view lane coming left words_faults) posts;
    kits = record {
      audit = kit_view (nodes_view held asks nodes_faults) coming left words_faults ticks audit;
      repair = kit_view (nodes_view held asks nodes_faults) coming left words_faults ticks repair;
      tally = tally_view coming ticks tally;
    };
  }

  pub same_devices : (posts0 posts : Vec (Post L T W) Global) (audit0 audit repair0 repair tally : Kit N T W I) (tally0 : TallyKit T I)
      → posts0 ≡ posts → audit0 ≡ audit → repair0 ≡ repair → tally0 ≡ record { clock = tally.clock; ticks = tally.ticks }
      → workers_view posts0.items audit0 repair0 tally0 ≡ devices_view lane coming left words_faults held asks nodes_faults ticks posts.items audit repair tally
  same_devices posts0 posts audit0 audit repair0 repair tally tally0 p a r t = λ i. workers_view (p i).items (a i) (r i) (t i)

module _ {L T W N I : Type 0} where
  -- a devices put together from these
  abbrev devices_from : Vec (Post L T W) Global → Kit N T W I → Kit N T W I → TallyKit T I → Spare N W → WorkerDevices L N T W I
  devices_from posts audit repair tally spare = record {
    posts = posts;
    audit = audit;
    repair = repair;
    tally = record { nodes = spare.nodes; clock = tally.clock; words = spare.words; ticks = tally.ticks };
  }

  -- the devices of a workers that came back as it was
  pub came_back : (posts0 posts : Vec (Post L T W) Global) (audit0 audit repair0 repair tally : Kit N T W I) (tally0 : TallyKit T I) (spare : Spare N W)
      → posts0 ≡ posts → audit0 ≡ audit → repair0 ≡ repair → tally0 ≡ record { clock = tally.clock; ticks = tally.ticks } → spare ≡ record { nodes = tally.nodes; words = tally.words }
      → devices_from posts0 audit0 repair0 tally0 spare ≡ record { posts = posts; audit = audit; repair = repair; tally = tally }
  came_back posts0 posts audit0 audit repair0 repair tally tally0 spare p a r t s = λ i. devices_from (p i) (a i) (r i) (t i) (s i)
