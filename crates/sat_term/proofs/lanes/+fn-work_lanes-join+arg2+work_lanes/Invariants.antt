use Rattle.std.proofs.Common.{◌+◌, ◌*◌, length}
use Rattle.sat_term.proofs.lanes.+fn-work_lanes-join+arg2+work_lanes.Given as goal

abbrev pub decreases-join+arg2 : goal.decreases-join+arg2
decreases-join+arg2 g l = 2 * length l.posts.items + 1

abbrev pub decreases-work_lanes : goal.decreases-work_lanes
decreases-work_lanes g l = 2 * length l.posts.items
