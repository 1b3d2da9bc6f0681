use Rattle.std.proofs.Common.{false}
use Rattle.sat_sessions.specs.Lanes.{post_view}
use Rattle.sat_sessions.proofs.LaneLemmas.{SoFar}
use Rattle.sat_sessions.proofs.lanes.serve_lane.Given as goal

abbrev pub invariant-loop-number : goal.invariant-loop-number
invariant-loop-number g l = SoFar l.keys l.desk (post_view g.L.Lane.about g.T.Clock.coming g.W.Words.left g.W.Words.faults l.initial.post) l.initial.pass l.sessions.items l.number (post_view g.L.Lane.about g.T.Clock.coming g.W.Words.left g.W.Words.faults l.post) l.pass false false
