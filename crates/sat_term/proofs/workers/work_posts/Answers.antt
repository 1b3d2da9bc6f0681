use Rattle.std.proofs.Common.{length}
use Rattle.sat_term.proofs.Rows.{enough}
use Rattle.sat_term.proofs.workers.work_posts.Goals as goal

pub work_lanes-requires-clause-spare : goal.work_lanes-requires-clause-spare
work_lanes-requires-clause-spare g c κs within = enough (length c.args.posts.items) _ c.requires.few c.requires.spare
