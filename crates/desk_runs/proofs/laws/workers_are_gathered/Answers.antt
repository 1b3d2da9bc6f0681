use Rattle.std.proofs.Common.{refl}
use Rattle.desk_runs.proofs.Gathering.{gathered_more}
use Rattle.desk_runs.proofs.laws.workers_are_gathered.Goals as goal

pub returns : goal.returns
returns g c = λ v l o r p u numbers is_l is_o wide gathered same joined. gathered_more v l o r p u numbers o.number is_l is_o refl wide gathered same joined
