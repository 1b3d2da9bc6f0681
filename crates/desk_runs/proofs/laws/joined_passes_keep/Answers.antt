use Rattle.desk_runs.proofs.Gathering.{keeps_first, keeps_second}
use Rattle.desk_runs.proofs.laws.joined_passes_keep.Goals as goal

pub returns : goal.returns
returns g c = λ a b whole j. (keeps_first a b whole j, keeps_second a b whole j)
