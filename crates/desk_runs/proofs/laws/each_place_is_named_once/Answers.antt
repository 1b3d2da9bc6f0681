use Rattle.desk_runs.proofs.Counting.{once_each}
use Rattle.desk_runs.proofs.laws.each_place_is_named_once.Goals as goal

pub returns : goal.returns
returns g c = λ numbers history place placed apart covered. once_each numbers history place placed apart covered
