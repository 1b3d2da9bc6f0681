-- How sending ends.
use Rattle.std.specs.Prelude.{Bool, true, false}
use Rattle.http_parts.specs.declared.sending.Sent.{Sent}
use Rattle.http_parts.specs.declared.sending.Sent.TheVariants.{All, Fault}

abbrev pub all_sent : Sent → Bool
all_sent All = true
all_sent Fault = false
