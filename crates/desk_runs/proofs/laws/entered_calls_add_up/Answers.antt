use Rattle.std.proofs.Common.{refl}
use Rattle.turnstile.specs.Known.{with_mark}
use Rattle.desk_runs.proofs.Entering.{entered_none, entered_more, entered_full}
use Rattle.desk_runs.proofs.laws.entered_calls_add_up.Goals as goal

pub returns : goal.returns
returns g c = record {
  none = λ k. entered_none k;
  more = λ a b d xs ys first second. entered_more a b d xs ys first second;
  full = λ k t. entered_full k t (with_mark k t) refl;
}
