use Rattle.std.proofs.Common.{◌≡◌, length, arith}
use Rattle.std.proofs.lemmas.List.{length-map}
use Rattle.repair_core.specs.Windows.{cut_of, next_stripes, window_of}
use Rattle.repair_core.proofs.Numbers.{some_stripes}
use Rattle.repair_core.proofs.Law.{same_rows, finished, left, same_unclear, window_unclear, same_end}
use Rattle.repair_core.proofs.laws.windows_agree.Goals as goal

pub returns-clause-some : goal.returns-clause-some
returns-clause-some c = some_stripes

pub returns-clause-same : goal.returns-clause-same
returns-clause-same c = same_end

pub returns-clause-few : goal.returns-clause-few
returns-clause-few c = λ k size n window count sources targets pieces now whole way.
    let same : length (window_of now pieces) ≡ length pieces = length-map pieces (cut_of now.size now.done (next_stripes now)) in
    let rows = same_rows k size n window count sources targets pieces now whole way in
    (λ h. omega (arith, same, rows, h), λ h. omega (arith, same, rows, h))

pub returns-clause-unclear : goal.returns-clause-unclear
returns-clause-unclear c = λ k size n window count sources targets pieces now whole way s.
    (same_unclear k size n window count sources targets pieces now whole way s, window_unclear k size n window count sources targets pieces now whole way s)

pub returns-clause-finished : goal.returns-clause-finished
returns-clause-finished c = finished

pub returns-clause-left : goal.returns-clause-left
returns-clause-left c = left
