use Rattle.sat_book.proofs.BadRowLemmas.{bad_as_before}
use Rattle.sat_book.proofs.Version1Lemmas.{from_one, to_one, to_same}
use Rattle.sat_book.proofs.laws.for_version_1.Goals as goal

pub returns-clause-upgraded : goal.returns-clause-upgraded
returns-clause-upgraded c = to_one c.versions_are_told_apart.ensures.one c.versions_are_told_apart.ensures.holds c.versions_are_told_apart.ensures.implies

pub returns-clause-back : goal.returns-clause-back
returns-clause-back c = from_one

pub returns-clause-same : goal.returns-clause-same
returns-clause-same c = to_same c.versions_are_told_apart.ensures.one

pub returns-clause-bad : goal.returns-clause-bad
returns-clause-bad c = bad_as_before c.versions_are_told_apart.ensures.one
