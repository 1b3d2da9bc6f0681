use Rattle.stor_devices.proofs.NameLemmas.{no_part, one_name}
use Rattle.stor_devices.proofs.piece_files.names_are_one.Goals as goal

pub returns-clause-pieces : goal.returns-clause-pieces
returns-clause-pieces c = λ s t i j a b c d e. one_name s t i j a b c d e

pub returns-clause-part : goal.returns-clause-part
returns-clause-part c = λ segment index fits e. no_part segment index fits e
