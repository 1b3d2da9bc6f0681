use Rattle.stor_wire.proofs.PathLemmas.{if_found, if_none}
use Rattle.stor_wire.proofs.piece_path.piece_of.Goals as goal

pub returns-clause-found : goal.returns-clause-found
returns-clause-found c = if_found c.find_piece.result c.args.path.now c.find_piece.ensures

pub returns-clause-none : goal.returns-clause-none
returns-clause-none c = if_none c.find_piece.result c.args.path.now c.find_piece.ensures
