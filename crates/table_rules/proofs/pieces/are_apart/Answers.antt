use Rattle.std.proofs.Common.{true, false, refl, length, drop, ◌+◌, ◌-◌, arith}
use Rattle.std.proofs.lemmas.List.{take_all, length-drop}
use Rattle.table_rules.proofs.ListLemmas.{together, still_apart}
use Rattle.table_rules.proofs.pieces.are_apart.Goals as goal

pub returns-then-is_one_in : goal.returns-then-is_one_in
returns-then-is_one_in c = together c.args.nodes.now.nodes c.args.pieces.now c.loop-i.i _ c.subnet_of.result true _ _ c.loop-i-test.true (take_all (length c.args.pieces.now - (c.loop-i.i + 1)) (drop (c.loop-i.i + 1) c.args.pieces.now) (omega (arith, length-drop (c.loop-i.i + 1) c.args.pieces.now))) c.subnet_of.ensures c.if-is_one_in.ensures c.loop-i.invariant refl

pub loop-i-preserved : goal.loop-i-preserved
loop-i-preserved c = still_apart c.args.nodes.now.nodes c.args.pieces.now c.loop-i.i _ c.subnet_of.result false _ _ c.loop-i-test.true (take_all (length c.args.pieces.now - (c.loop-i.i + 1)) (drop (c.loop-i.i + 1) c.args.pieces.now) (omega (arith, length-drop (c.loop-i.i + 1) c.args.pieces.now))) c.subnet_of.ensures c.if-is_one_in.ensures c.loop-i.invariant refl
