use Rattle.std.proofs.Common.{◌≡◌, Bool, List, take}
use Rattle.std.specs.Prelude.{map, filter}
use Rattle.sat_base.specs.declared.items.Share.{Share}
use Rattle.bw_decode.specs.Altered.{indexes_of}
use Rattle.audit_core.proofs.judging.marked_indexes.Given as goal

abbrev pub invariant-loop-i : goal.invariant-loop-i
invariant-loop-i l = (test : Share → Bool) → l.marks ≡ map test l.answers → l.indexes.items ≡ indexes_of (filter test (take l.i l.answers))
