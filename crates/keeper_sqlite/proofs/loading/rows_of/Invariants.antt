use Rattle.std.proofs.Common.{◌≡◌, map}
use Rattle.sat_base.specs.Rows.{entry}
use Rattle.sat_base.specs.Rows.{AreInOrder}
use Rattle.keeper_sqlite.specs.Records.{entry_shown}
use Rattle.keeper_sqlite.specs.Opened.{ShowByteKinds}
use Rattle.keeper_sqlite.proofs.loading.rows_of.Given as goal

abbrev pub invariant-loop-row : goal.invariant-loop-row
invariant-loop-row l = record {
  can : (goal.iterator-loop-row).can_next l.row-iterator;
  ends : (goal.iterator-loop-row).is_finite l.row-iterator;
  order : AreInOrder l.all.items;
  same : map entry l.all.items ≡ map entry_shown l.yielded;
  kinds : ShowByteKinds l.yielded;
}
