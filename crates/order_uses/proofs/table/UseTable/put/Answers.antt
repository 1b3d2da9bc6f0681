use Rattle.order_uses.specs.Opening.{HasSerial}
use Rattle.order_uses.proofs.PutLemmas.{each_put}
use Rattle.order_uses.proofs.table.UseTable.put.Goals as goal

pub invariant_of-self : goal.invariant_of-self
invariant_of-self c =
    let rows = c.self.inside.rows.rows in
    let noted = c.note.ensures rows c.requires.serial c.self.invariant.indexed in
    record {
      indexed = c.prune.ensures (rw c.put_over.ensures.rows noted);
      serials = rw c.put_over.ensures.rows (each_put HasSerial rows c.args.row c.self.invariant.serials c.requires.serial);
    }
