use Rattle.order_uses.proofs.table.UseTable.advance.Goals as goal

pub invariant_of-self : goal.invariant_of-self
invariant_of-self c = record {
  indexed = c.prune.ensures (c.advance.ensures c.self.inside.key c.self.inside.rows.rows c.self.invariant.indexed);
  serials = c.self.invariant.serials;
}
