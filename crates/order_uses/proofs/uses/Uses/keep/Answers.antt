use Rattle.std.proofs.Common.{subst, sym}
use Rattle.order_uses.specs.Uses.{IsUnderKey}
use Rattle.order_uses.proofs.KeepLemmas.{kept_by}
use Rattle.order_uses.proofs.uses.Uses.keep.Goals as goal

pub invariant_of-self : goal.invariant_of-self
invariant_of-self g c =
    let under = subst (λ v. IsUnderKey v.key c.args.row) (sym c.self.view_is) c.requires.under in
    kept_by _ _ c.args.row c.keep_row.result c.keep_row.new.table.rows c.keep_row.new.table.key c.keep_row.new.keeper c.self.invariant under c.requires.serial
    c.keep_row.ensures.rows c.keep_row.ensures.key c.keep_row.ensures.commits
