use Rattle.std.proofs.Common.{rules, ◌≡◌}
use Rattle.std.specs.declared.cmp.Ordering.TheVariants.{Less}
use Rattle.sat_base.specs.Rows.{key_cmp}
use Rattle.sat_base.specs.Rows.{key_of}
use Rattle.keeper_sqlite.proofs.RowOrder.{pushes}
use Rattle.keeper_sqlite.proofs.loading.follows.Goals as goal

pub returns-in-Some : goal.returns-in-Some
returns-in-Some c goes order =
    let less : key_cmp (key_of c.in-Some.last.now) (key_of c.args.row.now) ≡ Less = search rules in
    pushes c.args.all.now c.in-Some.last.now c.args.row.now (search rules) less order
