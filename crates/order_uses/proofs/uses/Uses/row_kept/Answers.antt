use Rattle.std.proofs.Common.{◌≡◌, Some, sym, ap, subst, ◌∙◌}
use Rattle.std.specs.Prelude.{option_copied}
use Rattle.rows.specs.Rows.{row_at}
use Rattle.order_uses.specs.Opening.{HasSerial}
use Rattle.order_uses.specs.Uses.{IsUnderKey, use_rank}
use Rattle.order_uses.proofs.TakeLemmas.{each_found}
use Rattle.order_uses.proofs.uses.Uses.row_kept.Goals as goal

pub returns-clause-under : goal.returns-clause-under
returns-clause-under g c =
    let table = c.self.inside.table in
    let row = c.unwrap.result.now in
    let found : row_at use_rank table.rows c.args.serial.0 ≡ Some row = ap (λ l. row_at use_rank l c.args.serial.0) (sym c.rows.ensures) ∙ sym c.get.ensures.row ∙ ap option_copied c.unwrap.ensures in
    subst (λ v. IsUnderKey v.key row) c.self.view_is (each_found (IsUnderKey table.key) table.rows c.args.serial.0 row c.self.invariant.are.each found)

pub returns-clause-serial : goal.returns-clause-serial
returns-clause-serial g c =
    let table = c.self.inside.table in
    let row = c.unwrap.result.now in
    let found : row_at use_rank table.rows c.args.serial.0 ≡ Some row = ap (λ l. row_at use_rank l c.args.serial.0) (sym c.rows.ensures) ∙ sym c.get.ensures.row ∙ ap option_copied c.unwrap.ensures in
    each_found HasSerial table.rows c.args.serial.0 row c.self.invariant.serials found
