use Rattle.std.proofs.Common.{sym, ap, subst, ◌∙◌}
use Rattle.sat_base.specs.Rows.{Rows, AreThe, changed}
use Rattle.order_limits.specs.Keys.{operator_key}
use Rattle.sat_init.specs.NewStore.{new_rows, puts}
use Rattle.sat_init.proofs.Keeping.{left_through, made_of}
use Rattle.sat_init.proofs.making.init.Goals as goal

pub returns-in_err-put-clause-crash : goal.returns-in_err-put-clause-crash
returns-in_err-put-clause-crash g c =
    let k = g.K.Keeper in
    let look = c.look.ensures in
    left_through c.args.setup.now (k.about c.args.keeper.now) (k.about c.look.new.keeper) (k.about c.put.new.keeper)
    c.put.ensures.clean look.crash look.opened look.told look.kept c.put.ensures.crash

pub returns-clause-crash : goal.returns-clause-crash
returns-clause-crash g c =
    let k = g.K.Keeper in
    let look = c.look.ensures in
    left_through c.args.setup.now (k.about c.args.keeper.now) (k.about c.look.new.keeper) (k.about c.put.new.keeper)
    c.put.ensures.clean look.crash look.opened look.told look.kept c.put.ensures.crash

pub returns-clause-made : goal.returns-clause-made
returns-clause-made g c =
    let done = c.in_ok-put.ensures.done in
    record {
      secret = c.in_ok-secret.secret;
      now = c.of-now.result;
      month = done.0;
      begins = record {
        is_secret = c.in_ok-secret.ensures.secret.0;
        moment = c.now.result;
        timed = c.now.ensures;
        is_now = c.of-now.ensures;
        in_month = done.1;
      };
      is_key = c.operator.ensures ∙ ap operator_key c.new.ensures;
      kept = λ t.
          let was_open = c.put.ensures.opened t.0 in
          let made = made_of c.args.setup.now c.in_ok-secret.secret c.of-now.result done.0 (g.K.Keeper.about c.args.keeper.now).rows (c.in_ok-look.ensures.none was_open t.1) in
          let is = done.2 t.0 (c.look.ensures.told was_open t.1)
          ∙ ap (changed (puts (new_rows c.args.setup.now c.in_ok-secret.secret c.of-now.result done.0))) (c.look.ensures.kept was_open t.1) in
          subst (λ (m : Rows). AreThe m (new_rows c.args.setup.now c.in_ok-secret.secret c.of-now.result done.0)) (sym is) made;
    }
