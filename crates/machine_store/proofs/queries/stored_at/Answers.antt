use Rattle.std.proofs.Common.{sym, ◌∙◌}
use Rattle.machine_step.specs.Tables.{setup_of}
use Rattle.machine_step.proofs.StoredLemmas.{stored-shares}
use Rattle.machine_store.proofs.PaidLemmas.{stored-none}
use Rattle.machine_store.proofs.queries.stored_at.Goals as goal

pub returns-then-has_exited : goal.returns-then-has_exited
returns-then-has_exited c = sym (stored-none (setup_of c.args.store.now.settings) c.args.store.now.segments.rows c.args.node.now (sym c.has_exited.ensures ∙ c.if-has_exited.true))

pub returns-else-has_exited : goal.returns-else-has_exited
returns-else-has_exited c =
    c.stored_at.ensures ∙ c.requires.pay.stored c.args.node.now.id
    ∙ sym (stored-shares (setup_of c.args.store.now.settings) c.args.store.now.segments.rows c.args.node.now (sym c.has_exited.ensures ∙ c.if-has_exited.false))
