use Rattle.std.proofs.Common.{◌≡◌, ◌∙◌, true, false}
use Rattle.serde_json.specs.View.{view}
use Rattle.stor_wire.proofs.SettlementLemmas.{garbled_says, refused_says}
use Rattle.stor_wire.proofs.settled.said_by.Goals as goal

pub returns-in-Ok : goal.returns-in-Ok
returns-in-Ok c =
    c.said_by_refusal.ensures
    ∙ refused_says c.args.status c.args.body.now (view c.in-Ok.value) c.if-status-ne409.false c.in-Ok.ensures.ok.0 c.in-Ok.ensures.ok.1

pub returns-else-is_memory : goal.returns-else-is_memory
returns-else-is_memory c =
    garbled_says c.args.status c.args.body.now c.if-status-ne409.false (c.in-Err.ensures.err (λ m. let no : false ≡ true = c.if-is_memory.ensures.1 m in cc))
