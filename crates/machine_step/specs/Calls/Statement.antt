-- A node asks for its statement of a month.
use Rattle.std.specs.Prelude.{nat_le}
use Rattle.sat_base.specs.declared.ids.NodeId.{NodeId}
use Rattle.sat_base.specs.declared.month.Month.{Month}
use Rattle.rows.specs.Rows.{row_at}
use Rattle.node_registry.specs.Registry.{node_at}
use Rattle.tally_payout.specs.Ranks.{month_place, statement_rank}
use Rattle.machine_calls.specs.declared.reply.Reply.TheVariants as replies
use Rattle.machine_calls.specs.declared.refusal.Refusal.TheVariants as refusals
use Rattle.machine_step.specs.Tables.{Tables}
use Rattle.machine_step.specs.Outcome.{Outcome, unchanged, unless, with_record}

abbrev pub statement : Tables → NodeId → Month → Outcome
statement t node month =
    with_record (node_at t.nodes node) (refusals.NoNode node) (λ _.
    unless (nat_le t.marks.month.0 month.0) (refusals.MonthOrder t.marks.month)
    (with_record (row_at statement_rank t.statements (month_place month.0 node.0)) (refusals.NoStatement month) (λ s. unchanged (replies.Statement s))))
