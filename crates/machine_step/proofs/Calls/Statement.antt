-- Asking for a statement changes nothing.
use Rattle.std.specs.Prelude.{nat_le}
use Rattle.sat_base.specs.declared.ids.NodeId.{NodeId}
use Rattle.sat_base.specs.declared.month.Month.{Month}
use Rattle.rows.specs.Rows.{row_at}
use Rattle.node_registry.specs.Registry.{node_at}
use Rattle.tally_payout.specs.Ranks.{month_place, statement_rank}
use Rattle.machine_calls.specs.declared.reply.Reply.TheVariants as replies
use Rattle.machine_calls.specs.declared.refusal.Refusal.TheVariants as refusals
use Rattle.machine_step.specs.Tables.{Tables}
use Rattle.machine_step.specs.Calls.Statement.{statement}
use Rattle.machine_step.specs.Bounds.{IsValid}
use Rattle.machine_step.proofs.Outcomes.{unless-P, with_record-P}
use Rattle.machine_step.proofs.Fits.{After, still}

pub fit_statement : (t : Tables) (v : IsValid t) (node : NodeId) (month : Month) → After t (statement t node month)
fit_statement t v node month =
    with_record-P (After t) (still t v) (node_at t.nodes node) (refusals.NoNode node) _ (λ found at.
    unless-P (After t) (still t v) (nat_le t.marks.month.0 month.0) (refusals.MonthOrder t.marks.month) _ (λ past.
    with_record-P (After t) (still t v) (row_at statement_rank t.statements (month_place month.0 node.0)) (refusals.NoStatement month) _ (λ s there. still t v (replies.Statement s))))
