use Rattle.std.proofs.Common.{ℕ, ◌+◌, List, sym, ap, ◌∙◌}
use Rattle.sat_base.specs.declared.ids.NodeId.{NodeId}
use Rattle.sat_base.specs.declared.records.At.{At}
use Rattle.segment_core.specs.Record.{segment_rank}
use Rattle.machine_step.proofs.RowLemmas.{each-with_row}
use Rattle.pay_tables.specs.Amounts.{amount_at, bytes_at}
use Rattle.pay_tables.specs.InStep.{IsShort}
use Rattle.pay_tables.proofs.Segments.{segment-put}
use Rattle.pay_tables.proofs.tables.PayTables.raise.Goals as goal

pub returns-clause-keeps : goal.returns-clause-keeps
returns-clause-keeps c setup segments settled segment pieces bytes short none step =
    let old = c.args.self.now in
    let amounts = λ (node : NodeId).
    c.raise.ensures.amounts node
    ∙ (ap (λ (at : List At). amount_at old.stored.rows node + bytes_at node at c.args.bytes) (sym pieces)
    ∙ ap (λ (n : ℕ). amount_at old.stored.rows node + bytes_at node segment.pieces n) (sym bytes)) in
    record {
      sums = step.sums;
      stored = segment-put setup segments old.stored.rows c.raise.new.self.rows segment step.stored none amounts;
      pots = step.pots;
      short = each-with_row segment_rank IsShort segments segment step.short short;
      small = step.small;
      few = step.few;
      rising = step.rising;
      bytes = step.bytes;
      early = step.early;
    }
