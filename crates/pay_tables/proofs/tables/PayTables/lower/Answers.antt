use Rattle.std.proofs.Common.{ℕ, ◌+◌, List, ap, ◌∙◌}
use Rattle.sat_base.specs.declared.ids.NodeId.{NodeId}
use Rattle.sat_base.specs.declared.records.At.{At}
use Rattle.segment_core.specs.Record.{segment_rank}
use Rattle.machine_step.proofs.RowLemmas.{each-without}
use Rattle.pay_tables.specs.Amounts.{amount_at, bytes_at}
use Rattle.pay_tables.specs.InStep.{IsShort}
use Rattle.pay_tables.proofs.Segments.{segment-less}
use Rattle.pay_tables.proofs.tables.PayTables.lower.Goals as goal

pub returns-clause-keeps : goal.returns-clause-keeps
returns-clause-keeps c setup segments settled segment pieces bytes rising at step =
    let old = c.args.self.now in
    let new = c.lower.new.self in
    let amounts = λ (node : NodeId).
    ap (λ (n : ℕ). amount_at new.rows node + bytes_at node segment.pieces n) bytes
    ∙ (ap (λ (at : List At). amount_at new.rows node + bytes_at node at c.args.bytes) pieces
    ∙ c.lower.ensures.amounts node) in
    record {
      sums = step.sums;
      stored = segment-less setup segments old.stored.rows new.rows segment step.stored rising at amounts;
      pots = step.pots;
      short = each-without segment_rank IsShort segments (segment_rank segment) step.short;
      small = step.small;
      few = step.few;
      rising = step.rising;
      bytes = step.bytes;
      early = step.early;
    }
