-- The number by which a record stands among its kind.
use Rattle.std.specs.Prelude.{ℕ}
use Rattle.sat_base.specs.Ranks.{customer_rank, containment_rank, kept_rank, tariff_rank}
use Rattle.node_registry.specs.Registry.{node_rank}
use Rattle.node_registry.specs.Left.{left_rank}
use Rattle.segment_core.specs.Record.{segment_rank}
use Rattle.settlement.specs.Rows.{key}
use Rattle.tally_payout.specs.Ranks.{tally_rank, statement_rank}
use Rattle.record_kinds.specs.declared.rec.Rec.{Rec}
use Rattle.record_kinds.specs.declared.rec.Rec.TheVariants as rec

-- 0 where a store has one record of the kind at most
abbrev pub rank_of : Rec → ℕ
rank_of (rec.Node node) = node_rank node
rank_of (rec.Customer customer) = customer_rank customer
rank_of (rec.Segment segment) = segment_rank segment
rank_of (rec.SettledRow row) = key row
rank_of (rec.Tally tally) = tally_rank tally
rank_of (rec.Statement statement) = statement_rank statement
rank_of (rec.Containment containment) = containment_rank containment
rank_of (rec.Kept kept) = kept_rank kept
rank_of (rec.Left left) = left_rank left
rank_of (rec.Tariff tariff) = tariff_rank tariff
rank_of _ = 0
