use Rattle.segment_core.specs.Record.{segment_rank}
use Rattle.pay_tables.proofs.Segments.{put-again, none-after}
use Rattle.pay_tables.proofs.laws.a_segment_in_place_of_another.Goals as goal

pub returns-clause-rows : goal.returns-clause-rows
returns-clause-rows c segments segment rising = put-again segment_rank segments segment rising

pub returns-clause-gone : goal.returns-clause-gone
returns-clause-gone c segments k = none-after segment_rank segments k
