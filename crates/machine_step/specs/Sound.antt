-- What the tables keep at every moment: their rules, and the order of their rows.
use Rattle.std.specs.Prelude.{◌≡◌, true, None}
use Rattle.sat_base.specs.Ranks.{containment_rank, tariff_rank, kept_rank}
use Rattle.rows.specs.Rows.{IsRising}
use Rattle.node_registry.specs.Left.{left_rank}
use Rattle.segment_core.specs.Record.{segment_rank}
use Rattle.settlement.specs.Rows.{key}
use Rattle.tally_payout.specs.Ranks.{tally_rank, statement_rank}
use Rattle.machine_step.specs.Tables.{Tables, ledger_of}
use Rattle.machine_step.specs.Rules.{first_bad, are_sound_marks, breaks_node, breaks_customer, breaks_segment, breaks_settled, breaks_tally, bad_statement, breaks_kept, bad_tariff}
use Rattle.machine_step.specs.PlanRules.{is_none_or, is_sound_audit, is_sound_recheck, is_sound_repair, breaks_containment, is_sound_exit, bad_left}

-- the tables keep every rule
pub record IsSound (t : Tables) : Type 0 where
  pub marks : are_sound_marks t.setup t.marks ≡ true
  pub nodes : first_bad (breaks_node t.setup t.marks) 0 t.nodes ≡ None
  pub customers : first_bad (breaks_customer t.setup t.marks) 0 t.customers ≡ None
  pub segments : first_bad (breaks_segment t.setup t.marks t.nodes t.customers) 0 t.segments ≡ None
  pub settled : first_bad (breaks_settled t.setup t.marks t.nodes) 0 t.settled ≡ None
  pub tallies : first_bad (breaks_tally t.setup t.marks t.nodes) 0 t.tallies ≡ None
  pub statements : bad_statement t.setup (ledger_of t) ≡ None
  pub audit : is_none_or (is_sound_audit t.setup t.marks t.segments) t.audit ≡ true
  pub recheck : is_none_or (is_sound_recheck t.marks t.nodes) t.recheck ≡ true
  pub repair : is_none_or (is_sound_repair t.setup t.marks t.nodes t.segments) t.repair ≡ true
  pub containments : first_bad (breaks_containment t.setup t.nodes t.segments) 0 t.containments ≡ None
  pub kept : first_bad (breaks_kept t.marks t.nodes t.customers) 0 t.kept ≡ None
  pub exit : is_none_or (is_sound_exit t.setup t.marks t.nodes t.segments) t.exit ≡ true
  pub left : bad_left t.marks t.nodes t.left ≡ None
  pub tariffs : bad_tariff t.setup.first_month t.tariffs ≡ None

-- the rows stand in the order of their ids
pub record IsOrdered (t : Tables) : Type 0 where
  pub segments : IsRising segment_rank t.segments
  pub settled : IsRising key t.settled
  pub tallies : IsRising tally_rank t.tallies
  pub statements : IsRising statement_rank t.statements
  pub containments : IsRising containment_rank t.containments
  pub kept : IsRising kept_rank t.kept
  pub left : IsRising left_rank t.left
  pub tariffs : IsRising tariff_rank t.tariffs
