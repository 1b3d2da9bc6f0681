-- What is asked of what pay goes by, and how segments change it.
use Rattle.std.proofs.Common.{◌≡◌, ℕ, ◌+◌, ◌^◌, ◌<◌, ◌≤◌, Bool, true, false, not, List, [], ◌∷◌, length, Some, sym, ap, subst, ◌∙◌, arith}
use Rattle.std.specs.Prelude.{if◌then◌else◌, ◌==◌, nat_lt, nat_le, filter}
use Rattle.std.specs.List.{sum_by}
use Rattle.std.proofs.lemmas.Bool.Decides.{nat_tests}
use Rattle.std.proofs.lemmas.Bool.{and_parts}
use Rattle.node_registry.specs.declared.node.Node.{Node}
use Rattle.segment_core.specs.Record.{SegmentRecord, segment_rank}
use Rattle.sat_base.specs.declared.records.At.{At}
use Rattle.rows.specs.Rows.{Each, row_at, without}
use Rattle.rows.proofs.Found.{rank-found}
use Rattle.settlement.specs.declared.row.SettledRow.{SettledRow}
use Rattle.tally_payout.specs.declared.amounts.Statement.{Statement}
use Rattle.month_pay.specs.Rule.{is_closed, is_sound_statement}
use Rattle.month_pay.proofs.ListFacts.{each-all}
use Rattle.machine_step.specs.Bounds.{IsValid}
use Rattle.machine_step.specs.PlanRules.{is_exited}
use Rattle.machine_step.specs.Stored.{piece_bytes, lies_at, stored_bytes}
use Rattle.machine_step.specs.Tables.{Setup, Tables, ledger_of}
use Rattle.machine_step.proofs.Paid.{statements_of}
use Rattle.machine_step.proofs.RowLemmas.{each-found}
use Rattle.pay_tables.specs.declared.tables.PayTables.{PayTables}
use Rattle.pay_tables.specs.Amounts.{amount_at, live_bytes}
use Rattle.pay_tables.specs.InStep.{IsInStep, IsShort}

-- ---- what is asked

-- a node that has left stores nothing
pub stored-none : (setup : Setup) (segments : List SegmentRecord) (node : Node) → is_exited node.status ≡ true → stored_bytes setup segments node ≡ 0
unfolding stored_bytes
stored-none setup segments node gone = ap (λ (b : Bool). if b then 0 else sum_by (piece_bytes setup) (filter (lies_at node.id) segments)) gone

-- all statements are of months that are closed
pub months_closed : (t : Tables) → IsValid t → Each (λ s. s.month.0 < (ledger_of t).next) t.statements
months_closed t v = each-all (is_sound_statement (ledger_of t)) (λ s. s.month.0 < t.marks.month.0) early t.statements (statements_of t v).rule.all
  where
    early : (s : Statement) → is_sound_statement (ledger_of t) s ≡ true → s.month.0 < t.marks.month.0
    early s sound =
        let closed = (and_parts (is_closed (ledger_of t) s.month.0) _ sound).0 in
        let before = (and_parts (nat_le t.setup.first_month s.month.0) (nat_lt s.month.0 t.marks.month.0) closed).1 in
        grind (arith, nat_tests, before)

-- ---- the bytes of a segment

module _ (setup : Setup) (segments : List SegmentRecord) (settled : List SettledRow) (p : PayTables) (step : IsInStep setup segments settled p) (id : ℕ) (old : SegmentRecord) (at : row_at segment_rank segments id ≡ Some old) where
  pub old_short : IsShort old
  old_short = each-found segment_rank IsShort segments id old step.short at

  pub old_at : row_at segment_rank segments (segment_rank old) ≡ Some old
  old_at = ap (row_at segment_rank segments) (rank-found segment_rank segments id old at) ∙ at

  -- the bytes that are taken off are there
  pub old_stored : (pieces : List At) (bytes : ℕ) → pieces ≡ old.pieces → bytes ≡ live_bytes setup old → Each (λ piece. live_bytes setup old ≤ amount_at p.stored.rows piece.node) old.pieces
      → Each (λ piece. bytes ≤ amount_at p.stored.rows piece.node) pieces
  old_stored pieces bytes same are stored =
      subst (λ (ps : List At). Each (λ piece. bytes ≤ amount_at p.stored.rows piece.node) ps) (sym same)
      (subst (λ (n : ℕ). Each (λ piece. n ≤ amount_at p.stored.rows piece.node) old.pieces) (sym are) stored)

  pub old_taken : (new : PayTables) → IsInStep setup (without segment_rank segments (segment_rank old)) settled new → IsInStep setup (without segment_rank segments id) settled new
  old_taken new is = subst (λ (k : ℕ). IsInStep setup (without segment_rank segments k) settled new) (rank-found segment_rank segments id old at) is

-- there is room for the bytes that are added
pub new_room : (setup : Setup) (p : PayTables) (segment : SegmentRecord) (pieces : List At) (bytes : ℕ) → pieces ≡ segment.pieces → bytes ≡ live_bytes setup segment
    → Each (λ piece. amount_at p.stored.rows piece.node + live_bytes setup segment < 2 ^ 128) segment.pieces → Each (λ piece. amount_at p.stored.rows piece.node + bytes < 2 ^ 128) pieces
new_room setup p segment pieces bytes same are room =
    subst (λ (ps : List At). Each (λ piece. amount_at p.stored.rows piece.node + bytes < 2 ^ 128) ps) (sym same)
    (subst (λ (n : ℕ). Each (λ piece. amount_at p.stored.rows piece.node + n < 2 ^ 128) segment.pieces) (sym are) room)

-- fewer rows without one
pub fewer_without : (segments : List SegmentRecord) (k : ℕ) → length (without segment_rank segments k) ≤ length segments
fewer_without [] k = omega arith
fewer_without (s ∷ rest) k = go (not (segment_rank s == k)) (fewer_without rest k)
  where
    go : (b : Bool) → length (without segment_rank rest k) ≤ length rest → length (if b then s ∷ without segment_rank rest k else without segment_rank rest k) ≤ length (s ∷ rest)
    go true le = omega arith
    go false le = omega arith
