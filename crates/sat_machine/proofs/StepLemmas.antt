-- What each step changes can be placed, and no change takes another's room.
use Rattle.std.proofs.Common.{◌≡◌, ℕ, ◌<◌, ◌≤◌, ◌^◌, true, false, List, length, Option, Some, None, IfSome, IsSomeAnd, Result, Ok, Err, refl, sym, ap, subst, ◌∙◌, arith}
use Rattle.std.specs.Prelude.{nat_le, nat_lt, not, ◌==◌}
use Rattle.std.proofs.lemmas.Bool.Decides.{nat_tests}
use Rattle.sat_base.specs.declared.ids.NodeId.{NodeId}
use Rattle.sat_base.specs.declared.requests.Asked.TheVariants as asks
use Rattle.rows.specs.Rows.{row_at}
use Rattle.node_registry.specs.declared.node.Node.{Node}
use Rattle.node_registry.specs.Registry.{node_rank, node_at}
use Rattle.node_registry.specs.Standing.{is_counted}
use Rattle.sat_base.specs.declared.ids.SegId.{SegId}
use Rattle.segment_core.specs.Commit.{refusal}
use Rattle.settlement.specs.declared.answer.Settlable.{Settlable}
use Rattle.settlement.specs.declared.answer.Settlable.TheVariants as may
use Rattle.settlement.specs.declared.answer.SettleErr.{SettleErr}
use Rattle.settlement.specs.declared.answer.SettleErr.TheVariants as no
use Rattle.settlement.specs.Settle.{settlable}
use Rattle.placement.specs.Eligible.{subnet_count}
use Rattle.machine_calls.specs.declared.asking.Asking.{Asking}
use Rattle.machine_calls.specs.declared.call.Call.{Call}
use Rattle.machine_calls.specs.declared.call.Call.TheVariants as calls
use Rattle.machine_calls.specs.declared.task.Task.TheVariants as tasks
use Rattle.machine_calls.specs.declared.wish.Wish.TheVariants as wishes
use Rattle.machine_calls.specs.declared.reply.Reply.TheVariants as replies
use Rattle.machine_calls.specs.declared.refusal.Refusal.TheVariants as refusals
use Rattle.machine_calls.specs.declared.refusal.TableName.TheVariants as names
use Rattle.machine_step.specs.Tables.{Tables, max_len_of, is_no_size, owned_at}
use Rattle.machine_step.specs.Outcome.{Outcome, unchanged, refused}
use Rattle.machine_step.specs.Containment.{swept}
use Rattle.machine_step.specs.Calls.AddNode.{add_node}
use Rattle.machine_step.specs.Calls.AddCustomer.{add_customer}
use Rattle.machine_step.specs.Calls.Begin.{terms_for, has_no_number, begin}
use Rattle.machine_step.specs.Calls.Commit.{commit}
use Rattle.machine_step.specs.Health.{healthy_of}
use Rattle.machine_step.specs.Calls.Get.{get}
use Rattle.machine_step.specs.Calls.Delete.{delete}
use Rattle.machine_step.specs.Calls.Settle.{settle_as, settle}
use Rattle.machine_step.specs.Calls.SetFree.{free_set, set_free}
use Rattle.machine_step.specs.Step.{risen, asking, operator, case_of, step, after, tables_after, IsWellFormed}
use Rattle.machine_step.specs.Rules.{is_sound_settled}
use Rattle.machine_step.specs.Bounds.{IsValid}
use Rattle.machine_step.proofs.Outcomes.{unless-P, with_record-P, if-P, of_caller-P, of_customer-P, unless_caused-P}
use Rattle.machine_step.proofs.RowLemmas.{rank-found, capped-length}
use Rattle.machine_step.proofs.SettleLemmas.{settles-new}
use Rattle.machine_step.proofs.StepLemmas.{valid_step, risen_within}
use Rattle.sat_machine.proofs.Doable.{IsDoable, still, node-placeable, none-next, doable-swept}
use Rattle.order_limits.proofs.Fields.{IsBytes}
use Rattle.machine_step.proofs.Fits.{owned_found}
use Rattle.machine_step.proofs.GrowthLemmas.{ids_above}
use Rattle.machine_step.proofs.MarkLemmas.{month-open}
use Rattle.machine_step.proofs.SegmentSizes.{size-short, found-short}
use Rattle.month_pay.specs.Months.{month_at}
use Rattle.sat_machine.proofs.MonthDoables.{open-in, doable_tally_hour, doable_close_month, doable_set_rates, doable_statement}
use Rattle.sat_machine.proofs.PlanDoables.{doable_plan_audit, doable_end_audit, doable_plan_recheck, doable_end_recheck, doable_plan_repair, doable_end_repair, doable_exit, doable_plan_exit, doable_end_exit}
use Rattle.machine_store.specs.declared.prepared.Prepared.{Prepared}
use Rattle.machine_store.specs.declared.store.Store.{Store}
use Rattle.machine_store.specs.Prepared.{Holds}
use Rattle.sat_machine.specs.Machine.{IsReady}
use Rattle.machine_store.specs.Store.{tables_of, GoesByTables, ArePlaceable, HasRoom, is_lost, are_orderly}

module _ (t : Tables) (v : IsValid t) where
  same_status : (found : Node) → node_at t.nodes found.id ≡ Some found → is_lost (node_at t.nodes found.id) ≡ true → is_counted found.status ≡ false
  same_status found at lost = let none : is_lost (Some found) ≡ true = ap is_lost (sym at) ∙ lost in grind (arith, none)

  doable_add_node : (asking : Asking) (addr port free : ℕ) → IsDoable t (add_node t asking addr port free)
  doable_add_node asking addr port free =
      of_caller-P (IsDoable t) (still t) t asking (asks.Node addr port free) _
      (unless-P (IsDoable t) (still t) (nat_le t.setup.caps.nodes (length t.nodes)) (refusals.TableFull names.Nodes) _ (λ room.
      let below : length t.nodes < t.setup.caps.nodes = grind (arith, nat_tests, room) in
      record { placeable = (tt, (record { low = omega arith; high = omega arith; next = λ is. omega (arith, v.bounds.setup.caps.nodes.1); stays = none-next t v _ refl _ }, (tt, tt))); orderly = refl }))

  doable_add_customer : (asking : Asking) → IsDoable t (add_customer t asking)
  doable_add_customer asking =
      of_caller-P (IsDoable t) (still t) t asking asks.Customer _
      (unless-P (IsDoable t) (still t) (nat_le t.setup.caps.customers (length t.customers)) (refusals.TableFull names.Customers) _ (λ room.
      record { placeable = (tt, (tt, (tt, tt))); orderly = refl }))

  doable_begin : (asking : Asking) (len : ℕ) (words : List ℕ) → IsDoable t (begin t asking len words)
  doable_begin asking len words =
      of_customer-P (IsDoable t) (still t) t asking (asks.Begin len) _ (λ owner.
      unless-P (IsDoable t) (still t) (is_no_size t.setup len) (refusals.Size (max_len_of t.setup)) _ (λ size.
      unless-P (IsDoable t) (still t) (nat_le t.setup.caps.segments (length t.segments)) (refusals.TableFull names.Segments) _ (λ room.
      unless-P (IsDoable t) (still t) (has_no_number t) (refusals.TableFull names.Numbers) _ (λ number.
      unless-P (IsDoable t) (still t) (nat_lt (subnet_count (terms_for t len words)) t.setup.n) (refusals.Few (subnet_count (terms_for t len words))) _ (λ enough.
      record { placeable = (tt, (size-short t v len size, (tt, tt))); orderly = refl })))))

  doable_commit : (asking : Asking) (segment : SegId) (indexes : List ℕ) → IsDoable t (commit t asking segment indexes)
  doable_commit asking segment indexes =
      of_customer-P (IsDoable t) (still t) t asking (asks.Commit segment indexes) _ (λ owner.
      with_record-P (IsDoable t) (still t) (owned_at t.segments asking.caller segment) (refusals.NoSegment segment) _ (λ found at.
      unless-P (IsDoable t) (still t) (not (found.version == 0)) (refusals.AlreadyLive found.version) _ (λ pending.
      unless_caused-P (IsDoable t) (still t) (refusal t.setup.n t.setup.o indexes) _ (λ accepted.
      record { placeable = (tt, (found-short t v segment.0 found (owned_found t v asking.caller segment found at), (tt, tt))); orderly = refl }))))

  doable_get : (asking : Asking) (segment : SegId) → IsDoable t (get t asking segment)
  doable_get asking segment =
      of_customer-P (IsDoable t) (still t) t asking (asks.Get segment) _ (λ owner.
      with_record-P (IsDoable t) (still t) (owned_at t.segments asking.caller segment) (refusals.NoSegment segment) _ (λ found at.
      unless-P (IsDoable t) (still t) (found.version == 0) (refusals.NoSegment segment) _ (λ live.
      unless-P (IsDoable t) (still t) (nat_lt (length (healthy_of t found)) t.setup.k) (refusals.TooFew (length (healthy_of t found)) t.setup.k) _ (λ many.
      unless-P (IsDoable t) (still t) (nat_le (2 ^ 63) t.marks.serial) (refusals.TableFull names.Numbers) _ (λ number.
      record { placeable = (tt, (tt, tt)); orderly = refl })))))

  doable_delete : (asking : Asking) (segment : SegId) → IsDoable t (delete t asking segment)
  doable_delete asking segment =
      of_customer-P (IsDoable t) (still t) t asking (asks.Delete segment) _ (λ owner.
      with_record-P (IsDoable t) (still t) (owned_at t.segments asking.caller segment) (refusals.NoSegment segment) _ (λ found at.
      record { placeable = (tt, (tt, (tt, tt))); orderly = refl }))

  doable_settle_as : (time : ℕ) (node : NodeId) (bytes : List ℕ) (r : Result Settlable SettleErr) → t.marks.time ≤ time → 1 ≤ node.0 → IsBytes bytes → settlable t.settled t.setup.caps.settled t.setup.secret node time bytes ≡ r → IsDoable t (settle_as t time r)
  doable_settle_as time node bytes (Ok (may.New row)) le some small is =
      let new = settles-new t.settled t.setup.caps.settled t.setup.secret node time bytes row small is in
      let few = capped-length t.setup.caps.settled (is_sound_settled t.marks t.nodes) t.settled 0 v.rules.settled (omega arith) in
      let begun = month-open t.setup t.marks time le v.rules.marks in
      let month : t.marks.month.0 ≤ month_at row.at = rw new.at begun in
      let known : 1 ≤ row.node.0 = rw new.node some in
      record { placeable = (tt, (record { row = record { below = omega (arith, few, new.room); absent = new.absent }; unstated = open-in t v (month_at row.at) row.node month known }, tt)); orderly = refl }
  doable_settle_as time node bytes (Ok (may.Again amount)) le some small is = still t (replies.Again amount)
  doable_settle_as time node bytes (Err (no.Length got)) le some small is = still t (replies.Refused (refusals.Length got))
  doable_settle_as time node bytes (Err (no.Version got)) le some small is = still t (replies.Refused (refusals.Version got))
  doable_settle_as time node bytes (Err (no.Action got)) le some small is = still t (replies.Refused (refusals.Action got))
  doable_settle_as time node bytes (Err no.LimitTag) le some small is = still t (replies.Refused refusals.LimitTag)
  doable_settle_as time node bytes (Err no.OrderTag) le some small is = still t (replies.Refused refusals.OrderTag)
  doable_settle_as time node bytes (Err (no.OtherNode limit_node)) le some small is = still t (replies.Refused (refusals.OtherNode limit_node))
  doable_settle_as time node bytes (Err (no.Differs kept)) le some small is = still t (replies.Refused (refusals.Differs kept))
  doable_settle_as time node bytes (Err (no.Late until)) le some small is = still t (replies.Refused (refusals.Late until))
  doable_settle_as time node bytes (Err (no.OverLimit limit)) le some small is = still t (replies.Refused (refusals.OverLimit limit))
  doable_settle_as time node bytes (Err (no.SettledFull cap)) le some small is = still t (replies.Refused (refusals.SettledFull cap))
  doable_settle_as time node bytes (Err no.NoMemory) le some small is = still t replies.NoMemory

  doable_settle : (time : ℕ) (node : NodeId) (bytes : List ℕ) → t.marks.time ≤ time → IsBytes bytes → IsDoable t (settle t time node bytes)
  doable_settle time node bytes le small =
      with_record-P (IsDoable t) (still t) (node_at t.nodes node) (refusals.NoNode node) _ (λ found at.
      let some = ids_above t.setup t.marks t.nodes 0 node.0 found v.rules.nodes at in
      doable_settle_as time node bytes (settlable t.settled t.setup.caps.settled t.setup.secret node time bytes) le (omega (arith, some)) small refl)

  doable_set_free : (time : ℕ) (node : NodeId) (free : ℕ) → IsDoable t (set_free t time node free)
  doable_set_free time node free =
      with_record-P (IsDoable t) (still t) (node_at t.nodes node) (refusals.NoNode node) _ (λ found at.
      let same : found.id.0 ≡ node.0 = rank-found node_rank t.nodes node.0 found at in
      let here : node_at t.nodes found.id ≡ Some found = ap (λ (k : ℕ). row_at node_rank t.nodes k) same ∙ at in
      if-P (IsDoable t) (still t) (found.free == free) (unchanged replies.FreeSet) (free_set t time found free) (still t replies.FreeSet)
      (record { placeable = (tt, (node-placeable t v (record found { free = free }) found here (λ lost. same_status found here lost), tt)); orderly = refl }))

doable_case : (t : Tables) (call : Call) → IsValid t → IsWellFormed t call → IsDoable t (case_of t call)
doable_case t (calls.Asked now words (wishes.AddNode request addr port free)) v w = doable_add_node t v (asking t operator request now) addr port free
doable_case t (calls.Asked now words (wishes.AddCustomer request)) v w = doable_add_customer t v (asking t operator request now)
doable_case t (calls.Asked now words (wishes.Begin customer request len)) v w = doable_begin t v (asking t customer request now) len words
doable_case t (calls.Asked now words (wishes.Commit customer request segment indexes)) v w = doable_commit t v (asking t customer request now) segment indexes
doable_case t (calls.Asked now words (wishes.Get customer request segment)) v w = doable_get t v (asking t customer request now) segment
doable_case t (calls.Asked now words (wishes.Delete customer request segment)) v w = doable_delete t v (asking t customer request now) segment
doable_case t (calls.Asked now words (wishes.Settle node bytes)) v w = doable_settle t v (risen t now) node bytes (omega arith) w.formed.bytes
doable_case t (calls.Asked now words (wishes.SetFree node free)) v w = doable_set_free t v (risen t now) node free
doable_case t (calls.Own now (tasks.PlanAudit words)) v w = doable_plan_audit t v (risen t now) words
doable_case t (calls.Own now (tasks.EndAudit judged)) v w = doable_end_audit t v (risen t now) judged
doable_case t (calls.Own now tasks.PlanRecheck) v w = doable_plan_recheck t v (risen t now)
doable_case t (calls.Own now (tasks.EndRecheck plan checked)) v w = doable_end_recheck t v (risen t now) plan checked
doable_case t (calls.Own now (tasks.PlanRepair words)) v w = doable_plan_repair t v (risen t now) words
doable_case t (calls.Own now tasks.TallyHour) v w = doable_tally_hour t v (risen t now) (omega arith) (risen_within t v now w.formed.timely)
doable_case t (calls.Asked now words (wishes.CloseMonth month)) v w = doable_close_month t v (risen t now) (omega arith) (risen_within t v now w.formed.timely) month
doable_case t (calls.Asked now words (wishes.SetRates month rates)) v w = doable_set_rates t v (risen t now) month rates
doable_case t (calls.Asked now words (wishes.Statement node month)) v w = doable_statement t v node month
doable_case t (calls.Own now (tasks.EndRepair outcome)) v w = doable_end_repair t v (risen t now) outcome
doable_case t (calls.Asked now words (wishes.Exit node)) v w = doable_exit t v (risen t now) node
doable_case t (calls.Own now (tasks.PlanExit words)) v w = doable_plan_exit t v (risen t now) words
doable_case t (calls.Own now (tasks.EndExit outcome)) v w = doable_end_exit t v (risen t now) outcome
doable_case t (calls.Asked now words wishes.Stop) v w = record { placeable = tt; orderly = refl }

doable_step : (t : Tables) (call : Call) → IsValid t → IsWellFormed t call → IsDoable t (step t call)
doable_step t call v w =
    if-P (IsDoable t) (still t) t.stopped (refused refusals.Stopped) (swept t (case_of t call)) (record { placeable = tt; orderly = refl })
    (doable-swept t (case_of t call) (doable_case t call v w))

-- what is prepared can be placed
pub placeable_held : (t : Tables) (call : Call) (p : Prepared) → IsValid t → IsWellFormed t call → Holds p (step t call) → ArePlaceable t p.changes.items
placeable_held t call p v w holds = subst (ArePlaceable t) (sym holds.changes) (doable_step t call v w).placeable

-- the pending call, and that it is prepared
pub orderly_held : (s : Store) (pending : Option Call) (p : Prepared) → IsReady s pending → IsSomeAnd pending (λ call. Holds p (step (tables_of s) call)) → are_orderly p.changes.items ≡ true
orderly_held s None p ready holds = absurd holds
orderly_held s (Some call) p ready holds = ap are_orderly holds.changes ∙ (doable_step (tables_of s) call ready.valid ready.prepared.formed).orderly

pub room_held : (s : Store) (pending : Option Call) (p : Prepared) → IsReady s pending → IsSomeAnd pending (λ call. Holds p (step (tables_of s) call)) → HasRoom s p.changes.items
room_held s None p ready holds = absurd holds
room_held s (Some call) p ready holds = subst (HasRoom s) (sym holds.changes) ready.prepared.room

-- after the step the machine is ready for another
pub ready_finished : (s next : Store) (pending : Option Call) (p : Prepared) → IsReady s pending → IsSomeAnd pending (λ call. Holds p (step (tables_of s) call))
    → ((o : Outcome) → Holds p o → tables_of next ≡ tables_after (tables_of s) o) → GoesByTables next → IsReady next None
ready_finished s next None p ready holds tables own = absurd holds
ready_finished s next (Some call) p ready holds tables own = record {
  valid = subst IsValid (sym (tables (step (tables_of s) call) holds)) (valid_step (tables_of s) call ready.valid ready.prepared.formed);
  own = own;
  prepared = tt;
}

-- and its tables are the step's
pub tables_finished : (t : Tables) (next : Store) (pending : Option Call) (p : Prepared) → IsSomeAnd pending (λ call. Holds p (step t call))
    → ((o : Outcome) → Holds p o → tables_of next ≡ tables_after t o) → IfSome pending (λ call. tables_of next ≡ after t call)
tables_finished t next None p holds tables = tt
tables_finished t next (Some call) p holds tables = tables (step t call) holds
