-- What a call's changes are to meet, and what is known of the tables that they are made in.
use Rattle.std.proofs.Common.{◌≡◌, ℕ, ◌<◌, ◌≤◌, ◌^◌, true, List, [], ◌∷◌, Option, Some, None, is_some, refl, sym, ap, subst, ◌∙◌, arith}
use Rattle.std.specs.Prelude.{nat_lt}
use Rattle.std.proofs.lemmas.Bool.Decides.{nat_tests}
use Rattle.sat_base.specs.declared.ids.NodeId.{NodeId}
use Rattle.sat_base.specs.declared.ids.CustomerId.{CustomerId}
use Rattle.sat_base.specs.declared.ids.SegId.{SegId}
use Rattle.node_registry.specs.declared.node.Node.{Node}
use Rattle.node_registry.specs.Registry.{node_at}
use Rattle.segment_core.specs.Record.{SegmentRecord, segment_rank}
use Rattle.placement.proofs.Picks.{Got}
use Rattle.machine_calls.specs.declared.reply.Reply.{Reply}
use Rattle.month_pay.specs.Ledger.{Ledger}
use Rattle.month_pay.specs.Keeping.{SamePay}
use Rattle.month_pay.proofs.Steps.{same_self}
use Rattle.machine_step.specs.Tables.{Tables, ledger_of, segment_at, if_owned, owned_at, changed, all_changed}
use Rattle.machine_step.specs.Writable.{IsWritable}
use Rattle.machine_step.specs.Outcome.{Outcome, unchanged}
use Rattle.machine_step.specs.Rules.{is_known}
use Rattle.machine_step.specs.Bounds.{Each, IsSegmentWithin, IsValid}
use Rattle.machine_step.proofs.PickLemmas.{AreFound}
use Rattle.machine_step.proofs.GrowthLemmas.{plan-most, segment-most, serial-most, found-got, IsFine}
use Rattle.machine_step.proofs.RowLemmas.{rank-found, each-found}
use Rattle.sat_base.specs.declared.records.Key.TheVariants as keys
use Rattle.machine_calls.specs.declared.change.RecChange.{RecChange}
use Rattle.machine_calls.specs.declared.change.RecChange.TheVariants as changes
use Rattle.machine_step.specs.Plans.{timed}
use Rattle.machine_step.proofs.Steady.{MarksFit, FitsIn, AllFit, grows_self}
use Rattle.machine_step.proofs.MarkLemmas.{month-open, hour-most}
use Rattle.machine_step.proofs.Changes.{found_fine}
use Rattle.machine_step.proofs.Becoming.{Becomes, all_become}
use Rattle.machine_step.proofs.Paid.{IsPaid, paid_same}
use Rattle.machine_step.proofs.Validity.{steady_of}

-- what a step makes of the tables, before it is swept
pub record After (t : Tables) (o : Outcome) : Type 0 where
  pub becomes : Becomes t.marks.segment t (all_changed t o.changes)
  pub paid : IsPaid t (all_changed t o.changes)
  pub written : Each IsWritable o.changes

-- what fits is what a store can be told
fits_writable : (from : ℕ) (t : Tables) (change : RecChange) → FitsIn from t change → IsWritable change
fits_writable from t (changes.Settings settings) fit = fit
fits_writable from t (changes.Segment segment) fit = fit.within.few
fits_writable from t (changes.AuditPlan plan) fit = fit.within.few
fits_writable from t (changes.RepairPlan plan) fit = (fit.within.sources.few, fit.within.targets.few)
fits_writable from t (changes.Kept kept) fit = fit.within
fits_writable from t (changes.ExitPlan exit) fit = (fit.within.sources.few, fit.within.targets.few)
fits_writable from t (changes.Remove (keys.Segment id)) fit = tt
fits_writable from t (changes.Remove (keys.Plan kind)) fit = fit
fits_writable from t (changes.Remove (keys.Containment node)) fit = tt
fits_writable from t _ fit = tt

all_writable : (from : ℕ) (t : Tables) (cs : List RecChange) → AllFit from t cs → Each IsWritable cs
all_writable from t [] fit = tt
all_writable from t (change ∷ cs) fit = (fits_writable from t change fit.0, all_writable from (changed t change) cs fit.1)

module _ (t : Tables) (v : IsValid t) where
  pub still : (answer : Reply) → After t (unchanged answer)
  still answer = record { becomes = record { steady = steady_of t v; grows = grows_self t.marks.segment t }; paid = paid_same t v t (same_self (ledger_of t)); written = tt }

  pub fitting_paid : (o : Outcome) → IsPaid t (all_changed t o.changes) → AllFit t.marks.segment t o.changes → After t o
  fitting_paid o paid fit = record { becomes = all_become t.marks.segment o.changes t (steady_of t v) fit; paid = paid; written = all_writable t.marks.segment t o.changes fit }

  -- changes that fit, and leave what the closed months were paid by
  pub fitting : (o : Outcome) → SamePay (ledger_of t) (ledger_of (all_changed t o.changes)) → AllFit t.marks.segment t o.changes → After t o
  fitting o pay fit = fitting_paid o (paid_same t v (all_changed t o.changes) pay) fit

  -- and those that change no record that pay goes by
  pub fitting_apart : (o : Outcome) → ledger_of (all_changed t o.changes) ≡ ledger_of t → AllFit t.marks.segment t o.changes → After t o
  fitting_apart o same fit = fitting o (subst (λ (l : Ledger). SamePay (ledger_of t) l) (sym same) (same_self (ledger_of t))) fit

  pub fine_found : (id : ℕ) (found : SegmentRecord) → segment_at t.segments id ≡ Some found → IsFine t.setup t.marks t.nodes t.customers found
  fine_found id found at = found_fine t.marks.segment t (steady_of t v) id found at

  pub within_found : (id : ℕ) (found : SegmentRecord) → segment_at t.segments id ≡ Some found → IsSegmentWithin found
  within_found id found at = each-found segment_rank IsSegmentWithin t.segments id found v.bounds.segments at

  -- the number of a segment that is found was drawn
  pub found_below : (id : ℕ) (found : SegmentRecord) → segment_at t.segments id ≡ Some found → nat_lt id t.marks.segment ≡ true
  found_below id found at =
      let same : found.id.0 ≡ id = rank-found segment_rank t.segments id found at in
      ap (λ (k : ℕ). nat_lt k t.marks.segment) (sym same) ∙ (fine_found id found at).below

  pub node_known : (id : NodeId) (node : Node) → node_at t.nodes id ≡ Some node → is_known t.nodes id ≡ true
  node_known id node at = ap is_some at

  -- a pick is found by its id
  pub picks_found : (picks : List Node) → Each (Got t.nodes) picks → AreFound t.nodes picks
  picks_found [] each = tt
  picks_found (node ∷ picks) each = (found-got t.setup t.marks t.nodes 0 each.0.0 node v.rules.nodes each.0.1, picks_found picks each.1)

  -- the customer's segment is the one of that id
  pub owned_found : (customer : CustomerId) (id : SegId) (found : SegmentRecord) → owned_at t.segments customer id ≡ Some found → segment_at t.segments id.0 ≡ Some found
  owned_found customer id found at = go (segment_at t.segments id.0) at
    where
      go : (o : Option SegmentRecord) → if_owned customer o ≡ Some found → o ≡ Some found
      go None is = cc
      go (Some s) is = grind (arith, nat_tests, is)

module _ (t : Tables) (v : IsValid t) (time : ℕ) (le : t.marks.time ≤ time) (lt : time < 2 ^ 36) where
  pub timed_fit : MarksFit t.marks (timed t.marks time)
  timed_fit = record {
    later = record { time = le; segment = omega arith; serial = omega arith; plan = omega arith; month = omega arith; hour = omega arith };
    time = lt;
    begun = month-open t.setup t.marks time le v.rules.marks;
    hour = hour-most t.setup t.marks time le v.rules.marks;
    segment = segment-most t.setup t.marks v.rules.marks;
    serial = serial-most t.setup t.marks v.rules.marks;
    plan = plan-most t.setup t.marks v.rules.marks;
  }
