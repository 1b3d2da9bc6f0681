-- What a term says of any one segment that the reader names by its bytes.
use Rattle.std.specs.Prelude.{◌≡◌, ◌⊎◌, ℕ, ◌+◌, List, map, Some, true, slice_get}
use Rattle.sat_base.specs.declared.nodes.Held.{Held}
use Rattle.sat_base.specs.declared.requests.Place.{Place}
use Rattle.sat_base.specs.declared.scheme.Scheme.{Scheme}
use Rattle.audit_core.specs.declared.verdict.Judged.{Judged}
use Rattle.repair_core.specs.declared.outcome.Mended.{Mended}
use Rattle.repair_core.specs.declared.outcome.RepairOutcome.TheVariants as repairs
use Rattle.repair_core.specs.declared.plan.RepairPlan.{RepairPlan}
use Rattle.machine_calls.specs.declared.call.Call.TheVariants as calls
use Rattle.machine_calls.specs.declared.task.Task.TheVariants as tasks
use Rattle.machine_step.specs.Step.{IsSchemeOf}
use Rattle.machine_step.specs.Tables.{Tables}
use Rattle.machine_plans.specs.Ends.{is_audit_ended, is_repair_ended, move_end, repair_end}
use Rattle.machine_plans.specs.Opened.{at_place}
use Rattle.named_segments.specs.Audits.{BlamesJust, IsAnsweredWell}
use Rattle.named_segments.specs.Named.{IsNamed}
use Rattle.node_rounds.specs.Asked.{IsRepaired}
use Rattle.node_rounds.specs.Keeps.{KeepsNamed}
use Rattle.node_rounds.specs.declared.kit.NodesView.{NodesView}
use Rattle.sat_book.specs.Book.{start_of}
use Rattle.sat_book.specs.Legal.{E, said_of}
use Rattle.sat_book.specs.declared.opening.Opening.{Opening}

module _ (start : Tables) (history : List E) where
  -- the tables at a place of the history
  abbrev pub tables_at : ℕ → Tables
  tables_at place = at_place start (map said_of history) place

  -- an audit that this entry ends, and that isn't superseded, blames exactly the shares that aren't the segment's, wherever r
  -- answered, at least k + 2, and at most (r - k) / 2 of them are such
  abbrev pub BlamesAltered : E → Type 0
  BlamesAltered e = (now : ℕ) (judged : Judged) (named : List ℕ) → e.call ≡ calls.Own now (tasks.EndAudit judged) → is_audit_ended e.reply ≡ true
      → IsNamed (tables_at e.place) judged.plan.segment.0 named → IsAnsweredWell judged named → BlamesJust judged named e.reply

  module _ (secret : List ℕ) (scheme : Scheme) where
    -- a repair, or the move of a piece, that this entry ends: its sources were asked and its targets were given the fresh pieces;
    -- and wherever its sources answered well on each stripe, the segment's bytes are kept
    pub record KeepsSegment (e : E) (mended : Mended) : Type 0 where
      pub plan : RepairPlan
      pub sources : List Place
      pub targets : List Place
      pub old : NodesView
      pub new : NodesView
      pub asked : IsRepaired secret scheme plan sources targets old (repairs.Mended mended) new
      pub keeps : (named : List ℕ) (before : List Held) → IsNamed (tables_at e.place) mended.plan.segment.0 named → old.held ≡ Some before
          → KeepsNamed (tables_at (e.place + 1)) secret mended sources named before new

    abbrev pub KeepsBytes : E → Type 0
    KeepsBytes e = (now : ℕ) (mended : Mended) → (e.call ≡ repair_end mended now) ⊎ (e.call ≡ move_end mended now) → is_repair_ended e.reply ≡ true
        → KeepsSegment e mended

-- each audit of the history, and each repair and move of the worker of this number
pub record SpeaksOfNamed (secret : List ℕ) (opening : Opening) (history : List E) (repairer : ℕ) : Type 0 where
  pub audits : (i : ℕ) (e : E) → slice_get history i ≡ Some e → BlamesAltered (start_of opening) history e
  pub repairs : (i : ℕ) (e : E) → slice_get history i ≡ Some e → e.pass ≡ repairer
      → (scheme : Scheme) × IsSchemeOf (start_of opening).setup scheme × KeepsBytes (start_of opening) history secret scheme e
