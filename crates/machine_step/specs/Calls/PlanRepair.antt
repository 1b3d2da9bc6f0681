-- A repair is planned: of the segment with the fewest healthy pieces among those that need it.
use Rattle.std.specs.Prelude.{ℕ, ◌-◌, ◌*◌, ◌/◌, ◌==◌, ◌&&◌, Bool, not, if◌then◌else◌, nat_le, nat_lt, min, List, [], ◌∷◌, length, map, filter, Option, Some, None}
use Rattle.std.specs.List.{list_any, range_with_len}
use Rattle.sat_base.specs.declared.ids.NodeId.{NodeId}
use Rattle.sat_base.specs.declared.records.At.{At}
use Rattle.segment_core.specs.Record.{SegmentRecord}
use Rattle.placement.specs.Eligible.{Terms, terms, subnet_count}
use Rattle.placement.specs.Placed.{id_of}
use Rattle.repair_core.specs.declared.plan.RepairPlan.{RepairPlan}
use Rattle.machine_calls.specs.declared.change.RecChange.TheVariants as changes
use Rattle.machine_calls.specs.declared.reply.Reply.TheVariants as replies
use Rattle.machine_calls.specs.declared.refusal.Refusal.TheVariants as refusals
use Rattle.machine_calls.specs.declared.refusal.TableName.TheVariants as names
use Rattle.machine_step.specs.Tables.{Tables}
use Rattle.machine_step.specs.Outcome.{Outcome, accepted, unless, with_record}
use Rattle.machine_step.specs.Places.{picks_of, places_of, subnets_of}
use Rattle.machine_step.specs.Containment.{is_live}
use Rattle.machine_step.specs.Health.{healthy_of, healthy_count}
use Rattle.machine_step.specs.Plans.{drawn, has_no_plan}
use Rattle.machine_step.specs.Calls.Begin.{piece_len_of}

-- a live segment needs repair where its healthy pieces are enough to rebuild it, and fewer than they should be
abbrev pub needs_repair : Tables → SegmentRecord → Bool
needs_repair t segment = is_live segment && (nat_le t.setup.k (healthy_count t segment) && nat_lt (healthy_count t segment) t.setup.m)

-- the first row with the least number
abbrev pub lesser : {R : Type 0} → (R → ℕ) → R → Option R → R
lesser number row None = row
lesser number row (Some other) = if nat_le (number row) (number other) then row else other

abbrev pub least_by : {R : Type 0} → (R → ℕ) → List R → Option R
least_by number [] = None
least_by number (row ∷ rest) = Some (lesser number row (least_by number rest))

-- the segment to repair
abbrev pub to_repair : Tables → Option SegmentRecord
to_repair t = least_by (healthy_count t) (filter (needs_repair t) t.segments)

-- where fresh pieces may go: not into the subnets of the sources
abbrev pub terms_beside : Tables → List At → ℕ → List ℕ → Terms
terms_beside t sources len words = terms t.nodes t.setup.vet (subnets_of t.nodes sources) (piece_len_of t.setup len) words

-- the indexes below n that no source has
abbrev pub has_index : List At → ℕ → Bool
has_index pieces index = list_any (λ piece. piece.index == index) pieces

abbrev pub free_indexes : ℕ → List At → List ℕ
free_indexes n sources = filter (λ index. not (has_index sources index)) (range_with_len 0 n)

-- the indexes and the nodes in pairs, in order
abbrev pub paired : List ℕ → List NodeId → List At
paired [] nodes = []
paired (index ∷ rest) [] = []
paired (index ∷ rest) (node ∷ nodes) = record { index = index; node = node } ∷ paired rest nodes

-- as many targets as wanted
abbrev pub targets_for : Tables → List At → ℕ → List ℕ → ℕ → List At
targets_for t sources len words need =
    paired (free_indexes t.setup.n sources) (map id_of (picks_of (terms_beside t sources len words) need (need * t.setup.fresh / 100)))

-- a repair from these sources to these targets
abbrev pub repair_of : Tables → ℕ → SegmentRecord → List At → List At → RepairPlan
repair_of t time segment sources targets = record {
  plan = t.marks.plan;
  segment = segment.id;
  version = segment.version;
  serial = record { 0 = t.marks.serial };
  issued = time;
  len = segment.len;
  sources = sources;
  targets = targets;
}

abbrev pub repair_planned : Tables → ℕ → RepairPlan → Outcome
repair_planned t time plan =
    accepted (drawn t.marks time) (changes.RepairPlan plan ∷ [])
    (replies.RepairPlanned plan (places_of t.nodes plan.sources) (places_of t.nodes plan.targets))

-- how many places are wanted, and can be had
abbrev pub repair_counted : Tables → ℕ → List ℕ → SegmentRecord → List At → ℕ → Outcome
repair_counted t time words segment sources need =
    unless (need == 0) (refusals.Few 0) (repair_planned t time (repair_of t time segment sources (targets_for t sources segment.len words need)))

abbrev pub repair_from : Tables → ℕ → List ℕ → SegmentRecord → List At → Outcome
repair_from t time words segment sources =
    unless (has_no_plan t.marks) (refusals.TableFull names.Numbers)
    (repair_counted t time words segment sources (min (t.setup.o - length sources) (subnet_count (terms_beside t sources segment.len words))))

abbrev pub plan_repair : Tables → ℕ → List ℕ → Outcome
plan_repair t time words =
    with_record (to_repair t) refusals.NothingToRepair (λ segment. repair_from t time words segment (healthy_of t segment))
