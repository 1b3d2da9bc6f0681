-- A customer is told where the healthy pieces of its live segment lie.
use Rattle.std.specs.Prelude.{◌+◌, [], length, ◌==◌, nat_lt, nat_le}
use Rattle.sat_base.specs.declared.limits.TheConstants as limits
use Rattle.sat_base.specs.declared.ids.SegId.{SegId}
use Rattle.sat_base.specs.declared.requests.Asked.TheVariants as asks
use Rattle.sat_base.specs.declared.requests.Done.TheVariants as dones
use Rattle.segment_core.specs.Record.{SegmentRecord}
use Rattle.machine_calls.specs.declared.asking.Asking.{Asking}
use Rattle.machine_calls.specs.declared.refusal.Refusal.TheVariants as refusals
use Rattle.machine_calls.specs.declared.refusal.TableName.TheVariants as names
use Rattle.machine_step.specs.Tables.{Tables, owned_at}
use Rattle.machine_step.specs.Outcome.{Outcome, unless, with_record, of_customer, done_with}
use Rattle.machine_step.specs.Places.{places_of}
use Rattle.machine_step.specs.Health.{healthy_of}
use Rattle.machine_step.specs.Calls.Begin.{piece_len_of}

-- an offer of the healthy pieces
abbrev pub offered : Tables → Asking → SegId → SegmentRecord → Outcome
offered t asking segment found =
    done_with (record t.marks { time = asking.time; serial = t.marks.serial + 1 }) []
    asking (asks.Get segment)
    (dones.Offer (record {
      customer = asking.caller;
      segment = segment;
      serial = record { 0 = t.marks.serial };
      action = 2;
      piece_len = piece_len_of t.setup found.len;
      issued = asking.time;
      places = places_of t.nodes (healthy_of t found);
    }))

abbrev pub get : Tables → Asking → SegId → Outcome
get t asking segment =
    of_customer t asking (asks.Get segment)
    (with_record (owned_at t.segments asking.caller segment) (refusals.NoSegment segment) (λ found.
    unless (found.version == 0) (refusals.NoSegment segment)
    (unless (nat_lt (length (healthy_of t found)) t.setup.k) (refusals.TooFew (length (healthy_of t found)) t.setup.k)
    (unless (nat_le limits.LAST_NUMBER t.marks.serial) (refusals.TableFull names.Numbers)
    (offered t asking segment found)))))
