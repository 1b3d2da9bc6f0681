-- A history whose last shown count of faults is none has no fault in it.
use Rattle.std.proofs.Common.{◌≡◌, ℕ, zero, suc, ◌<◌, ◌≤◌, false, List, [], ◌∷◌, length, refl, arith}
use Rattle.std.specs.Prelude.{slice_index_or}
use Rattle.machine_calls.specs.declared.call.Call.{Call}
use Rattle.machine_calls.specs.declared.reply.Reply.{Reply}
use Rattle.machine_calls.specs.declared.reply.Reply.TheVariants as replies
use Rattle.machine_step.specs.Tables.{Tables}
use Rattle.machine_history.specs.History.{taken}
use Rattle.sat_book.specs.Legal.{E, AreFaults, IsFault, last_shown, said_of, shown}
use Rattle.sat_drill.specs.Drill.{NeverFails, is_fault}

-- a fault shows a count above none
no_fault : (t : Tables) (last : ℕ) (call : Call) (reply : Reply) → IsFault t last call reply → shown last reply ≤ 0 → (is_fault reply ≡ false) × (last ≤ 0)
no_fault t last call (replies.StoreFault before after) fault small = absurd (omega (arith, fault.1))
no_fault t last call _ fault small = (refl, small)

one_more : (e : E) (rest : List E) → is_fault e.reply ≡ false → ((k : ℕ) (d : E) → k < length rest → is_fault (slice_index_or rest k d).reply ≡ false)
    → (k : ℕ) (d : E) → k < length (e ∷ rest) → is_fault (slice_index_or (e ∷ rest) k d).reply ≡ false
one_more e rest here later zero d lt = here
one_more e rest here later (suc k) d lt = later k d (omega arith)

pub never_fails : (t : Tables) (last : ℕ) (history : List E) → AreFaults t last history → last_shown last history ≤ 0 → NeverFails history × (last ≤ 0)
never_fails t last [] faults small = ((λ k d lt. absurd (omega arith)), small)
never_fails t last (e ∷ rest) faults small =
    let later = never_fails (taken t (said_of e)) (shown last e.reply) rest faults.1 small in
    let here = no_fault t last e.call e.reply faults.0 later.1 in
    (one_more e rest here.0 later.0, here.1)
