use Rattle.std.specs.Prelude.{◌≡◌, ℕ, ◌<◌, All, length, true, false, vec_len, slice_index_or}
use Rattle.futures.specs.Task.{IsArmed, Hears, Keeps}
use Rattle.futures.specs.Outputs.{EachResumes}
use Rattle.gather.specs.Gathered.{IsLive, IsDone, IsWaiting, MayGive, Waits}
use Rattle.gather.proofs.gather.advance_all.Given as goal

abbrev pub invariant-loop-at : goal.invariant-loop-at
invariant-loop-at g l =
    All (IsLive g.F.Future.can_poll) l.parts.items
    × EachResumes (MayGive g.F.Future.gives) l.initial.parts.items l.parts.items
    × (vec_len l.parts ≡ vec_len l.initial.parts)
    × Keeps l.initial.cx l.cx
    × (l.done ≡ true → (k : ℕ) (d : _) → k < l.at → IsDone (slice_index_or l.parts.items k d))
    × (l.done ≡ false → IsArmed l.cx × ((k : ℕ) × (k < l.at) × ((d : _) → IsWaiting (slice_index_or l.parts.items k d))))
    × ((k : ℕ) (d : _) (s : ℕ) → k < l.at → Waits g.F.Future.needs (slice_index_or l.parts.items k d) s → Hears l.cx s)
