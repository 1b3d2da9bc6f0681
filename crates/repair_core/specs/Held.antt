-- What a rebuilding in windows keeps between them.
use Rattle.std.specs.Prelude.{◌≡◌, ◌*◌, ◌<◌, length, map, All}
use Rattle.repair_core.specs.Room.{IsRoom, IsMade, IsEncoder, cut_short, marked_of}
use Rattle.repair_core.specs.Progress.{Progress}
use Rattle.repair_core.specs.declared.rebuilder.Rebuilder.TheInside.{Inside}

-- the value, whose blamed are the marked sources, and whose pieces are as far as they are written
abbrev pub progress_of : Inside → Progress
progress_of held = record {
  k = held.k;
  size = held.size;
  n = held.n;
  window = held.window;
  count = held.made.whole;
  sources = held.sources.items;
  done = held.made.done;
  blamed = marked_of held.made.marks.items held.sources.items;
  fresh = map (cut_short (held.made.done * held.size)) held.made.fresh.items;
}

-- there is room for as many answers as there may be, and the parts fit each other
pub record IsHeld (held : Inside) : Type 0 where
  pub room : IsRoom held.k held.size held.room.answers.items held.room.spares.items held.room.stripe.items
  pub places : length held.room.answers.items ≡ held.n
  pub made : IsMade held.size held.n held.made.whole held.made.done held.made.marks.items held.made.fresh.items
  pub encoder : IsEncoder held.k held.size held.made.fresh.items held.made.encoder
  pub below : All (λ index. index < held.n) held.sources.items
