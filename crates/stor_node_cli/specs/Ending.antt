-- How a storage node ends: the status, and what the console says of it.
use Rattle.std.specs.Prelude.{◌≡◌, ◌⊎◌, ℕ, List}
use Rattle.sat_base.specs.Outside.{About}
use Rattle.order_uses.specs.declared.opening.UsesErr.{UsesErr}
use Rattle.order_uses.specs.declared.opening.UsesErr.TheVariants as errs
use Rattle.sat_console.specs.Run.{Says, fault_line}
use Rattle.sat_console.specs.Words.{store_text}
use Rattle.stor_serve.specs.declared.lane.NodeEnd.{NodeEnd}
use Rattle.stor_serve.specs.declared.lane.NodeEnd.TheVariants as ends

abbrev pub SaysFault : ℕ → ℕ → About → About → Type 0
SaysFault fault status old new = (status ≡ fault) × Says (fault_line fault) old new

-- which row is none of an order's use is said, or that memory runs out
abbrev pub SaysBadRow : ℕ → List ℕ → ℕ → About → About → Type 0
SaysBadRow kind id status old new = ((status ≡ 4) × Says (store_text 0 kind id) old new) ⊎ SaysFault 9 status old new

-- why the orders weren't opened is said
abbrev pub SaysWhy : UsesErr → ℕ → About → About → Type 0
SaysWhy errs.Fault status old new = SaysFault 3 status old new
SaysWhy (errs.BadRow kind id) status old new = SaysBadRow kind id status old new
SaysWhy errs.NoMemory status old new = SaysFault 9 status old new

-- why there are no more links is said, but where none will come any more
abbrev pub SaysEnd : NodeEnd → ℕ → About → About → Type 0
SaysEnd ends.Over status old new = (status ≡ 0) × (new ≡ old)
SaysEnd ends.Failed status old new = SaysFault 7 status old new
SaysEnd ends.NoMemory status old new = SaysFault 9 status old new
