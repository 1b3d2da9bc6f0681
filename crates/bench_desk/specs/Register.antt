-- The history of a register: each reply is what it held, the sum of the numbers added before.
use Rattle.std.specs.Prelude.{ℕ, ◌+◌, ◌%◌, ◌^◌, List, [], ◌∷◌, Bool, true, ◌==◌, ◌&&◌}
use Rattle.turnstile.specs.declared.entry.Entry.{Entry}

abbrev pub after : ℕ → List (Entry ℕ ℕ) → ℕ
after start [] = start
after start (e ∷ es) = after ((start + e.call) % 2 ^ 64) es

abbrev pub replays : ℕ → List (Entry ℕ ℕ) → Bool
replays start [] = true
replays start (e ∷ es) = (e.reply == start) && replays ((start + e.call) % 2 ^ 64) es
