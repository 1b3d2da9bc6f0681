use Rattle.std.specs.Prelude.{ℕ}
use Rattle.turnstile.specs.declared.entry.Entry.{Entry}

abbrev pub entry_of : {C A : Type 0} → ℕ → ℕ → C → A → Entry C A
entry_of place pass call reply = record { place = place; pass = pass; call = call; reply = reply }
