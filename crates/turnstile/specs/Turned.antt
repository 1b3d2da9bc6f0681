-- What became of a call.
use Rattle.std.specs.Prelude.{ℕ}
use Rattle.turnstile.specs.Known.{Known}
use Rattle.turnstile.specs.declared.desk.Turned.{Turned}
use Rattle.turnstile.specs.declared.desk.Turned.TheVariants.{Done, TermFull}

module _ {C A B R : Type 0} where
  abbrev pub IfDone : Turned C A B R → (Known C A B → R → Type 0) → Type 0
  IfDone (Done after answer) P = P after answer
  IfDone (TermFull after ticket) P = Unit {0}

  abbrev pub IfTermFull : Turned C A B R → (Known C A B → ℕ → Type 0) → Type 0
  IfTermFull (Done after answer) P = Unit {0}
  IfTermFull (TermFull after ticket) P = P after ticket
