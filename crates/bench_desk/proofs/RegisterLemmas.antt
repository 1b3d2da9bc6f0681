-- One more call of a register.
use Rattle.std.proofs.Common.{◌≡◌, ℕ, ◌+◌, ◌%◌, ◌^◌, List, [], ◌∷◌, ◌++◌, true, refl, arith}
use Rattle.std.proofs.lemmas.Grind.{common_steps}
use Rattle.turnstile.specs.declared.entry.Entry.{Entry}
use Rattle.bench_desk.specs.Register.{after, replays}

pub after-snoc : (s : ℕ) (es : List (Entry ℕ ℕ)) (e : Entry ℕ ℕ) → after s (es ++ e ∷ []) ≡ (after s es + e.call) % 2 ^ 64
after-snoc s [] e = refl
after-snoc s (x ∷ es) e = after-snoc ((s + x.call) % 2 ^ 64) es e

pub replays-snoc : (s : ℕ) (es : List (Entry ℕ ℕ)) (e : Entry ℕ ℕ) → replays s es ≡ true → e.reply ≡ after s es → replays s (es ++ e ∷ []) ≡ true
replays-snoc s [] e h r = grind (arith, common_steps)
replays-snoc s (x ∷ es) e h r = grind (arith, common_steps, replays-snoc ((s + x.call) % 2 ^ 64) es e)
