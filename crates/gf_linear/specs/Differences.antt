use Rattle.std.specs.Prelude.{ℕ, zero, suc, ◌+◌, cond, eqb}

-- at how many of the places below n f and g differ
abbrev pub differences : ℕ → (ℕ → ℕ) → (ℕ → ℕ) → ℕ
differences zero f g = 0
differences (suc n) f g = differences n f g + cond (eqb (f n) (g n)) 0 1
