-- An IPv4 address in text: four numbers from 0 to 255 in plain decimal, joined by dots.
use Rattle.std.specs.Prelude.{◌≡◌, ◌<◌, ◌++◌, codes, decimal, ℕ, ◌+◌, ◌*◌, List, length, slice_index, cond, not, ◌==◌, ◌||◌, Bool, Option, None, option_and_then, option_map}
use Rattle.sat_base.specs.Text.{cut_of, number_up_to}

-- no zero leads
abbrev pub is_plain : List ℕ → Bool
is_plain digits = (length digits == 1) || not (slice_index digits 0 == 48)

-- a number from 0 to 255 in plain decimal
abbrev pub octet_of : List ℕ → Option ℕ
octet_of digits = cond (is_plain digits) (number_up_to 255 digits) None

-- the address whose first numbers make `high`, and whose last is the text
abbrev pub last_of : ℕ → List ℕ → Option ℕ
last_of high text = option_map (λ n. high * 256 + n) (octet_of text)

abbrev pub joined : ℕ → List ℕ × List ℕ → Option (ℕ × List ℕ)
joined high parts = option_map (λ n. (n, parts.1)) (last_of high parts.0)

-- the numbers so far with the one before the next dot, and what stands behind the dot
abbrev pub next_of : ℕ × List ℕ → Option (ℕ × List ℕ)
next_of p = option_and_then (joined p.0) (cut_of 46 p.1)

-- the first number is the highest byte
abbrev pub address_of : List ℕ → Option ℕ
address_of text =
    option_and_then (λ (p : ℕ × List ℕ). last_of p.0 p.1)
    (option_and_then next_of (option_and_then next_of (next_of (0, text))))

-- the text is four numbers from 0 to 255 in plain decimal, joined by dots, and they are the bytes of the
-- address, from its highest on
pub record IsAddress (text : List ℕ) (n : ℕ) : Type 0 where
  pub first : ℕ
  pub second : ℕ
  pub third : ℕ
  pub fourth : ℕ
  pub small : (first < 256) × (second < 256) × (third < 256) × (fourth < 256)
  pub dotted : text ≡ decimal first ++ (codes "." ++ (decimal second ++ (codes "." ++ (decimal third ++ (codes "." ++ decimal fourth)))))
  pub value : n ≡ ((first * 256 + second) * 256 + third) * 256 + fourth
