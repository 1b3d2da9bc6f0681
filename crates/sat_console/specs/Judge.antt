-- The lines of `judge`, the shares that they are, and the line that a verdict is.
use Rattle.std.specs.Prelude.{◌≡◌, ℕ, ◌+◌, List, [], ◌∷◌, ◌++◌, length, Option, Some, None, Result, Ok, Err, codes, nat_le, if◌then◌else◌}
use Rattle.hex.specs.Hex.{decode_of}
use Rattle.hex.specs.declared.FromHexError.{FromHexError}
use Rattle.sat_base.specs.declared.items.Share.{Share}
use Rattle.audit_core.specs.declared.verdict.Verdict.{Verdict}
use Rattle.audit_core.specs.declared.verdict.Verdict.TheVariants.{Clear, Unclear}
use Rattle.audit_core.specs.Verdict.{IsVerdict}
use Rattle.sat_console.specs.Lines.{lines_of}
use Rattle.sat_base.specs.Text.{cut_of, number_up_to}
use Rattle.sat_console.specs.Form.{space}
use Rattle.sat_console.specs.Words.{numbered}

-- ---- a line: INDEX HEX, with a single space between

-- an index is below 128, and a share has at least one byte
abbrev pub share_parts : Option ℕ → Result (List ℕ) FromHexError → Option Share
share_parts (Some index) (Ok (byte ∷ bytes)) = Some (record { index = index; bytes = byte ∷ bytes })
share_parts _ _ = None

abbrev pub share_in : Option (List ℕ × List ℕ) → Option Share
share_in None = None
share_in (Some p) = share_parts (number_up_to 127 p.0) (decode_of p.1)

-- the share that the line is, where it has the form
unfoldable pub share_line : List ℕ → Option Share
share_line line = share_in (cut_of space line)

-- ---- the lines

-- the share of the line of this number, where its index isn't below the least one that rises
abbrev pub rising_share : ℕ → ℕ → Option Share → Result Share ℕ
rising_share least number None = Err number
rising_share least number (Some share) = if nat_le least share.index then Ok share else Err number

abbrev pub before : Share → Result (List Share) ℕ → Result (List Share) ℕ
before share (Ok shares) = Ok (share ∷ shares)
before share (Err number) = Err number

abbrev pub with_rest : Result Share ℕ → (Share → Result (List Share) ℕ) → Result (List Share) ℕ
with_rest (Ok share) rest = before share (rest share)
with_rest (Err number) rest = Err number

-- the shares of lines that are numbered from here on,
-- or the number of the first that has another form or whose index doesn't rise
abbrev pub shares_from : ℕ → ℕ → List (List ℕ) → Result (List Share) ℕ
shares_from least number [] = Ok []
shares_from least number (line ∷ lines) =
    with_rest (rising_share least number (share_line line)) (λ share. shares_from (share.index + 1) (number + 1) lines)

abbrev pub shares_of : List ℕ → Result (List Share) ℕ
shares_of input = shares_from 0 1 (lines_of input)

-- ---- the text

abbrev pub indexes_text : List ℕ → List ℕ
indexes_text [] = []
indexes_text (index ∷ indexes) = numbered (codes " ") index ++ indexes_text indexes

abbrev pub blamed_text : List ℕ → List ℕ
blamed_text [] = codes " none"
blamed_text (index ∷ indexes) = indexes_text (index ∷ indexes)

-- the line of a verdict on so many answers
abbrev pub verdict_text : ℕ → Verdict → List ℕ
verdict_text answers (Clear blamed) = codes "blamed" ++ blamed_text blamed ++ 10 ∷ []
verdict_text answers Unclear = numbered (codes "unclear ") answers ++ 10 ∷ []

-- what `judge` writes for an input under a scheme of k and shares of so many bytes
pub record Judges (k size : ℕ) (input text : List ℕ) : Type 0 where
  pub shares : List Share
  pub are : shares_of input ≡ Ok shares
  pub verdict : Verdict
  pub is : IsVerdict k size shares [] verdict
  pub line : text ≡ verdict_text (length shares) verdict

-- the line that names a line which isn't taken
abbrev pub refused_line : ℕ → List ℕ
refused_line number = numbered (codes "error: refused bad-line ") number ++ 10 ∷ []

-- what it writes where it takes the input for none
abbrev pub RefusesLine : List ℕ → List ℕ → Type 0
RefusesLine input line = (number : ℕ) × (shares_of input ≡ Err number) × (line ≡ refused_line number)
