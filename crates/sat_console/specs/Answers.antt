-- The answers to the lines of `settle`, and their text.
use Rattle.std.specs.Prelude.{◌≡◌, ℕ, List, [], ◌∷◌, ◌++◌, Option, Some, None, Result, Ok, Err, codes, option_map}
use Rattle.settlement.specs.declared.row.SettledRow.{SettledRow}
use Rattle.settlement.specs.declared.answer.Settlable.{Settlable}
use Rattle.settlement.specs.declared.answer.Settling.{Settling}
use Rattle.settlement.specs.declared.answer.Settling.TheVariants as did
use Rattle.settlement.specs.declared.answer.SettleErr.{SettleErr}
use Rattle.settlement.specs.declared.answer.SettleErr.TheVariants as no
use Rattle.settlement.specs.Settle.{settlable, settled_as, rows_after}
use Rattle.sat_console.specs.Form.{Asked, asked_of}
use Rattle.sat_console.specs.Lines.{lines_of}
use Rattle.sat_console.specs.Words.{numbered}

-- what settling answers, or None for a line that hasn't the form
abbrev pub Answer : Type 0
Answer = Option (Result Settling SettleErr)

-- ---- the fold over the lines

abbrev pub settlable_of : List ℕ → ℕ → List SettledRow → Option Asked → Option (Result Settlable SettleErr)
settlable_of secret cap rows None = None
settlable_of secret cap rows (Some a) = Some (settlable rows cap secret a.node a.moment a.order)

abbrev pub rows_behind : List SettledRow → Option (Result Settlable SettleErr) → List SettledRow
rows_behind rows None = rows
rows_behind rows (Some r) = rows_after r rows

-- a line, beside the rows of those before it
unfoldable pub line_settlable : List ℕ → ℕ → List SettledRow → List ℕ → Option (Result Settlable SettleErr)
line_settlable secret cap rows line = settlable_of secret cap rows (asked_of line)

-- the answers to lines, from rows on
abbrev pub answers_from : List ℕ → ℕ → List SettledRow → List (List ℕ) → List Answer
answers_from secret cap rows [] = []
answers_from secret cap rows (line ∷ lines) =
    option_map settled_as (line_settlable secret cap rows line)
    ∷ answers_from secret cap (rows_behind rows (line_settlable secret cap rows line)) lines

-- the answers to all lines: no row stands before the first
abbrev pub answers_to : List ℕ → ℕ → List (List ℕ) → List Answer
answers_to secret cap lines = answers_from secret cap [] lines

-- ---- the text

unfoldable pub settled_text : Result Settling SettleErr → List ℕ
settled_text (Ok (did.Settled amount)) = numbered (codes "settled ") amount
settled_text (Ok (did.Again amount)) = numbered (codes "again ") amount
settled_text (Err (no.Length got)) = numbered (codes "length ") got
settled_text (Err (no.Version got)) = numbered (codes "version ") got
settled_text (Err (no.Action got)) = numbered (codes "action ") got
settled_text (Err no.LimitTag) = codes "limit-tag"
settled_text (Err no.OrderTag) = codes "order-tag"
settled_text (Err (no.OtherNode node)) = numbered (codes "other-node ") node.0
settled_text (Err (no.Differs kept)) = numbered (codes "differs ") kept
settled_text (Err (no.Late until)) = numbered (codes "late ") until
settled_text (Err (no.OverLimit limit)) = numbered (codes "over-limit ") limit
settled_text (Err (no.SettledFull cap)) = numbered (codes "settled-full ") cap
settled_text (Err no.NoMemory) = []

-- one line for each answer, with its LF
unfoldable pub answer_text : Answer → List ℕ
answer_text None = codes "bad-line\n"
answer_text (Some r) = settled_text r ++ 10 ∷ []

abbrev pub text_of : List Answer → List ℕ
text_of [] = []
text_of (a ∷ answers) = answer_text a ++ text_of answers

-- what `settle` writes for an input
abbrev pub settle_text : List ℕ → ℕ → List ℕ → List ℕ
settle_text secret cap input = text_of (answers_to secret cap (lines_of input))

abbrev pub IsSettleText : List ℕ → ℕ → List ℕ → List ℕ → Type 0
IsSettleText secret cap input text = text ≡ settle_text secret cap input
