-- The rule of statements in one pass: the statements that are due, in order, beside those that are there.
use Rattle.std.specs.Prelude.{ℕ, zero, suc, Bool, ◌||◌, ◌==◌, not, nat_lt, nat_le, if◌then◌else◌, List, [], ◌∷◌, ◌++◌, Option, Some, None}
use Rattle.node_registry.specs.declared.node.Node.{Node}
use Rattle.tally_payout.specs.declared.amounts.Statement.{Statement}
use Rattle.tally_payout.specs.Ranks.{month_place, statement_rank}
use Rattle.month_pay.specs.Ledger.{Ledger, has_joined}
use Rattle.month_pay.specs.Rule.{is_sound_statement}

-- the places of a month's statements, in the order of the nodes
abbrev pub due_in : ℕ → List Node → List ℕ
due_in month [] = []
due_in month (node ∷ rest) = if has_joined month node then month_place month node.id.0 ∷ due_in month rest else due_in month rest

-- of n months
abbrev pub due_from : List Node → ℕ → ℕ → List ℕ
due_from nodes zero month = []
due_from nodes (suc n) month = due_in month nodes ++ due_from nodes n (suc month)

-- a statement at place i, which is below the cap and follows from the rows
abbrev pub is_good : ℕ → Ledger → ℕ → Statement → Bool
is_good cap l i s = not (nat_le cap i || not (is_sound_statement l s))

-- the first of them that isn't as it is due, or is missing
abbrev pub walk : (ℕ → Statement → Bool) → ℕ → List ℕ → List Statement → Option ℕ
walk good i [] [] = None
walk good i [] (s ∷ rest) = Some (statement_rank s)
walk good i (k ∷ keys) [] = Some k
walk good i (k ∷ keys) (s ∷ rest) =
    if statement_rank s == k then (if good i s then walk good (suc i) keys rest else Some k)
    else (if nat_lt (statement_rank s) k then Some (statement_rank s) else Some k)
