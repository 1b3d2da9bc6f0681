-- The rule of statements: for each node and each month from the first one, or that of joining, up to the one before the next to close, one statement, and no other; and each as it follows from the rows.
use Rattle.std.specs.Prelude.{ℕ, zero, suc, ◌-◌, Bool, false, ◌&&◌, ◌||◌, ◌==◌, not, nat_lt, nat_le, if◌then◌else◌, List, [], ◌∷◌, ◌++◌, Option, Some, None, is_none}
use Rattle.rows.specs.Rows.{row_at}
use Rattle.node_registry.specs.declared.node.Node.{Node}
use Rattle.node_registry.specs.Registry.{node_at}
use Rattle.tally_payout.specs.declared.amounts.Sums.{Sums}
use Rattle.tally_payout.specs.declared.amounts.Parts.{Parts}
use Rattle.tally_payout.specs.declared.amounts.Statement.{Statement}
use Rattle.tally_payout.specs.Ranks.{month_place, statement_rank}
use Rattle.node_registry.specs.Standing.{is_disqualified}
use Rattle.month_pay.specs.Ledger.{Ledger, has_joined, stated}

abbrev pub same_sums : Sums → Sums → Bool
same_sums a b = (a.get == b.get) && ((a.audit == b.audit) && ((a.repair == b.repair) && (a.byte_hours == b.byte_hours)))

abbrev pub same_parts : Parts → Parts → Bool
same_parts a b = (a.get == b.get) && ((a.audit == b.audit) && ((a.repair == b.repair) && ((a.storage == b.storage) && (a.gross == b.gross))))

unfoldable pub same_statement : Statement → Statement → Bool
same_statement a b =
    (a.node.0 == b.node.0) && ((a.month.0 == b.month.0) && ((a.age == b.age) && ((a.percent == b.percent)
    && (same_sums a.sums b.sums && (same_parts a.parts b.parts
    && ((a.held == b.held) && ((a.paid == b.paid) && ((a.returned == b.returned) && (a.pot == b.pot)))))))))

-- the statement follows from the rows, for a node that is known and has joined by then. Of a disqualified node all may be held back
unfoldable pub follows : Ledger → Statement → Option Node → Bool
follows l s None = false
follows l s (Some node) =
    has_joined s.month.0 node && ((not (s.percent == 100) || is_disqualified node.status) && same_statement s (stated l s.month.0 node (s.percent == 100)))

-- its month is closed
abbrev pub is_closed : Ledger → ℕ → Bool
is_closed l month = nat_le l.first month && nat_lt month l.next

abbrev pub is_sound_statement : Ledger → Statement → Bool
is_sound_statement l s = is_closed l s.month.0 && follows l s (node_at l.nodes s.node)

-- the places of the statements that break the rule, and of those past the cap
abbrev pub bad_statements : ℕ → Ledger → ℕ → List Statement → List ℕ
bad_statements cap l i [] = []
bad_statements cap l i (s ∷ rest) =
    if nat_le cap i || not (is_sound_statement l s) then statement_rank s ∷ bad_statements cap l (suc i) rest
    else bad_statements cap l (suc i) rest

-- the places of a month's statements that are missing
abbrev pub missing_in : List Statement → ℕ → List Node → List ℕ
missing_in rows month [] = []
missing_in rows month (node ∷ rest) =
    if has_joined month node && is_none (row_at statement_rank rows (month_place month node.id.0)) then month_place month node.id.0 ∷ missing_in rows month rest
    else missing_in rows month rest

-- those of n months
abbrev pub missing_from : List Statement → List Node → ℕ → ℕ → List ℕ
missing_from rows nodes zero month = []
missing_from rows nodes (suc n) month = missing_in rows month nodes ++ missing_from rows nodes n (suc month)

-- the places that break the rule; it is kept where there are none
unfoldable pub broken_places : ℕ → Ledger → List ℕ
broken_places cap l = bad_statements cap l 0 l.statements ++ missing_from l.statements l.nodes (l.next - l.first) l.first
