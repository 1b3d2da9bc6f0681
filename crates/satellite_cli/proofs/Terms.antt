-- A term of `serve`, put together.
use Rattle.std.proofs.Common.{◌≡◌, ℕ, ◌≤◌, List, map, length, Option, Some, None, subst, sym, inl, inr}
use Rattle.std.specs.Prelude.{◌⊎◌, IfSome}
use Rattle.sat_base.specs.Keeper.{KeeperView}
use Rattle.sat_base.specs.Outside.{About}
use Rattle.machine_history.specs.Orders.{SettleOnce}
use Rattle.sat_book.specs.Book.{BookView, Keeps, Spell, start_of}
use Rattle.sat_book.specs.Legal.{E, last_shown, said_of}
use Rattle.sat_book.specs.Openings.{Opens}
use Rattle.sat_book.specs.Paid.{ClosedMonthsStay, PaysByTariff}
use Rattle.sat_book.specs.declared.opening.Opening.{Opening}
use Rattle.sat_console.specs.Run.{Says}
use Rattle.sat_term.specs.Term.{TermClauses}
use Rattle.sat_term.specs.declared.term.Ends.{Ends}
use Rattle.sat_term.specs.declared.term.Term.{Term}
use Rattle.node_rounds.specs.Kits.{Tells}
use Rattle.node_rounds.specs.Tally.{TallyTells}
use Rattle.node_rounds.specs.declared.upkeep.Upkeep.TheVariants as kinds
use Rattle.satellite_cli.specs.Ending.{Finishes, flags_of}
use Rattle.satellite_cli.specs.Serving.{IsIdle, IsTerm, Stands, DevicesView}
use Rattle.satellite_cli.proofs.Ends.{causes_of}
use Rattle.satellite_cli.proofs.Named.{speaks_of_named}

pub says_from : (line : List ℕ) (a b new : About) → a ≡ b → Says line a new → Says line b new
says_from line a b new same = subst (λ (x : About). Says line x new) same

pub says_to : (line : List ℕ) (old a b : About) → a ≡ b → Says line old b → Says line old a
says_to line old a b same = subst (λ (x : About). Says line old x) (sym same)

-- the clauses of a term with these keys
abbrev pub ClausesOf : List ℕ → ℕ → Opening → Term → Ends → (devices devices_after : DevicesView) → Type 0
ClausesOf secret term opening t ends devices devices_after = TermClauses (Tells kinds.Recheck kinds.Audit (Some opening)) (Tells kinds.Repair kinds.Exit (Some opening)) (TallyTells (Some opening))
    secret term opening t ends devices.posts devices_after.posts devices.kits devices_after.kits

-- the same of equal devices
pub moved_clauses : (secret : List ℕ) (term : ℕ) (opening : Opening) (t : Term) (ends : Ends) (a b c d : DevicesView) → a ≡ b → c ≡ d
    → ClausesOf secret term opening t ends a c → ClausesOf secret term opening t ends b d
moved_clauses secret term opening t ends a b c d before after = subst (λ (z : DevicesView × DevicesView). ClausesOf secret term opening t ends z.0 z.1) (λ i. (before i, after i))

module _ {K : Type 0} (about : K → KeeperView) where
  -- what is said of a book's own history holds of the one that it hands out
  pub stands_of : (b : BookView K) (keeper : K) (history history' : List E) → history' ≡ history → Spell b.opening → SettleOnce (start_of b.opening) (map said_of history)
      → PaysByTariff (start_of b.opening) history → ClosedMonthsStay (start_of b.opening) history
      → Keeps about b.first b.opened keeper (start_of b.opening) history → last_shown b.opening.faults history ≤ (about keeper).faults
      → Stands about b keeper history'
  stands_of b keeper history history' same spelled once pays closed keeps shown = subst (λ (h : List E). Stands about b keeper h) (sym same)
      (record { spelled = spelled; once = once; pays = pays; closed = closed; keeps = keeps; shown = shown })

  pub term_of : (secret secret' : List ℕ) (term : ℕ) (b : BookView K) (keeper : K) (t : Term) (ends : Ends) (status : ℕ) (old0 old new : About) (devices devices_after : DevicesView)
      → secret' ≡ secret → ClausesOf secret' term b.opening t ends devices devices_after
      → Spell b.opening → SettleOnce (start_of b.opening) (map said_of t.history.items)
      → PaysByTariff (start_of b.opening) t.history.items → ClosedMonthsStay (start_of b.opening) t.history.items
      → Keeps about b.first b.opened keeper (start_of b.opening) t.history.items → last_shown b.opening.faults t.history.items ≤ (about keeper).faults
      → old ≡ old0 → Finishes (flags_of t ends) (length t.history.items) status old new
      → IsTerm about secret term b keeper t status old0 new devices devices_after
  term_of secret secret' term b keeper t ends status old0 old new devices devices_after same c0 spelled once pays closed keeps shown quiet f0 =
      let c : ClausesOf secret term b.opening t ends devices devices_after = subst (λ (s : List ℕ). ClausesOf s term b.opening t ends devices devices_after) same c0 in
      let f : Finishes (flags_of t ends) (length t.history.items) status old0 new = subst (λ (x : About). Finishes (flags_of t ends) (length t.history.items) status x new) quiet f0 in
      record {
        ends = ends;
        clauses = c;
        stands = record { spelled = spelled; once = once; pays = pays; closed = closed; keeps = keeps; shown = shown };
        named = speaks_of_named b.opening b.opening.faults t.history.items spelled.valid c.whole.legal kinds.Repair kinds.Exit c.repair_number devices.kits.repair t.repairs.items devices_after.kits.repair c.repair.told;
        finishes = f;
        causes = causes_of secret term b.opening t ends devices.posts devices_after.posts devices.kits devices_after.kits (length t.history.items) status old0 new c f;
      }

  -- there was no memory for the workers
  pub idle_of : (told : Option Term) (term lanes lanes' : ℕ) (first : K) (b b' : BookView K) (keeper : K) (status : ℕ) (old0 old new : About) (devices devices_after : DevicesView) (Back : Type 0)
      → Opens about first term b → old ≡ old0 → b' ≡ b → lanes' ≡ lanes
      → IfSome told (λ t. IsIdle about lanes' b' keeper t status old new) → Back
      → IfSome told (λ t. (book : BookView K) × Opens about first term book
      × (IsTerm about (start_of book.opening).setup.secret term book keeper t status old0 new devices devices_after
      ⊎ (IsIdle about lanes book keeper t status old0 new × Back)))
  idle_of None term lanes lanes' first b b' keeper status old0 old new devices devices_after Back opens quiet same few idle back = tt
  idle_of (Some t) term lanes lanes' first b b' keeper status old0 old new devices devices_after Back opens quiet same few idle back = (
    b,
    opens,
    inr (subst (λ (z : ℕ × BookView K × About). IsIdle about z.0 z.1 keeper t status z.2 new) (λ i. (few i, same i, quiet i)) idle, back),
  )

  -- what is told of all that came back may be told otherwise
  pub came_back_as : (told : Option Term) (term lanes : ℕ) (first keeper : K) (status : ℕ) (old new : About) (devices devices_after : DevicesView) (A B : Type 0) → (A → B)
      → IfSome told (λ t. (book : BookView K) × Opens about first term book
      × (IsTerm about (start_of book.opening).setup.secret term book keeper t status old new devices devices_after
      ⊎ (IsIdle about lanes book keeper t status old new × A)))
      → IfSome told (λ t. (book : BookView K) × Opens about first term book
      × (IsTerm about (start_of book.opening).setup.secret term book keeper t status old new devices devices_after
      ⊎ (IsIdle about lanes book keeper t status old new × B)))
  came_back_as None term lanes first keeper status old new devices devices_after A B turn ran = tt
  came_back_as (Some t) term lanes first keeper status old new devices devices_after A B turn (b, opens, inl is) = (b, opens, inl is)
  came_back_as (Some t) term lanes first keeper status old new devices devices_after A B turn (b, opens, inr (idle, back)) = (b, opens, inr (idle, turn back))
