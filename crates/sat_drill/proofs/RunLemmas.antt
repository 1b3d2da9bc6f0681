-- A drill's machine: as it begins, after a call more, and as it is closed.
use Rattle.std.proofs.Common.{◌≡◌, ℕ, ◌^◌, ◌<◌, ◌≤◌, true, List, [], length, Some, refl, sym, ap, subst, ◌∙◌, arith}
use Rattle.std.specs.Prelude.{map}
use Rattle.sat_base.specs.KeeperMem.{Keeping}
use Rattle.sat_base.specs.declared.rows.Row.{Row}
use Rattle.sat_base.specs.declared.scheme.Scheme.{Scheme}
use Rattle.bw_decode.specs.Room.{Room}
use Rattle.machine_calls.specs.declared.call.Call.{Call}
use Rattle.machine_calls.specs.declared.reply.Reply.{Reply}
use Rattle.machine_step.specs.Bounds.{IsValid}
use Rattle.machine_step.specs.Step.{IsSchemeOf, IsWellFormed}
use Rattle.machine_step.specs.Tables.{Setup, Tables}
use Rattle.machine_history.specs.History.{IsRight}
use Rattle.machine_history.specs.Orders.{SettleOnce}
use Rattle.machine_history.proofs.HistoryLemmas.{follows_all}
use Rattle.sat_book.specs.Book.{BookView, Spell, origin_of, start_of}
use Rattle.sat_book.specs.Legal.{E, IsHistory, last_shown, replayed, said_of}
use Rattle.sat_book.specs.Paid.{ClosedMonthsStay, PaysByTariff}
use Rattle.sat_book.specs.declared.opening.Opening.{Opening}
use Rattle.sat_book.proofs.LegalLemmas.{formed-behind, history-nil}
use Rattle.node_rounds.specs.Askable.{IsAskable, IsFoundAs, IsStoreOf}
use Rattle.node_rounds.specs.Upkeep.{end_call, is_plan_of, plan_call, words_of}
use Rattle.node_rounds.specs.declared.upkeep.Found.{Found}
use Rattle.node_rounds.specs.declared.upkeep.Upkeep.{Upkeep}
use Rattle.node_rounds.proofs.Answering.{askable}
use Rattle.node_rounds.proofs.EnteringLemmas.{may_end, may_plan}
use Rattle.sat_drill.specs.Drill.{sheet_of}
use Rattle.sat_drill.specs.Run.{IsClosed, IsRun, Replies}
use Rattle.sat_drill.proofs.Faultless.{never_fails}

pub run_begins : (book : BookView Keeping) (secret : List ℕ) (scheme : Scheme) (scratch : Room) → IsStoreOf book.opening secret scheme → book.history ≡ [] → book.tables ≡ replayed (start_of book.opening) book.history
    → 65536 ≤ book.room → scratch ≡ record { points = scheme.n; solves = 0 } → IsRun book secret scheme scratch.points
run_begins book secret scheme scratch own none tables room made = record {
  own = own;
  lawful = subst (IsHistory (start_of book.opening) book.opening.faults) (sym none) (history-nil (start_of book.opening) book.opening.faults);
  tables = tables;
  room = room;
  wide = let same : scratch.points ≡ scheme.n = ap (λ (r : Room). r.points) made in omega arith;
}

-- a call that is well formed where the history begins is so now
pub formed_now : (book : BookView Keeping) (secret : List ℕ) (scheme : Scheme) (points : ℕ) (call : Call) → IsRun book secret scheme points → IsWellFormed (start_of book.opening) call → IsWellFormed book.tables call
formed_now book secret scheme points call run formed = formed-behind (start_of book.opening) book.tables book.opening.faults book.history call run.own.valid run.lawful run.tables formed

pub run_goes_on : (old new : BookView Keeping) (secret : List ℕ) (scheme : Scheme) (points : ℕ) → IsRun old secret scheme points → new.opening ≡ old.opening → new.room ≡ old.room
    → IsHistory (start_of new.opening) new.opening.faults new.history → new.tables ≡ replayed (start_of new.opening) new.history → IsRun new secret scheme points
run_goes_on old new secret scheme points run opening room lawful tables = record {
  own = subst (λ (o : Opening). IsStoreOf o secret scheme) (sym opening) run.own;
  lawful = lawful;
  tables = tables;
  room = let had : 65536 ≤ old.room = run.room in omega arith;
  wide = run.wide;
}

pub replies_of : (book : BookView Keeping) (secret : List ℕ) (scheme : Scheme) (points : ℕ) (call : Call) (reply : Reply) → IsRun book secret scheme points → IsRight book.tables (record { call = call; reply = reply })
    → Replies (start_of book.opening) call reply
replies_of book secret scheme points call reply run right =
    let follows = follows_all (map said_of book.history) (start_of book.opening) run.own.valid run.lawful.legal in
    record {
      tables = book.tables;
      valid = subst IsValid (sym run.tables) follows.valid;
      setup = ap (λ (t : Tables). t.setup) run.tables ∙ follows.grows.setup;
      right = right;
    }

-- ---- what the satellite does on its own account

pub plan_formed : (book : BookView Keeping) (kind : Upkeep) (now : ℕ) (words : List ℕ) (call : Call) → call ≡ plan_call kind now words → now < 2 ^ 36 → length words ≡ words_of kind → IsWellFormed (start_of book.opening) call
plan_formed book kind now words call is timely number = subst (IsWellFormed (start_of book.opening)) (sym is) (may_plan (Some (origin_of book)) kind now words refl timely number)

pub plan_askable : (start : Tables) (scheme : Scheme) (kind : Upkeep) (now : ℕ) (words : List ℕ) (call : Call) (reply : Reply) → call ≡ plan_call kind now words → now < 2 ^ 36 → IsSchemeOf start.setup scheme → Replies start call reply
    → is_plan_of kind reply ≡ true → IsAskable scheme reply
plan_askable start scheme kind now words call reply is timely own replies planned =
    askable kind now words reply scheme timely (record {
      tables = replies.tables;
      valid = replies.valid;
      scheme_is = subst (λ (s : Setup). IsSchemeOf s scheme) (sym replies.setup) own;
      right = subst (λ (c : Call). IsRight replies.tables (record { call = c; reply = reply })) is replies.right;
    }) planned

pub end_formed : (book : BookView Keeping) (secret : List ℕ) (scheme : Scheme) (found : Found) (now : ℕ) (call : Call) → call ≡ end_call found now → IsStoreOf book.opening secret scheme → IsFoundAs scheme found → now < 2 ^ 36
    → IsWellFormed (start_of book.opening) call
end_formed book secret scheme found now call is own by timely = subst (IsWellFormed (start_of book.opening)) (sym is) (may_end (Some (origin_of book)) secret scheme found now own by timely)

-- ---- the end

-- what a book tells that was closed
pub record Tells (opening : Opening) (history : List E) : Type 0 where
  pub spell : Spell opening
  pub lawful : IsHistory (start_of opening) opening.faults history
  pub once : SettleOnce (start_of opening) (map said_of history)
  pub pays : PaysByTariff (start_of opening) history
  pub closed : ClosedMonthsStay (start_of opening) history
  pub shown : last_shown opening.faults history ≤ 0

closed_over : (opening : Opening) (history : List E) (tables : Tables) (sheet : List ℕ) → Tells opening history → tables ≡ replayed (start_of opening) history → sheet ≡ sheet_of tables tables.setup.first_month
    → IsClosed opening.rows history sheet
closed_over opening history tables sheet tells is told =
    let start = start_of opening in
    let never = never_fails start opening.faults history tells.lawful.faults tells.shown in
    let none : opening.faults ≡ 0 = omega (arith, never.1) in
    let setup : (replayed start history).setup ≡ start.setup = (follows_all (map said_of history) start tells.spell.valid tells.lawful.legal).grows.setup in
    record {
      start = start;
      ordered = tells.spell.ordered;
      same = tells.spell.same;
      lawful = subst (λ (n : ℕ). IsHistory start n history) none tells.lawful;
      never = never.0;
      once = tells.once;
      pays = tells.pays;
      closed = tells.closed;
      sheet_is = subst (λ (t : Tables). sheet ≡ sheet_of t t.setup.first_month) is told ∙ ap (λ (s : Setup). sheet_of (replayed start history) s.first_month) setup;
    }

pub run_closed : (opening : Opening) (history : List E) (tables : Tables) (sheet : List ℕ) (rows : List Row) (entries : List E) → rows ≡ opening.rows → entries ≡ history → Tells opening history → tables ≡ replayed (start_of opening) history
    → sheet ≡ sheet_of tables tables.setup.first_month → IsClosed rows entries sheet
run_closed opening history tables sheet rows entries rows_are entries_are tells is told =
    subst (λ (r : List Row). IsClosed r entries sheet) (sym rows_are) (subst (λ (h : List E). IsClosed opening.rows h sheet) (sym entries_are) (closed_over opening history tables sheet tells is told))
