-- What holds of a book after one call more.
use Rattle.std.proofs.Common.{◌≡◌, ℕ, ◌≤◌, inl, inr, List, [], ◌∷◌, ◌++◌, length, sym, ap, subst, ◌∙◌, arith}
use Rattle.sat_base.specs.Keeper.{KeeperView}
use Rattle.sat_base.specs.Rows.{Rows}
use Rattle.machine_calls.specs.declared.call.Call.{Call}
use Rattle.machine_calls.specs.declared.reply.Reply.{Reply}
use Rattle.machine_calls.specs.declared.reply.Reply.TheVariants as replies
use Rattle.sat_book.specs.declared.opening.Opening.{Opening}
use Rattle.machine_step.specs.Tables.{Tables}
use Rattle.machine_step.specs.Step.{after}
use Rattle.machine_history.specs.History.{IsRight, taken}
use Rattle.machine_history.specs.Orders.{HasBytes}
use Rattle.turnstile.specs.Entry.{entry_of}
use Rattle.sat_book.specs.Book.{Moves, Keeps, BookView, IsBook, start_of, Spell}
use Rattle.sat_book.specs.Kept.{Answers}
use Rattle.sat_book.specs.Legal.{E, said_of, replayed, last_shown, shown, IsFault, IsHistory}
use Rattle.sat_book.specs.TableRows.{rows}
use Rattle.sat_book.proofs.LegalLemmas.{replayed-one, shown-one, history-one}
use Rattle.sat_book.proofs.CrashLemmas.{left_idle, left_lost, left_done}

-- the entry that is put into a history
pub grown_by : (history grown : List E) (n pass : ℕ) (call : Call) (told kept : Reply) → n ≡ length history → kept ≡ told
    → grown ≡ history ++ entry_of n pass call kept ∷ [] → grown ≡ history ++ entry_of (length history) pass call told ∷ []
grown_by history grown n pass call told kept at same is =
    is ∙ ap (λ (m : ℕ). history ++ entry_of m pass call kept ∷ []) at ∙ ap (λ (r : Reply). history ++ entry_of (length history) pass call r ∷ []) same

module _ {K : Type 0} (about : K → KeeperView) where
  abbrev Go : K → K → K → Tables → List E → Type 0
  Go = Keeps about

  -- the keeper goes with one entry more
  keeps-one : (first opened old new : K) (start : Tables) (history : List E) (e : E) → Go first opened old start history
      → Moves about (replayed start history) e.call e.reply old new → Go first opened new start (history ++ e ∷ [])
  keeps-one first opened old new start history e keeps moves = record {
    opened = λ o. keeps.opened (moves.opened o);
    clean = λ c. keeps.clean (moves.clean c);
    told = λ o told. moves.told o (keeps.told (moves.opened o) told);
    kept = λ o told. kept_now o told;
    left = λ c told m l. elim (moves.left c m l) [
      | inl before ↦ left_idle start history e m before.0 (keeps.left (moves.clean c) told m before.1)
      | inr (inl lost) ↦ left_lost start history e m lost.0
          (lost.1.1 (keeps.told lost.1.0 told.told) (keeps.kept lost.1.0 told.told))
      | inr (inr done) ↦ left_done start history e m (done.1 (moves.told done.0 (keeps.told (moves.opened done.0) told.told)) ∙ kept_now done.0 told.told ∙ ap rows (replayed-one start history e))
    ];
  }
    where
      kept_now : (about new).is_open → (about first).tells → (about new).rows ≡ rows (replayed start (history ++ e ∷ []))
      kept_now o told = moves.kept o (keeps.told (moves.opened o) told) (keeps.kept (moves.opened o) told) ∙ ap rows (sym (replayed-one start history e))

  -- a fault's first count is no less than the last one shown
  fault_later : (t : Tables) (less more : ℕ) (call : Call) (reply : Reply) → less ≤ more → IsFault t more call reply → IsFault t less call reply
  fault_later t less more call (replies.StoreFault before after) le fault = (omega (arith, fault.0), fault.1, fault.2)
  fault_later t less more call _ le fault = tt

  -- and what is shown then is no more than the count is
  shown_most : (less more most : ℕ) (reply : Reply) → less ≤ more → more ≤ most → shown more reply ≤ most → shown less reply ≤ most
  shown_most less more most (replies.StoreFault before after) le grows last = last
  shown_most less more most _ le grows last = omega arith

  pub book-one : (b c : BookView K) (e : E) → IsBook about b
      → Answers about b.tables e.call e.reply c.tables b.keeper c.keeper → HasBytes e.call → e.place ≡ length b.history
      → c.opening ≡ b.opening → c.first ≡ b.first → c.opened ≡ b.opened → c.history ≡ b.history ++ e ∷ [] → IsBook about c
  book-one b c e book answers bytes place opening first opened history =
      let start = start_of b.opening in
      let fault : IsFault (replayed start b.history) (last_shown b.opening.faults b.history) e.call e.reply =
      subst (λ (t : Tables). IsFault t (last_shown b.opening.faults b.history) e.call e.reply) book.tables
      (fault_later b.tables (last_shown b.opening.faults b.history) (about b.keeper).faults e.call e.reply book.shown answers.fault) in
      let right : IsRight (replayed start b.history) (said_of e) = subst (λ (t : Tables). IsRight t (said_of e)) book.tables answers.right in
      let lawful : IsHistory start b.opening.faults (b.history ++ e ∷ []) = history-one start b.opening.faults b.history e book.lawful place right bytes fault in
      let tables : c.tables ≡ replayed start (b.history ++ e ∷ []) = answers.tables ∙ ap (λ (t : Tables). taken t (said_of e)) book.tables ∙ sym (replayed-one start b.history e) in
      let moves : Moves about (replayed start b.history) e.call e.reply b.keeper c.keeper =
      subst (λ (t : Tables). Moves about t e.call e.reply b.keeper c.keeper) book.tables answers.moves in
      let keeps : Go b.first b.opened c.keeper start (b.history ++ e ∷ []) = keeps-one b.first b.opened b.keeper c.keeper start b.history e book.keeps moves in
      let last : last_shown b.opening.faults (b.history ++ e ∷ []) ≤ (about c.keeper).faults =
      rw (shown-one b.opening.faults b.history e) (shown_most (last_shown b.opening.faults b.history) (about b.keeper).faults (about c.keeper).faults e.reply book.shown answers.counted answers.last) in
      record {
        spelled = subst Spell (sym opening) book.spelled;
        lawful = subst (λ (o : Opening). IsHistory (start_of o) o.faults c.history) (sym opening) (subst (IsHistory start b.opening.faults) (sym history) lawful);
        tables = subst (λ (o : Opening). c.tables ≡ replayed (start_of o) c.history) (sym opening) (subst (λ (h : List E). c.tables ≡ replayed start h) (sym history) tables);
        ids = answers.ids;
        counted = rw first (subst (λ (o : Opening). (about b.first).faults ≤ o.faults) (sym opening) book.counted);
        shown = subst (λ (o : Opening). last_shown o.faults c.history ≤ (about c.keeper).faults) (sym opening) (subst (λ (h : List E). last_shown b.opening.faults h ≤ (about c.keeper).faults) (sym history) last);
        keeps = subst (λ (o : Opening). Go c.first c.opened c.keeper (start_of o) c.history) (sym opening) (subst (λ (h : List E). Go c.first c.opened c.keeper start h) (sym history)
            (subst (λ (k : K). Go c.first k c.keeper start (b.history ++ e ∷ [])) (sym opened) (subst (λ (k : K). Go k b.opened c.keeper start (b.history ++ e ∷ [])) (sym first) keeps)));
      }
