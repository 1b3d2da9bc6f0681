-- A term speaks of any one segment that the reader names.
use Rattle.std.proofs.Common.{◌≡◌, ℕ, ◌+◌, List, [], ◌∷◌, ◌++◌, map, Bool, true, false, Option, Some, None, Ok, refl, sym, ap, ◌∙◌, subst, inl, inr, zero, suc}
use Rattle.std.specs.Prelude.{◌⊎◌, ◌||◌, cond, slice_get}
use Rattle.std.proofs.lemmas.Bool.{eq-eqb}
use Rattle.std.proofs.lemmas.Option.{slice_get-map}
use Rattle.std.specs.Option.{option_map}
use Rattle.sat_base.specs.declared.scheme.Scheme.{Scheme}
use Rattle.turnstile.specs.History.{Each, has, own}
use Rattle.audit_core.specs.declared.verdict.Judged.{Judged}
use Rattle.repair_core.specs.declared.outcome.Mended.{Mended}
use Rattle.repair_core.specs.declared.outcome.RepairOutcome.TheVariants as repairs
use Rattle.machine_calls.specs.declared.call.Call.{Call}
use Rattle.machine_calls.specs.declared.reply.Reply.{Reply}
use Rattle.machine_calls.specs.declared.reply.Reply.TheVariants as replies
use Rattle.machine_history.specs.History.{IsLegal, Said}
use Rattle.machine_plans.specs.Ends.{is_repair_ended, move_end, repair_end}
use Rattle.machine_step.specs.Bounds.{IsValid}
use Rattle.machine_step.specs.Step.{IsSchemeOf}
use Rattle.machine_step.specs.Tables.{Tables}
use Rattle.named_segments.proofs.Audited.{audit_blames}
use Rattle.node_rounds.proofs.Keeping.{move_named, repair_named}
use Rattle.node_rounds.specs.Asked.{Finds}
use Rattle.node_rounds.specs.Kits.{Tells}
use Rattle.node_rounds.specs.Parts.{S, Follows, Part, Planned}
use Rattle.node_rounds.specs.Upkeep.{end_call, is_plan_of, plan_call}
use Rattle.node_rounds.specs.Works.{Goes, Works}
use Rattle.node_rounds.specs.declared.kit.NodesView.{NodesView}
use Rattle.node_rounds.specs.declared.upkeep.Found.{Found}
use Rattle.node_rounds.specs.declared.upkeep.Found.TheVariants as founds
use Rattle.node_rounds.specs.declared.upkeep.Upkeep.{Upkeep}
use Rattle.node_rounds.specs.declared.upkeep.Upkeep.TheVariants as kinds
use Rattle.sat_book.specs.Book.{start_of}
use Rattle.sat_book.specs.Legal.{E, IsHistory, said_of}
use Rattle.sat_book.specs.declared.opening.Opening.{Opening}
use Rattle.sat_sessions.specs.declared.rounds.Round.{Round}
use Rattle.sat_sessions.specs.declared.rounds.RoundEnd.{RoundEnd}
use Rattle.sat_term.specs.Term.{AreTold}
use Rattle.satellite_cli.specs.Headline.{KeepsBytes, KeepsSegment, SpeaksOfNamed}

-- ---- what was found, by the call that tells it

found_repair : (found : Found) (moment now : ℕ) (mended : Mended) → end_call found moment ≡ repair_end mended now → found ≡ founds.Repair (repairs.Mended mended)
found_repair (founds.Recheck plan checked) moment now mended is = absurd (cc)
found_repair (founds.Audit judged) moment now mended is = absurd (cc)
found_repair (founds.Repair outcome) moment now mended is = cc
found_repair (founds.Exit outcome) moment now mended is = absurd (cc)

found_move : (found : Found) (moment now : ℕ) (mended : Mended) → end_call found moment ≡ move_end mended now → found ≡ founds.Exit (repairs.Mended mended)
found_move (founds.Recheck plan checked) moment now mended is = absurd (cc)
found_move (founds.Audit judged) moment now mended is = absurd (cc)
found_move (founds.Repair outcome) moment now mended is = absurd (cc)
found_move (founds.Exit outcome) moment now mended is = cc

-- a call that plans ends no repair
plans_no_end : (kind : Upkeep) (moment now : ℕ) (words : List ℕ) (mended : Mended) → (plan_call kind moment words ≡ repair_end mended now) ⊎ (plan_call kind moment words ≡ move_end mended now) → ⊥
plans_no_end kinds.Recheck moment now words mended (inl is) = absurd (cc)
plans_no_end kinds.Recheck moment now words mended (inr is) = absurd (cc)
plans_no_end kinds.Audit moment now words mended (inl is) = absurd (cc)
plans_no_end kinds.Audit moment now words mended (inr is) = absurd (cc)
plans_no_end kinds.Repair moment now words mended (inl is) = absurd (cc)
plans_no_end kinds.Repair moment now words mended (inr is) = absurd (cc)
plans_no_end kinds.Exit moment now words mended (inl is) = absurd (cc)
plans_no_end kinds.Exit moment now words mended (inr is) = absurd (cc)

module _ (start : Tables) (history : List E) (valid : IsValid start) (legal : IsLegal start (map said_of history)) where
  module _ (secret : List ℕ) (scheme : Scheme) where
    -- where an entry stands, its repair keeps the bytes
    abbrev Kept : E → Type 0
    Kept e = slice_get (map said_of history) e.place ≡ Some (said_of e) → KeepsBytes start history secret scheme e

    repair_kept : (e : E) (now : ℕ) (mended : Mended) (reply : Reply) (old new : NodesView) → slice_get (map said_of history) e.place ≡ Some (said_of e)
        → e.call ≡ repair_end mended now → is_repair_ended e.reply ≡ true → Finds secret scheme reply old (Ok (founds.Repair (repairs.Mended mended))) new → KeepsSegment start history secret scheme e mended
    repair_kept e now mended (replies.RepairPlanned plan sources targets) old new at is ends found = record {
      plan = plan;
      sources = sources;
      targets = targets;
      old = old;
      new = new;
      asked = found;
      keeps = λ named before names held. repair_named start (map said_of history) e.place (said_of e) now mended named secret scheme plan sources targets old new before valid legal at is ends names found held;
    }
    repair_kept e now mended _ old new at is ends found = absurd found

    move_kept : (e : E) (now : ℕ) (mended : Mended) (reply : Reply) (old new : NodesView) → slice_get (map said_of history) e.place ≡ Some (said_of e)
        → e.call ≡ move_end mended now → is_repair_ended e.reply ≡ true → Finds secret scheme reply old (Ok (founds.Exit (repairs.Mended mended))) new → KeepsSegment start history secret scheme e mended
    move_kept e now mended (replies.ExitPlanned exit sources target) old new at is ends found = record {
      plan = exit.plan;
      sources = sources;
      targets = target ∷ [];
      old = old;
      new = new;
      asked = found;
      keeps = λ named before names held. move_named start (map said_of history) e.place (said_of e) now mended named secret scheme exit.plan sources (target ∷ []) old new before valid legal at is ends names found held;
    }
    move_kept e now mended _ old new at is ends found = absurd found

    end_kept : (e : E) (found : Found) (moment : ℕ) (reply : Reply) (old new : NodesView) → e.call ≡ end_call found moment → Finds secret scheme reply old (Ok found) new → Kept e
    end_kept e found moment reply old new call finds at now mended (inl is) ends =
        repair_kept e now mended reply old new at is ends (subst (λ (f : Found). Finds secret scheme reply old (Ok f) new) (found_repair found moment now mended (sym call ∙ is)) finds)
    end_kept e found moment reply old new call finds at now mended (inr is) ends =
        move_kept e now mended reply old new at is ends (subst (λ (f : Found). Finds secret scheme reply old (Ok f) new) (found_move found moment now mended (sym call ∙ is)) finds)

    plan_kept : (e : E) (kind : Upkeep) (moment : ℕ) (words : List ℕ) → e.call ≡ plan_call kind moment words → Kept e
    plan_kept e kind moment words call at now mended (inl is) ends = absurd (plans_no_end kind moment now words mended (inl (sym call ∙ is)))
    plan_kept e kind moment words call at now mended (inr is) ends = absurd (plans_no_end kind moment now words mended (inr (sym call ∙ is)))

    planned_kept : (reply : Reply) (s : S) (rest : List E) (went : Option RoundEnd) (s' : S) → Planned secret scheme reply s rest went s' → Each Kept rest
    planned_kept reply s [] went s' p = tt
    planned_kept reply s (e ∷ []) went s' p = (end_kept e p.found _ reply s.nodes p.between.nodes p.call p.asks.finds, tt)
    planned_kept reply s (e ∷ f ∷ more) went s' p = absurd p

    follows_kept : (b : Bool) (reply : Reply) (s : S) (rest : List E) (went : Option RoundEnd) (s' : S) → Follows secret scheme b reply s rest went s' → Each Kept rest
    follows_kept true reply s rest went s' f = planned_kept reply s rest went s' f
    follows_kept false reply s rest went s' f = subst (Each Kept) (sym f.0) tt

    part_kept : (kind : Upkeep) (s : S) (new : List E) (went : Option RoundEnd) (s' : S) → Part secret scheme kind s new went s' → Each Kept new
    part_kept kind s [] went s' p = tt
    part_kept kind s (e ∷ rest) went s' p = (plan_kept e kind _ p.drawn p.call, follows_kept (is_plan_of kind e.reply) e.reply p.ready rest went s' p.follows)

    each-both : (P : E → Type 0) (xs ys : List E) → Each P xs → Each P ys → Each P (xs ++ ys)
    each-both P [] ys a b = b
    each-both P (x ∷ xs) ys a b = (a.0, each-both P xs ys a.1 b)

    works_kept : (first second : Upkeep) (s : S) (new : List E) (end : RoundEnd) (s' : S) → Works secret scheme first second s new end s' → Each Kept new
    works_kept first second s new end s' w = subst (Each Kept) (sym w.new_is) (each-both Kept w.ones w.others (part_kept first s w.ones w.went w.between w.begins) (go w.went w.goes))
      where
        go : (went : Option RoundEnd) → Goes secret scheme second went w.between w.others end s' → Each Kept w.others
        go (Some why) goes = subst (Each Kept) (sym goes.0) tt
        go None (went, part, is) = part_kept second w.between w.others went s' part

  -- ---- over the entries of a worker

  module _ (opening : Opening) (begun : start_of opening ≡ start) where
    abbrev Keeps : E → Type 0
    Keeps e = slice_get (map said_of history) e.place ≡ Some (said_of e)
        → (scheme : Scheme) × IsSchemeOf (start_of opening).setup scheme × KeepsBytes start history (start_of opening).setup.secret scheme e

    keeps_by : (scheme : Scheme) → IsSchemeOf (start_of opening).setup scheme → (new : List E) → Each (Kept (start_of opening).setup.secret scheme) new → Each Keeps new
    keeps_by scheme of [] each = tt
    keeps_by scheme of (e ∷ new) each = (λ at. (scheme, of, each.0 at), keeps_by scheme of new each.1)

    told_keeps : (first second : Upkeep) (s : S) (xs : List Round) (made : List E) (s' : S) → AreTold (Tells first second (Some opening)) history s xs made s' → Each Keeps made
    told_keeps first second s [] made s' a = subst (Each Keeps) (sym a.0) tt
    told_keeps first second s (x ∷ xs) made s' (m, new, rest, made_is, named, did, told) =
        subst (Each Keeps) (sym made_is) (each-both (start_of opening).setup.secret did.scheme Keeps new rest
        (keeps_by did.scheme did.scheme_is new (works_kept (start_of opening).setup.secret did.scheme first second (record s { ticks = m.ticks }) new x.end m did.works))
        (told_keeps first second m xs rest s' told))

-- an entry of this number is among those of the number
own_each : (P : E → Type 0) (number : ℕ) (h : List E) (i : ℕ) (e : E) → Each P (own (number ∷ []) h) → slice_get h i ≡ Some e → e.pass ≡ number → P e
own_each P number [] i e each at is = absurd (cc)
own_each P number (x ∷ h) zero e each at is =
    let same : x ≡ e = cc in
    let mine : has (number ∷ []) x.pass ≡ true = ap (λ (b : Bool). b || false) (eq-eqb number x.pass (sym (ap (λ (y : E). y.pass) same ∙ is))) in
    subst P same (subst (λ (b : Bool). Each P (cond b (x ∷ own (number ∷ []) h) (own (number ∷ []) h))) mine each).0
own_each P number (x ∷ h) (suc i) e each at is = own_each P number h i e (rest (has (number ∷ []) x.pass) each) at is
  where
    rest : (b : Bool) → Each P (cond b (x ∷ own (number ∷ []) h) (own (number ∷ []) h)) → Each P (own (number ∷ []) h)
    rest true each = each.1
    rest false each = each

stands_said : (h : List E) (i : ℕ) (e : E) → slice_get h i ≡ Some e → slice_get (map said_of h) i ≡ Some (said_of e)
stands_said h i e at = slice_get-map said_of h i ∙ ap (option_map said_of) at

module _ (opening : Opening) (count : ℕ) (h : List E) (valid : IsValid (start_of opening)) (lawful : IsHistory (start_of opening) count h) where
  -- the entry at a place is named by it
  at_its_place : (i : ℕ) (e : E) → slice_get h i ≡ Some e → slice_get (map said_of h) e.place ≡ Some (said_of e)
  at_its_place i e at = subst (λ (n : ℕ). slice_get (map said_of h) n ≡ Some (said_of e)) (sym (lawful.places i e at)) (stands_said h i e at)

  pub speaks_of_named : (first second : Upkeep) (number : ℕ) (s : S) (xs : List Round) (s' : S) → AreTold (Tells first second (Some opening)) h s xs (own (number ∷ []) h) s'
      → SpeaksOfNamed (start_of opening).setup.secret opening h number
  speaks_of_named first second number s xs s' told = record {
    audits = λ i e at now judged named is ends names well. audit_blames (start_of opening) (map said_of h) e.place (said_of e) now judged named valid lawful.legal (at_its_place i e at) is ends names well;
    repairs = λ i e at is. own_each (Keeps (start_of opening) h valid lawful.legal opening refl) number h i e
        (told_keeps (start_of opening) h valid lawful.legal opening refl first second s xs (own (number ∷ []) h) s' told) at is (at_its_place i e at);
  }
