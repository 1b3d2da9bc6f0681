-- The windows of a repair, one after the other.
use Rattle.std.proofs.Common.{◌≡◌, ℕ, suc, ◌+◌, ◌-◌, ◌/◌, ◌^◌, ◌<◌, ◌≤◌, ◌⊎◌, Bool, true, not, List, [], ◌∷◌, ◌++◌, length, take, Option, Some, None, Result, Ok, Err, IfOk, ◌↔◌, inl, inr, refl, ap, sym, subst, ◌∙◌, arith}
use Rattle.std.specs.Prelude.{map, All, filter, ◌&&◌, min}
use Rattle.std.specs.List.{count_by}
use Rattle.std.proofs.lemmas.Nat.{le-div}
use Rattle.sat_base.specs.declared.items.Share.{Share}
use Rattle.sat_base.specs.declared.nodes.Ask.{Ask}
use Rattle.sat_base.specs.declared.nodes.Fetched.{Fetched}
use Rattle.sat_base.specs.declared.nodes.Fetched.TheVariants as fetches
use Rattle.sat_base.specs.declared.nodes.Held.{Held}
use Rattle.sat_base.specs.declared.requests.Place.{Place}
use Rattle.sat_base.specs.declared.scheme.Scheme.{Scheme}
use Rattle.sat_base.specs.Nodes.{AsksSome, FetchesAll, CountsUnanswered, is_unanswered}
use Rattle.sat_base.specs.Outside.{with_end}
use Rattle.sat_base.specs.Scheme.{stripe_count}
use Rattle.sat_base.proofs.Told.{with_end-end, with_end-none}
use Rattle.audit_core.specs.declared.plan.Heard.{Heard}
use Rattle.audit_core.specs.Heard.{share_in, answers_of, heard_indexes}
use Rattle.audit_core.proofs.Parts.{answers_rise, all_answers}
use Rattle.bw_decode.specs.Altered.{indexes_of}
use Rattle.bw_decode.specs.Near.{Rises}
use Rattle.repair_core.specs.declared.plan.RepairPlan.{RepairPlan}
use Rattle.repair_core.specs.Indexes.{has_index, place_indexes}
use Rattle.repair_core.specs.declared.rebuilt.Remade.{Remade}
use Rattle.repair_core.specs.declared.rebuilt.WindowErr.{WindowErr}
use Rattle.repair_core.specs.declared.rebuilt.WindowErr.TheVariants as errs
use Rattle.repair_core.specs.Kept.{IsKept}
use Rattle.repair_core.proofs.Rising.{all_among}
use Rattle.repair_core.specs.Progress.{Progress}
use Rattle.repair_core.specs.Windows.{IsWindow, IsUnclearWindow, next_stripes}
use Rattle.node_asks.specs.declared.answers.Answered.{Answered}
use Rattle.node_asks.specs.declared.remaking.Heeded.{Heeded}
use Rattle.node_asks.specs.declared.remaking.Sources.{Sources}
use Rattle.node_asks.specs.declared.remaking.Sorted.{Sorted}
use Rattle.node_asks.specs.declared.remaking.TheConstants.{WINDOW}
use Rattle.node_asks.specs.Answers.{places_in, answers_in, shares_in, sharing, sharing_in, lacking_in}
use Rattle.node_asks.specs.Asks.{pieces_of, window_ask}
use Rattle.node_asks.specs.Remaking.{Heeding, Heeds, IsSorted, IsHeeded, IsGivenUp, Ends, heeding_of, CountsSilent, StopsAsking, Remakes, blamed_of}
use Rattle.node_asks.proofs.SpreadLemmas.{indexes_at, pieces-indexes}

-- how far it has come, of what is kept
abbrev pub heeding_at : Progress → List Place → List ℕ → ℕ → List Ask → Heeding
heeding_at progress still gone silent asks = record { progress = progress; still = still; gone = gone; silent = silent; asks = asks }

-- windows have led from the start to here, and these are the sources that are left
pub record IsAsking (held : Option (List Held)) (old new : Option (List Ask)) (secret : List ℕ) (scheme : Scheme) (plan : RepairPlan) (sources : List Place)
    (faults later : ℕ) (progress : Progress) (still : List Place) (gone : List ℕ) : Type 0 where
  pub windows : ℕ
  pub silent : ℕ
  pub sent : List Ask
  pub reached : Heeds held secret scheme plan windows (heeding_of scheme plan sources) (heeding_at progress still gone silent sent)
  pub asks : new ≡ with_end old sent
  pub counted : CountsSilent silent faults later
  pub rising : Rises (indexes_at still)
  pub among : All (λ index. has_index (place_indexes plan.sources) index ≡ true) (indexes_at still)
  pub kept : IsKept scheme.k scheme.share scheme.n (stripe_count scheme.k scheme.share plan.len) (place_indexes plan.sources) progress
  pub size : progress.window ≡ WINDOW / scheme.share
  pub within : progress.done ≤ progress.count

-- ---- the answers of a window

heard_at : Answered → Heard
heard_at one = record { index = one.place.index; what = one.what }

shares-heard : (all : List Answered) → shares_in all ≡ answers_of (map heard_at all)
unfolding heard_at
shares-heard [] = refl
shares-heard (one ∷ rest) = elim (share_in one.place.index one.what) as (λ o. share_in one.place.index one.what ≡ o → shares_in (one ∷ rest) ≡ answers_of (map heard_at (one ∷ rest))) [
  | Some share ↦ λ e. rw e (ap (λ (xs : List Share). share ∷ xs) (shares-heard rest))
  | None ↦ λ e. rw e (shares-heard rest)
] refl

places-heard : (all : List Answered) → heard_indexes (map heard_at all) ≡ indexes_at (places_in all)
unfolding heard_at
places-heard [] = refl
places-heard (one ∷ rest) = ap (λ (xs : List ℕ). one.place.index ∷ xs) (places-heard rest)

sharing-more : (place : Place) (what : Fetched) (rest : List Answered) → indexes_at (sharing_in rest) ≡ indexes_of (shares_in rest)
    → indexes_at (sharing_in (record { place = place; what = what } ∷ rest)) ≡ indexes_of (shares_in (record { place = place; what = what } ∷ rest))
sharing-more place (fetches.Share bytes) rest e = ap (λ (xs : List ℕ). place.index ∷ xs) e
sharing-more place fetches.Missing rest e = e
sharing-more place fetches.NoAnswer rest e = e
sharing-more place fetches.NoMemory rest e = e

-- the places that gave a share have the indexes of the shares
pub sharing-indexes : (all : List Answered) → indexes_at (sharing_in all) ≡ indexes_of (shares_in all)
sharing-indexes [] = refl
sharing-indexes (one ∷ rest) = sharing-more one.place one.what rest (sharing-indexes rest)

pub shares_rise : (all : List Answered) (still : List Place) → places_in all ≡ still → Rises (indexes_at still) → Rises (indexes_of (shares_in all))
shares_rise all still same rises =
    let heard : Rises (heard_indexes (map heard_at all)) = subst Rises (sym (places-heard all ∙ ap indexes_at same)) rises in
    subst (λ (shares : List Share). Rises (indexes_of shares)) (sym (shares-heard all)) (answers_rise (map heard_at all) heard)

pub shares_all : (P : ℕ → Type 0) (all : List Answered) (still : List Place) → places_in all ≡ still → All P (indexes_at still) → All P (indexes_of (shares_in all))
shares_all P all still same each =
    let heard : All P (heard_indexes (map heard_at all)) = subst (All P) (sym (places-heard all ∙ ap indexes_at same)) each in
    subst (λ (shares : List Share). All P (indexes_of shares)) (sym (shares-heard all)) (all_answers P (map heard_at all) heard)

-- ---- one window more

abbrev pub asks_of : List ℕ → Scheme → RepairPlan → Progress → List Place → List Ask
asks_of secret scheme plan progress still = map (window_ask secret scheme plan progress.done (next_stripes progress)) still

kept_after : (k size n count : ℕ) (sources : List ℕ) (old : Progress) (shares : List Share) (new : Progress) → IsWindow old shares new → IsKept k size n count sources old → IsKept k size n count sources new
kept_after k size n count sources old shares new window before = record {
  k_is = ap (λ (p : Progress). p.k) window.is_after ∙ before.k_is;
  size_is = ap (λ (p : Progress). p.size) window.is_after ∙ before.size_is;
  n_is = ap (λ (p : Progress). p.n) window.is_after ∙ before.n_is;
  count_is = ap (λ (p : Progress). p.count) window.is_after ∙ before.count_is;
  sources_are = ap (λ (p : Progress). p.sources) window.is_after ∙ before.sources_are;
}

counts_both : (silent more faults middle later : ℕ) → middle ≤ later → CountsSilent silent faults middle → (later < 2 ^ 64 - 1 → middle + more ≤ later) → CountsSilent (silent + more) faults later
counts_both silent more faults middle later up before then_more small = let h = before (omega arith) in let m = then_more small in omega arith

module _ (held : Option (List Held)) (old middle new : Option (List Ask)) (secret : List ℕ) (scheme : Scheme) (plan : RepairPlan) (sources : List Place) (faults between later : ℕ)
    (progress : Progress) (still : List Place) (gone : List ℕ) (all : List Answered) where
  -- all that were asked in this window answered
  pub record IsNext : Type 0 where
    pub asking : IsAsking held old middle secret scheme plan sources faults between progress still gone
    pub less : progress.done < progress.count
    pub places : places_in all ≡ still
    pub fetched : FetchesAll held (asks_of secret scheme plan progress still) (answers_in all)
    pub counted : CountsUnanswered (answers_in all) between later
    pub up : between ≤ later
    pub asks : new ≡ with_end middle (asks_of secret scheme plan progress still)

  left_rising : IsNext → Rises (indexes_at (sharing_in all))
  left_rising next = subst Rises (sym (sharing-indexes all)) (shares_rise all still next.places next.asking.rising)

  asked_so_far : IsNext → (sent : List Ask) → middle ≡ with_end old sent → new ≡ with_end old (sent ++ asks_of secret scheme plan progress still)
  asked_so_far next sent before =
      next.asks ∙ ap (λ (o : Option (List Ask)). with_end o (asks_of secret scheme plan progress still)) before ∙ with_end-end old sent (asks_of secret scheme plan progress still)

  pub goes_on : IsNext → (later_progress : Progress) → IsWindow progress (shares_in all) later_progress
      → IsAsking held old new secret scheme plan sources faults later later_progress (sharing_in all) (gone ++ lacking_in all)
  goes_on next later_progress window =
      let before = next.asking in
      let heeded_now : IsHeeded held secret scheme plan (heeding_at progress still gone before.silent before.sent)
      (heeding_at later_progress (sharing_in all) (gone ++ lacking_in all) (before.silent + count_by is_unanswered (answers_in all)) (before.sent ++ asks_of secret scheme plan progress still))
      = record { all = all; answered = record { places = next.places; fetched = next.fetched }; window = window; is_after = refl } in
      record {
        windows = suc before.windows;
        silent = before.silent + count_by is_unanswered (answers_in all);
        sent = before.sent ++ asks_of secret scheme plan progress still;
        reached = (heeding_at progress still gone before.silent before.sent, before.reached, next.less, heeded_now);
        asks = asked_so_far next before.sent before.asks;
        counted = counts_both before.silent (count_by is_unanswered (answers_in all)) faults between later next.up before.counted next.counted;
        rising = left_rising next;
        among = subst (All (λ index. has_index (place_indexes plan.sources) index ≡ true)) (sym (sharing-indexes all))
            (shares_all (λ index. has_index (place_indexes plan.sources) index ≡ true) all still next.places before.among);
        kept = kept_after scheme.k scheme.share scheme.n (stripe_count scheme.k scheme.share plan.len) (place_indexes plan.sources) progress (shares_in all) later_progress window before.kept;
        size = ap (λ (p : Progress). p.window) window.is_after ∙ before.size;
        within = omega (arith, ap (λ (p : Progress). p.done) window.is_after, ap (λ (p : Progress). p.count) window.is_after, window.number, before.within);
      }

  -- the window can't be rebuilt
  pub gives_up : IsNext → (length (shares_in all) < progress.k) ⊎ ((s : ℕ) × IsUnclearWindow progress (shares_in all) s) → (result : Heeded)
      → result.made ≡ None → result.answered ≡ indexes_at (sharing_in all)
      → result.missing ≡ filter (λ index. has_index (gone ++ lacking_in all) index && not (has_index (blamed_of None) index)) (place_indexes plan.sources)
      → Remakes held old new secret scheme plan sources faults later result
  gives_up next why result made answered missing =
      let before = next.asking in
      let now = heeding_at progress still gone before.silent before.sent in
      let end = heeding_at progress (sharing_in all) (gone ++ lacking_in all) (before.silent + count_by is_unanswered (answers_in all)) (before.sent ++ asks_of secret scheme plan progress still) in
      let given_up : IsGivenUp held secret scheme plan now end = record { all = all; answered = record { places = next.places; fetched = next.fetched }; why = why; is_after = refl } in
      let ended : Ends held secret scheme plan sources None end = (before.windows, now, before.reached, next.less, given_up) in
      record {
        end = end;
        is = record {
          ends = subst (λ m. Ends held secret scheme plan sources m end) (sym made) ended;
          answered = answered;
          missing = missing ∙ ap (λ m. filter (λ index. has_index (gone ++ lacking_in all) index && not (has_index (blamed_of m) index)) (place_indexes plan.sources)) (sym made);
        };
        asks = asked_so_far next before.sent before.asks;
        silent = counts_both before.silent (count_by is_unanswered (answers_in all)) faults between later next.up before.counted next.counted;
      }

-- ---- the ends

-- some of a window's asks, behind those of the windows before
pub stops : (held : Option (List Held)) (old middle new : Option (List Ask)) (secret : List ℕ) (scheme : Scheme) (plan : RepairPlan) (sources : List Place) (faults between : ℕ)
    (progress : Progress) (still : List Place) (gone : List ℕ) → IsAsking held old middle secret scheme plan sources faults between progress still gone
    → AsksSome middle (asks_of secret scheme plan progress still) new → StopsAsking held old new secret scheme plan sources
stops held old middle new secret scheme plan sources faults between progress still gone asking some = record {
  windows = asking.windows;
  before = heeding_at progress still gone asking.silent asking.sent;
  reached = asking.reached;
  sent = some.0;
  asks = some.1 ∙ ap (λ (o : Option (List Ask)). with_end o (take some.0 (asks_of secret scheme plan progress still))) asking.asks
      ∙ with_end-end old asking.sent (take some.0 (asks_of secret scheme plan progress still));
}

-- all windows went through
pub ends_made : (held : Option (List Held)) (old new : Option (List Ask)) (secret : List ℕ) (scheme : Scheme) (plan : RepairPlan) (sources : List Place) (faults later : ℕ)
    (progress : Progress) (still : List Place) (gone : List ℕ) (remade : Remade) (result : Heeded) → IsAsking held old new secret scheme plan sources faults later progress still gone
    → progress.done ≡ progress.count → remade.blamed ≡ progress.blamed → remade.fresh ≡ progress.fresh → result.made ≡ Some remade → result.answered ≡ indexes_at still
    → result.missing ≡ filter (λ index. has_index gone index && not (has_index (blamed_of (Some remade)) index)) (place_indexes plan.sources)
    → Remakes held old new secret scheme plan sources faults later result
ends_made held old new secret scheme plan sources faults later progress still gone remade result asking done blamed fresh made answered missing =
    let end = heeding_at progress still gone asking.silent asking.sent in
    let ended : Ends held secret scheme plan sources (Some remade) end = ((asking.windows, asking.reached), done, blamed, fresh) in
    record {
      end = end;
      is = record {
        ends = subst (λ m. Ends held secret scheme plan sources m end) (sym made) ended;
        answered = answered;
        missing = missing ∙ ap (λ m. filter (λ index. has_index gone index && not (has_index (blamed_of m) index)) (place_indexes plan.sources)) (sym made);
      };
      asks = asking.asks;
      silent = asking.counted;
    }

-- ---- by what is kept and what comes

pub number_is : (size window stripes count from done : ℕ) → size ≡ window → stripes ≡ count → from ≡ done → min size (stripes - from) ≡ min window (count - done)
number_is size window stripes count from done a b c = rw a (rw b (rw c refl))

pub same_asks : (secret : List ℕ) (scheme : Scheme) (plan : RepairPlan) (still : List Place) (progress : Progress) (from number : ℕ) → from ≡ progress.done → number ≡ next_stripes progress
    → map (window_ask secret scheme plan from number) still ≡ asks_of secret scheme plan progress still
same_asks secret scheme plan still progress from number a b =
    ap (λ n. map (window_ask secret scheme plan n number) still) a ∙ ap (λ n. map (window_ask secret scheme plan progress.done n) still) b

-- what the sources that are left answered to the next window
pub record Answers (held told : Option (List Held)) (middle new : Option (List Ask)) (secret : List ℕ) (scheme : Scheme) (plan : RepairPlan) (between later : ℕ) (progress : Progress)
    (left : Sources) (sorted : Sorted) (from number : ℕ) : Type 0 where
  pub less : progress.done < progress.count
  pub from_is : from ≡ progress.done
  pub number_is : number ≡ next_stripes progress
  pub same_held : told ≡ held
  pub answered : IsSorted told (map (window_ask secret scheme plan from number) left.still.items) left between later sorted
  pub up : between ≤ later
  pub asks : new ≡ with_end middle (map (window_ask secret scheme plan from number) left.still.items)

module _ (held told : Option (List Held)) (old middle new : Option (List Ask)) (secret : List ℕ) (scheme : Scheme) (plan : RepairPlan) (sources : List Place) (faults between later : ℕ)
    (progress : Progress) (left : Sources) (sorted : Sorted) (from number : ℕ)
    (asking : IsAsking held old middle secret scheme plan sources faults between progress left.still.items left.gone.items)
    (came : Answers held told middle new secret scheme plan between later progress left sorted from number) where
  same : map (window_ask secret scheme plan from number) left.still.items ≡ asks_of secret scheme plan progress left.still.items
  same = same_asks secret scheme plan left.still.items progress from number came.from_is came.number_is

  next_of : IsNext held old middle new secret scheme plan sources faults between later progress left.still.items left.gone.items came.answered.all
  next_of = record {
    asking = asking;
    less = came.less;
    places = came.answered.places;
    fetched = subst (λ (o : Option (List Held)). FetchesAll o (asks_of secret scheme plan progress left.still.items) (answers_in came.answered.all)) came.same_held
        (subst (λ (xs : List Ask). FetchesAll told xs (answers_in came.answered.all)) same came.answered.fetched);
    counted = came.answered.silent;
    up = came.up;
    asks = came.asks ∙ ap (λ (xs : List Ask). with_end middle xs) same;
  }

  pub went_on : (shares : List Share) (next : Progress) → shares ≡ sorted.shares.items → IsWindow progress shares next
      → IsAsking held old new secret scheme plan sources faults later next sorted.sources.still.items sorted.sources.gone.items
  went_on shares next e window =
      let own : IsWindow progress (shares_in came.answered.all) next = subst (λ (xs : List Share). IsWindow progress xs next) (e ∙ came.answered.shares) window in
      let on = goes_on held old middle new secret scheme plan sources faults between later progress left.still.items left.gone.items came.answered.all next_of next own in
      subst (λ (gone : List ℕ). IsAsking held old new secret scheme plan sources faults later next sorted.sources.still.items gone) (sym came.answered.gone)
      (subst (λ (still : List Place). IsAsking held old new secret scheme plan sources faults later next still (left.gone.items ++ lacking_in came.answered.all)) (sym came.answered.still) on)

  pub gave_up : (shares : List Share) → shares ≡ sorted.shares.items → (length shares < progress.k) ⊎ ((s : ℕ) × IsUnclearWindow progress shares s) → (result : Heeded)
      → result.made ≡ None → result.answered ≡ indexes_at sorted.sources.still.items
      → result.missing ≡ filter (λ index. has_index sorted.sources.gone.items index && not (has_index (blamed_of None) index)) (place_indexes plan.sources)
      → Remakes held old new secret scheme plan sources faults later result
  gave_up shares e why result made answered missing =
      let P : List Share → Type 0 = λ xs. (length xs < progress.k) ⊎ ((s : ℕ) × IsUnclearWindow progress xs s) in
      gives_up held old middle new secret scheme plan sources faults between later progress left.still.items left.gone.items came.answered.all next_of
      (subst P (e ∙ came.answered.shares) why) result made (answered ∙ ap indexes_at came.answered.still)
      (missing ∙ ap (λ gone. filter (λ index. has_index gone index && not (has_index (blamed_of None) index)) (place_indexes plan.sources)) came.answered.gone)

  -- the shares rise, and are of sources
  pub rise_next : (shares : List Share) → shares ≡ sorted.shares.items → Rises (indexes_of shares)
  rise_next shares e =
      subst (λ (xs : List Share). Rises (indexes_of xs)) (sym (e ∙ came.answered.shares)) (shares_rise came.answered.all left.still.items came.answered.places asking.rising)

  pub among_next : (shares : List Share) → shares ≡ sorted.shares.items → All (λ index. has_index progress.sources index ≡ true) (indexes_of shares)
  among_next shares e =
      subst (λ (own : List ℕ). All (λ index. has_index own index ≡ true) (indexes_of shares)) (sym asking.kept.sources_are)
      (subst (λ (xs : List Share). All (λ index. has_index (place_indexes plan.sources) index ≡ true) (indexes_of xs)) (sym (e ∙ came.answered.shares))
      (shares_all (λ index. has_index (place_indexes plan.sources) index ≡ true) came.answered.all left.still.items came.answered.places asking.among))

-- ---- the start

-- nothing was asked yet
pub starts : (held : Option (List Held)) (old : Option (List Ask)) (secret : List ℕ) (scheme : Scheme) (plan : RepairPlan) (sources : List Place) (faults : ℕ) → pieces_of sources ≡ plan.sources
    → Rises (place_indexes plan.sources) → IsAsking held old old secret scheme plan sources faults faults (heeding_of scheme plan sources).progress sources []
starts held old secret scheme plan sources faults same rising =
    let own : place_indexes plan.sources ≡ indexes_at sources = sym (ap place_indexes same) ∙ pieces-indexes sources in
    record {
      windows = 0;
      silent = 0;
      sent = [];
      reached = refl;
      asks = sym (with_end-none old);
      counted = λ small. omega arith;
      rising = subst Rises own rising;
      among = subst (λ (xs : List ℕ). All (λ index. has_index (place_indexes plan.sources) index ≡ true) xs) own (all_among (place_indexes plan.sources));
      kept = record { k_is = refl; size_is = refl; n_is = refl; count_is = refl; sources_are = refl };
      size = refl;
      within = omega arith;
    }

-- ---- what is answered

-- what comes of three facts of what is handed back
pub if_ok3 : {T E : Type 0} (A B C P : T → Type 0) (r : Result T E) → IfOk r A → IfOk r B → IfOk r C → ((v : T) → A v → B v → C v → P v) → IfOk r P
if_ok3 A B C P (Ok v) a b c then_p = then_p v a b c
if_ok3 A B C P (Err e) a b c then_p = tt

-- why a window was given up
pub why_of : (progress : Progress) (shares : List Share) (err : WindowErr)
    → ((answered : ℕ) → (◌≡◌ {A = Result Progress WindowErr} (Err err) (Err (errs.Few answered))) ↔ ((length shares < progress.k) × (answered ≡ length shares)))
    → ((s : ℕ) → ◌≡◌ {A = Result Progress WindowErr} (Err err) (Err (errs.Unclear s)) → (progress.k ≤ length shares) × IsUnclearWindow progress shares s)
    → (length shares < progress.k) ⊎ ((s : ℕ) × IsUnclearWindow progress shares s)
why_of progress shares (errs.Few answered) few unclear = inl ((few answered).0 refl).0
why_of progress shares (errs.Unclear s) few unclear = inr (s, (unclear s refl).1)

-- a window has a stripe at least
pub some_window : (share : ℕ) → 1 ≤ share → share ≤ 1024 → 1 ≤ 16384 / share
some_window share some few = le-div 1 16384 share some (omega arith)
