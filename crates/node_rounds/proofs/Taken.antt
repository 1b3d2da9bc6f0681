-- The moments and words of a part's calls, among those that its kit gave.
use Rattle.std.proofs.Common.{◌≡◌, ℕ, List, [], ◌∷◌, ◌++◌, Bool, true, false, Option, Some, None, Ok, Err, refl, sym, ap, ◌∙◌, subst, inl, append-nil}
use Rattle.sat_base.specs.declared.scheme.Scheme.{Scheme}
use Rattle.sat_base.specs.Clock.{or_zero}
use Rattle.sat_base.specs.Outside.{with_front}
use Rattle.sat_base.proofs.Told.{with_front-none}
use Rattle.machine_calls.specs.declared.call.Call.{Call}
use Rattle.machine_calls.specs.declared.reply.Reply.{Reply}
use Rattle.sat_book.specs.Legal.{E}
use Rattle.sat_sessions.specs.Draws.{Draws, Gives, IsAmong, as_moment, moments_in, words_in}
use Rattle.sat_sessions.specs.Rounds.{KitView, told_of_kit}
use Rattle.sat_sessions.specs.declared.rounds.RoundEnd.{RoundEnd}
use Rattle.sat_sessions.specs.declared.rounds.RoundEnd.TheVariants as ends
use Rattle.sat_sessions.proofs.Among.{draws_nothing, draws_then}
use Rattle.node_rounds.specs.Parts.{S, Drew, Ends, Follows, Lacked, Part, Plans, Readied, Timed}
use Rattle.node_rounds.specs.Upkeep.{end_call, is_plan_of, plan_call}
use Rattle.node_rounds.specs.Works.{Goes, Works}
use Rattle.node_rounds.specs.declared.upkeep.Found.{Found}
use Rattle.node_rounds.specs.declared.upkeep.Found.TheVariants as founds
use Rattle.node_rounds.specs.declared.upkeep.Upkeep.{Upkeep}
use Rattle.node_rounds.specs.declared.upkeep.Upkeep.TheVariants as kinds

abbrev pub Draw : {N : Type 0} → KitView N → List E → KitView N → Type 0
Draw s new s' = Draws (told_of_kit s s') new

pub then_draw : (s m s' : S) (xs ys : List E) → Draw s xs m → Draw m ys s' → Draw s (xs ++ ys) s'
then_draw s m s' xs ys a b = draws_then s.coming m.coming s'.coming s.words m.words s'.words s.words_faults m.words_faults s'.words_faults xs ys a b

pub draw_same : {N : Type 0} (s s' : KitView N) → s' ≡ s → Draw s [] s'
draw_same {N} s s' same = draws_nothing (told_of_kit s s') (ap (λ (z : KitView N). z.coming) same) (ap (λ (z : KitView N). z.words) same)

-- only the nodes were asked
draw_nodes : (s s' : S) → s' ≡ record s { nodes = s'.nodes } → Draw s [] s'
draw_nodes s s' rest = draws_nothing (told_of_kit s s') (ap (λ (z : S). z.coming) rest) (ap (λ (z : S). z.words) rest)

among_same : (xs : List ℕ) → IsAmong xs xs
among_same [] = tt
among_same (x ∷ xs) = inl (refl, among_same xs)

gives_one : {N : Type 0} (s : KitView N) (moment : ℕ) (m s' : KitView N) → m.coming ≡ s.coming → Timed m moment s' → Gives s.coming (moment ∷ []) s'.coming
gives_one s moment m s' same timed = (s'.coming, ap or_zero (sym same) ∙ timed.timed, refl)

-- a moment was taken, and no call was entered
pub draw_timed : {N : Type 0} (s : KitView N) (moment : ℕ) (s' : KitView N) → Timed s moment s' → Draw s [] s'
draw_timed {N} s moment s' timed = record {
  gave = moment ∷ [];
  gives = gives_one s moment s s' refl timed;
  moments = tt;
  drew = [];
  draws = sym (ap (λ (z : KitView N). z.words) timed.rest) ∙ sym (with_front-none s'.words);
  words = tt;
}

-- it was taken, and a call without words was entered at it
pub draw_at : {N : Type 0} (s : KitView N) (moment : ℕ) (s' : KitView N) (call : Call) (e : E) → Timed s moment s' → e.call ≡ call → IsAmong (moments_in call ++ []) (as_moment moment ∷ [])
    → IsAmong (words_in call ++ []) [] → Draw s (e ∷ []) s'
draw_at {N} s moment s' call e timed is moments words = record {
  gave = moment ∷ [];
  gives = gives_one s moment s s' refl timed;
  moments = subst (λ (c : Call). IsAmong (moments_in c ++ []) (as_moment moment ∷ [])) (sym is) moments;
  drew = [];
  draws = sym (ap (λ (z : KitView N). z.words) timed.rest) ∙ sym (with_front-none s'.words);
  words = subst (λ (c : Call). IsAmong (words_in c ++ []) []) (sym is) words;
}

words_at_end : (found : Found) (m : ℕ) → IsAmong (words_in (end_call found m) ++ []) []
words_at_end (founds.Recheck plan checked) m = tt
words_at_end (founds.Audit judged) m = tt
words_at_end (founds.Repair outcome) m = tt
words_at_end (founds.Exit outcome) m = tt

draw_end : (s : S) (moment : ℕ) (s' : S) (found : Found) (e : E) → Timed s moment s' → e.call ≡ end_call found (as_moment moment) → Draw s (e ∷ []) s'
draw_end s moment s' found e timed call =
    draw_at s moment s' (end_call found (as_moment moment)) e timed call (inl (refl, tt)) (words_at_end found (as_moment moment))

words_at_plan : (kind : Upkeep) (m : ℕ) (words : List ℕ) → IsAmong (words_in (plan_call kind m words) ++ []) words
words_at_plan kinds.Recheck m words = tt
words_at_plan kinds.Audit m words = subst (λ (l : List ℕ). IsAmong l words) (sym (append-nil words)) (among_same words)
words_at_plan kinds.Repair m words = subst (λ (l : List ℕ). IsAmong l words) (sym (append-nil words)) (among_same words)
words_at_plan kinds.Exit m words = subst (λ (l : List ℕ). IsAmong l words) (sym (append-nil words)) (among_same words)

readied_words : (kind : Upkeep) (s : S) (drawn : List ℕ) (moment : ℕ) (s' : S) (r : Readied kind s drawn moment s') → s.words ≡ with_front drawn s'.words
readied_words kind s drawn moment s' r = r.drew.words ∙ ap (with_front drawn) (sym (ap (λ (z : S). z.words) r.timed.rest))

-- the words and the moment of a plan were taken, and it wasn't entered
draw_readied : (kind : Upkeep) (s : S) (drawn : List ℕ) (moment : ℕ) (s' : S) → Readied kind s drawn moment s' → Draw s [] s'
draw_readied kind s drawn moment s' r = record {
  gave = moment ∷ [];
  gives = gives_one s moment r.between s' (ap (λ (z : S). z.coming) r.drew.rest) r.timed;
  moments = tt;
  drew = drawn;
  draws = readied_words kind s drawn moment s' r;
  words = tt;
}

draw_plan : (kind : Upkeep) (s : S) (drawn : List ℕ) (moment : ℕ) (s' : S) (p : E) → Readied kind s drawn moment s' → p.call ≡ plan_call kind (as_moment moment) drawn → Draw s (p ∷ []) s'
draw_plan kind s drawn moment s' p r call = record {
  gave = moment ∷ [];
  gives = gives_one s moment r.between s' (ap (λ (z : S). z.coming) r.drew.rest) r.timed;
  moments = subst (λ (c : Call). IsAmong (moments_in c ++ []) (as_moment moment ∷ [])) (sym call) (inl (refl, tt));
  drew = drawn;
  draws = readied_words kind s drawn moment s' r;
  words = subst (λ (c : Call). IsAmong (words_in c ++ []) drawn) (sym call) (words_at_plan kind (as_moment moment) drawn);
}

draw_lacked : (number : ℕ) (s s' : S) → Lacked number s s' → Draw s [] s'
draw_lacked number s s' l = record {
  gave = [];
  gives = ap (λ (z : S). z.coming) l.rest;
  moments = tt;
  drew = l.drawn;
  draws = l.words;
  words = tt;
}

module _ (secret : List ℕ) (scheme : Scheme) where
  draw_follows : (b : Bool) (reply : Reply) (s : S) (rest : List E) (went : Option RoundEnd) (s' : S) → Follows secret scheme b reply s rest went s' → Draw s rest s'
  draw_follows true reply s [] None s' f = absurd f
  draw_follows true reply s [] (Some ends.Through) s' f = absurd f
  draw_follows true reply s [] (Some ends.WordsFault) s' f = absurd f
  draw_follows true reply s [] (Some (ends.TermFull ticket)) s' f = then_draw s f.1 s' [] [] (draw_nodes s f.1 f.3.rest) (draw_timed f.1 f.2 s' f.4)
  draw_follows true reply s [] (Some ends.Stopped) s' f = absurd f
  draw_follows true reply s [] (Some ends.NoMemory) s' f = draw_nodes s s' f.1.rest
  draw_follows true reply s (e ∷ []) went s' f = then_draw s f.between s' [] (e ∷ []) (draw_nodes s f.between f.asks.rest) (draw_end f.between f.moment s' f.found e f.timed f.call)
  draw_follows true reply s (e ∷ g ∷ more) went s' f = absurd f
  draw_follows false reply s rest went s' f = subst (λ (l : List E). Draw s l s') (sym f.0) (draw_same s s' f.2)

  pub draw_part : (kind : Upkeep) (s : S) (new : List E) (went : Option RoundEnd) (s' : S) → Part secret scheme kind s new went s' → Draw s new s'
  draw_part kind s [] None s' p = absurd p
  draw_part kind s [] (Some ends.Through) s' p = absurd p
  draw_part kind s [] (Some ends.WordsFault) s' p = draw_lacked _ s s' p
  draw_part kind s [] (Some (ends.TermFull ticket)) s' p = draw_readied kind s p.0 p.1 s' p.2
  draw_part kind s [] (Some ends.Stopped) s' p = absurd p
  draw_part kind s [] (Some ends.NoMemory) s' p = draw_same s s' p
  draw_part kind s (e ∷ rest) went s' p =
      then_draw s p.ready s' (e ∷ []) rest (draw_plan kind s p.drawn p.moment p.ready e p.readied p.call) (draw_follows (is_plan_of kind e.reply) e.reply p.ready rest went s' p.follows)

  draw_goes : (second : Upkeep) (went : Option RoundEnd) (s : S) (others : List E) (end : RoundEnd) (s' : S) → Goes secret scheme second went s others end s' → Draw s others s'
  draw_goes second (Some why) s others end s' g = subst (λ (l : List E). Draw s l s') (sym g.0) (draw_same s s' g.2)
  draw_goes second None s others end s' g = draw_part second s others g.0 s' g.1

  pub draw_works : (first second : Upkeep) (s : S) (new : List E) (end : RoundEnd) (s' : S) → Works secret scheme first second s new end s' → Draw s new s'
  draw_works first second s new end s' w =
      subst (λ (l : List E). Draw s l s') (sym w.new_is)
      (then_draw s w.between s' w.ones w.others (draw_part first s w.ones w.went w.between w.begins) (draw_goes second w.went w.between w.others end s' w.goes))

  -- a round takes no tick

  ticks_follows : (b : Bool) (reply : Reply) (s : S) (rest : List E) (went : Option RoundEnd) (s' : S) → Follows secret scheme b reply s rest went s' → s'.ticks ≡ s.ticks
  ticks_follows true reply s [] None s' f = absurd f
  ticks_follows true reply s [] (Some ends.Through) s' f = absurd f
  ticks_follows true reply s [] (Some ends.WordsFault) s' f = absurd f
  ticks_follows true reply s [] (Some (ends.TermFull ticket)) s' f = ap (λ (z : S). z.ticks) f.4.rest ∙ ap (λ (z : S). z.ticks) f.3.rest
  ticks_follows true reply s [] (Some ends.Stopped) s' f = absurd f
  ticks_follows true reply s [] (Some ends.NoMemory) s' f = ap (λ (z : S). z.ticks) f.1.rest
  ticks_follows true reply s (e ∷ []) went s' f = ap (λ (z : S). z.ticks) f.timed.rest ∙ ap (λ (z : S). z.ticks) f.asks.rest
  ticks_follows true reply s (e ∷ g ∷ more) went s' f = absurd f
  ticks_follows false reply s rest went s' f = ap (λ (z : S). z.ticks) f.2

  ticks_readied : (kind : Upkeep) (s : S) (drawn : List ℕ) (moment : ℕ) (s' : S) → Readied kind s drawn moment s' → s'.ticks ≡ s.ticks
  ticks_readied kind s drawn moment s' r = ap (λ (z : S). z.ticks) r.timed.rest ∙ ap (λ (z : S). z.ticks) r.drew.rest

  ticks_part : (kind : Upkeep) (s : S) (new : List E) (went : Option RoundEnd) (s' : S) → Part secret scheme kind s new went s' → s'.ticks ≡ s.ticks
  ticks_part kind s [] None s' p = absurd p
  ticks_part kind s [] (Some ends.Through) s' p = absurd p
  ticks_part kind s [] (Some ends.WordsFault) s' p = ap (λ (z : S). z.ticks) p.rest
  ticks_part kind s [] (Some (ends.TermFull ticket)) s' p = ticks_readied kind s p.0 p.1 s' p.2
  ticks_part kind s [] (Some ends.Stopped) s' p = absurd p
  ticks_part kind s [] (Some ends.NoMemory) s' p = ap (λ (z : S). z.ticks) p
  ticks_part kind s (e ∷ rest) went s' p = ticks_follows (is_plan_of kind e.reply) e.reply p.ready rest went s' p.follows ∙ ticks_readied kind s p.drawn p.moment p.ready p.readied

  ticks_goes : (second : Upkeep) (went : Option RoundEnd) (s : S) (others : List E) (end : RoundEnd) (s' : S) → Goes secret scheme second went s others end s' → s'.ticks ≡ s.ticks
  ticks_goes second (Some why) s others end s' g = ap (λ (z : S). z.ticks) g.2
  ticks_goes second None s others end s' g = ticks_part second s others g.0 s' g.1

  pub ticks_works : (first second : Upkeep) (s : S) (new : List E) (end : RoundEnd) (s' : S) → Works secret scheme first second s new end s' → s'.ticks ≡ s.ticks
  ticks_works first second s new end s' w = ticks_goes second w.went w.between w.others end s' w.goes ∙ ticks_part first s w.ones w.went w.between w.begins
