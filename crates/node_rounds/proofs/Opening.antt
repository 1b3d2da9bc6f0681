-- What comes of entering a plan or its end, put together.
use Rattle.std.proofs.Common.{◌≡◌, ℕ, List, [], ◌∷◌, length, Option, Some, None, Result, Ok, Err, refl, sym, ap, ◌∙◌, subst}
use Rattle.std.specs.Global.{Vec}
use Rattle.sat_base.specs.Clock.{or_zero}
use Rattle.sat_base.specs.Outside.{with_front}
use Rattle.machine_calls.specs.declared.call.Call.{Call}
use Rattle.machine_calls.specs.declared.reply.Reply.{Reply}
use Rattle.sat_sessions.specs.Draws.{as_moment}
use Rattle.sat_sessions.specs.Sessions.{V}
use Rattle.sat_sessions.specs.declared.rounds.RoundEnd.{RoundEnd}
use Rattle.sat_sessions.specs.declared.rounds.RoundEnd.TheVariants as ends
use Rattle.node_rounds.specs.declared.upkeep.Found.{Found}
use Rattle.node_rounds.specs.declared.upkeep.Upkeep.{Upkeep}
use Rattle.node_rounds.specs.Calls.{Turns}
use Rattle.node_rounds.specs.Drawing.{Wants}
use Rattle.node_rounds.specs.Entering.{FailsToOpen, Finishes, Opens, went_after}
use Rattle.node_rounds.specs.Parts.{S, Readied}
use Rattle.node_rounds.specs.Upkeep.{end_call, plan_call, words_of}

-- the words and the faults of a kit
abbrev with_words : S → Option (List ℕ) → ℕ → S
with_words s words faults = record s { words = words; words_faults = faults }

-- only words were drawn
abbrev pub IsDrawnFrom : S → S → Type 0
IsDrawnFrom s s' = s' ≡ record s { words = s'.words; words_faults = s'.words_faults }

pub fails_to_draw : {K : Type 0} (kind : Upkeep) (s s' : S) (k : V K) (places : Vec ℕ) (end : RoundEnd) → Wants (words_of kind) s.words s.words_faults s'.words s'.words_faults end → IsDrawnFrom s s'
    → FailsToOpen kind s k end s' k places places
fails_to_draw kind s s' k places ends.Through wants rest = absurd wants
fails_to_draw kind s s' k places ends.WordsFault wants rest = (record { drawn = wants.0; few = wants.1; words = wants.2; faults = wants.3; rest = rest }, refl, refl)
fails_to_draw kind s s' k places (ends.TermFull ticket) wants rest = absurd wants
fails_to_draw kind s s' k places ends.Stopped wants rest = absurd wants
fails_to_draw kind s s' k places ends.NoMemory wants rest = (rest ∙ ap (λ (w : Option (List ℕ)). with_words s w s'.words_faults) wants.0 ∙ ap (with_words s s.words) wants.1, refl, refl)

pub readied_by : (kind : Upkeep) (s m s' : S) (drawn : List ℕ) (moment : ℕ) → length drawn ≡ words_of kind → s.words ≡ with_front drawn m.words → m.words_faults ≡ s.words_faults → IsDrawnFrom s m
    → or_zero m.coming ≡ with_front (moment ∷ []) s'.coming → s' ≡ record m { coming = s'.coming } → Readied kind s drawn moment s'
readied_by kind s m s' drawn moment number words faults rest timed others = record {
  between = m;
  drew = record { number_is = number; words = words; rest = rest ∙ ap (with_words s m.words) faults };
  timed = record { timed = timed; rest = others };
}

pub opened : {K : Type 0} (kind : Upkeep) (s : S) (k : V K) (reply : Reply) (s' : S) (k' : V K) (old new : Vec ℕ) (drawn : List ℕ) (moment : ℕ) (call : Call) → Readied kind s drawn moment s'
    → call ≡ plan_call kind (as_moment moment) drawn → Turns k call (Ok reply) k' old new → Opens kind s k (Ok reply) s' k' old new
opened kind s k reply s' k' old new drawn moment call readied is turns = (drawn, moment, readied, subst (λ (c : Call). Turns k c (Ok reply) k' old new) is turns)

pub opened_full : {K : Type 0} (kind : Upkeep) (s : S) (k : V K) (ticket : ℕ) (s' : S) (k' : V K) (old new : Vec ℕ) (drawn : List ℕ) (moment : ℕ) (call : Call) → Readied kind s drawn moment s'
    → call ≡ plan_call kind (as_moment moment) drawn → Turns k call (Err ticket) k' old new → Opens kind s k (Err (ends.TermFull ticket)) s' k' old new
opened_full kind s k ticket s' k' old new drawn moment call readied is turns = (drawn, moment, readied, subst (λ (c : Call). Turns k c (Err ticket) k' old new) is turns)

pub finished : {K : Type 0} (found : Found) (coming : Option (List ℕ)) (k : V K) (went : Option RoundEnd) (coming' : Option (List ℕ)) (k' : V K) (old new : Vec ℕ) (moment : ℕ) (call : Call) (answered : Result Reply ℕ)
    → or_zero coming ≡ with_front (moment ∷ []) coming' → call ≡ end_call found (as_moment moment) → Turns k call answered k' old new → went ≡ went_after answered → Finishes found coming k went coming' k' old new
finished found coming k went coming' k' old new moment call answered timed is turns went_is = record {
  moment = moment;
  timed = timed;
  answered = answered;
  turns = subst (λ (c : Call). Turns k c answered k' old new) is turns;
  went_is = went_is;
}
