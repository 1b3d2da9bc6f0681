-- Rounds for which random words ran out are counted.
use Rattle.std.proofs.Common.{◌≡◌, ℕ, ◌≤◌, List, [], ◌∷◌, Bool, true, false, Option, Some, None, refl, sym, ap, ◌∙◌, subst, arith}
use Rattle.std.specs.Prelude.{◌||◌}
use Rattle.std.specs.List.{list_any}
use Rattle.sat_base.specs.Outside.{CountsExactly, Rose}
use Rattle.sat_base.specs.declared.scheme.Scheme.{Scheme}
use Rattle.machine_calls.specs.declared.reply.Reply.{Reply}
use Rattle.sat_book.specs.Book.{start_of}
use Rattle.sat_book.specs.Legal.{E}
use Rattle.sat_book.specs.declared.opening.Opening.{Opening}
use Rattle.sat_sessions.specs.declared.rounds.Round.{Round}
use Rattle.sat_sessions.specs.declared.rounds.RoundEnd.{RoundEnd}
use Rattle.sat_sessions.specs.declared.rounds.RoundEnd.TheVariants as ends
use Rattle.sat_term.specs.Term.{AreTold}
use Rattle.node_rounds.specs.Kits.{Tells}
use Rattle.node_rounds.specs.Parts.{S, Follows, Part, Planned, Readied, Unended}
use Rattle.node_rounds.specs.Upkeep.{end_of, is_plan_of, is_refusal_to_stop, stops_by}
use Rattle.node_rounds.specs.Works.{Goes, Works}
use Rattle.node_rounds.specs.declared.upkeep.Upkeep.{Upkeep}
use Rattle.satellite_cli.specs.Ending.{is_wordless}
use Rattle.satellite_cli.specs.Serving.{RoseBelow}

abbrev wordless_part : Option RoundEnd → Bool
wordless_part None = false
wordless_part (Some why) = is_wordless why

readied_same : (kind : Upkeep) (s : S) (drawn : List ℕ) (moment : ℕ) (s' : S) → Readied kind s drawn moment s' → s'.words_faults ≡ s.words_faults
readied_same kind s drawn moment s' r = ap (λ (z : S). z.words_faults) r.timed.rest ∙ ap (λ (z : S). z.words_faults) r.drew.rest

stops_same : (b : Bool) → wordless_part (stops_by b) ≡ false
stops_same true = refl
stops_same false = refl

end_same : (went : Option RoundEnd) → is_wordless (end_of went) ≡ wordless_part went
end_same None = refl
end_same (Some why) = refl

counted_same : (b : Bool) (old new : ℕ) → b ≡ false → new ≡ old → CountsExactly b old new
counted_same true old new is same = absurd (cc)
counted_same false old new is same = same

counted_from : (b : Bool) (old mid new : ℕ) → mid ≡ old → CountsExactly b mid new → CountsExactly b old new
counted_from b old mid new same counts = subst (λ (n : ℕ). CountsExactly b n new) same counts

counted_to : (b : Bool) (old mid new : ℕ) → CountsExactly b old mid → new ≡ mid → CountsExactly b old new
counted_to b old mid new counts same = subst (λ (n : ℕ). CountsExactly b old n) (sym same) counts

counted_by : (b c : Bool) (old new : ℕ) → b ≡ c → CountsExactly b old new → CountsExactly c old new
counted_by b c old new same counts = subst (λ (x : Bool). CountsExactly x old new) same counts

module _ (secret : List ℕ) (scheme : Scheme) where
  unended_words : (reply : Reply) (s : S) (went : Option RoundEnd) (s' : S) → Unended secret scheme reply s went s' → CountsExactly (wordless_part went) s.words_faults s'.words_faults
  unended_words reply s None s' u = absurd u
  unended_words reply s (Some ends.Through) s' u = absurd u
  unended_words reply s (Some ends.WordsFault) s' u = absurd u
  unended_words reply s (Some (ends.TermFull ticket)) s' (found, between, moment, asks, timed) = ap (λ (z : S). z.words_faults) timed.rest ∙ ap (λ (z : S). z.words_faults) asks.rest
  unended_words reply s (Some ends.Stopped) s' u = absurd u
  unended_words reply s (Some ends.NoMemory) s' (none, asks) = ap (λ (z : S). z.words_faults) asks.rest

  planned_words : (reply : Reply) (s : S) (rest : List E) (went : Option RoundEnd) (s' : S) → Planned secret scheme reply s rest went s' → CountsExactly (wordless_part went) s.words_faults s'.words_faults
  planned_words reply s [] went s' p = unended_words reply s went s' p
  planned_words reply s (e ∷ []) went s' p =
      counted_same (wordless_part went) s.words_faults s'.words_faults (ap wordless_part p.went_is ∙ stops_same (is_refusal_to_stop e.reply))
      (ap (λ (z : S). z.words_faults) p.timed.rest ∙ ap (λ (z : S). z.words_faults) p.asks.rest)
  planned_words reply s (e ∷ f ∷ more) went s' p = absurd p

  follows_words : (b : Bool) (reply : Reply) (s : S) (rest : List E) (went : Option RoundEnd) (s' : S) → Follows secret scheme b reply s rest went s' → CountsExactly (wordless_part went) s.words_faults s'.words_faults
  follows_words true reply s rest went s' f = planned_words reply s rest went s' f
  follows_words false reply s rest went s' f =
      counted_same (wordless_part went) s.words_faults s'.words_faults (ap wordless_part f.1 ∙ stops_same (is_refusal_to_stop reply)) (ap (λ (z : S). z.words_faults) f.2)

  part_words : (kind : Upkeep) (s : S) (new : List E) (went : Option RoundEnd) (s' : S) → Part secret scheme kind s new went s' → CountsExactly (wordless_part went) s.words_faults s'.words_faults
  part_words kind s [] None s' p = absurd p
  part_words kind s [] (Some ends.Through) s' p = absurd p
  part_words kind s [] (Some ends.WordsFault) s' p = p.faults
  part_words kind s [] (Some (ends.TermFull ticket)) s' (drawn, moment, readied) = readied_same kind s drawn moment s' readied
  part_words kind s [] (Some ends.Stopped) s' p = absurd p
  part_words kind s [] (Some ends.NoMemory) s' p = ap (λ (z : S). z.words_faults) p
  part_words kind s (e ∷ rest) went s' p =
      counted_from (wordless_part went) s.words_faults p.ready.words_faults s'.words_faults (readied_same kind s p.drawn p.moment p.ready p.readied)
      (follows_words (is_plan_of kind e.reply) e.reply p.ready rest went s' p.follows)

  works_words : (first second : Upkeep) (s : S) (new : List E) (end : RoundEnd) (s' : S) → Works secret scheme first second s new end s' → CountsExactly (is_wordless end) s.words_faults s'.words_faults
  works_words first second s new end s' w = go w.went (part_words first s w.ones w.went w.between w.begins) w.goes
    where
      go : (went : Option RoundEnd) → CountsExactly (wordless_part went) s.words_faults w.between.words_faults
          → Goes secret scheme second went w.between w.others end s' → CountsExactly (is_wordless end) s.words_faults s'.words_faults
      go (Some why) counts (none, same, left) =
          counted_by (is_wordless why) (is_wordless end) s.words_faults s'.words_faults (sym (ap is_wordless same))
          (counted_to (is_wordless why) s.words_faults w.between.words_faults s'.words_faults counts (ap (λ (z : S). z.words_faults) left))
      go None same (went, part, is) =
          counted_by (wordless_part went) (is_wordless end) s.words_faults s'.words_faults (sym (ap is_wordless is ∙ end_same went))
          (counted_from (wordless_part went) s.words_faults w.between.words_faults s'.words_faults same (part_words second w.between w.others went s' part))

-- some round lacked words exactly where a count rose that ended below the end of its type
pub record CountsWordless (some : Bool) (old new : ℕ) : Type 0 where
  pub never : old ≤ new
  pub rose : some ≡ true → Rose old new
  pub only : RoseBelow old new → some ≡ true

none_wordless : (old new : ℕ) → new ≡ old → CountsWordless false old new
none_wordless old new same = record {
  never = omega (arith, same);
  rose = λ h. absurd (cc);
  only = λ rose. (let a = rose.0 in let b = rose.1 in absurd (omega (arith, same)));
}

one_wordless : (c some : Bool) (old mid new : ℕ) → CountsExactly c old mid → CountsWordless some mid new → CountsWordless (c || some) old new
one_wordless true some old mid new counts rest = record {
  never = (let a = counts.0 in let b = rest.never in omega arith);
  rose = λ h. (let a = counts.1 in let b = rest.never in omega arith);
  only = λ rose. refl;
}
one_wordless false some old mid new counts rest = subst (λ (n : ℕ). CountsWordless some n new) counts rest

module _ (first second : Upkeep) (opening : Opening) (h : List E) where
  pub told_words : (s : S) (xs : List Round) (made : List E) (s' : S) → AreTold (Tells first second (Some opening)) h s xs made s'
      → CountsWordless (list_any (λ (x : Round). is_wordless x.end) xs) s.words_faults s'.words_faults
  told_words s [] made s' a = none_wordless s.words_faults s'.words_faults a.2
  told_words s (x ∷ xs) made s' (m, new, rest, made_is, named, did, told) =
      one_wordless (is_wordless x.end) (list_any (λ (y : Round). is_wordless y.end) xs) s.words_faults m.words_faults s'.words_faults
      (works_words (start_of opening).setup.secret did.scheme first second (record s { ticks = m.ticks }) new x.end m did.works) (told_words m xs rest s' told)
