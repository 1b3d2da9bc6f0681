-- The moment and the words of a call that was heard.
use Rattle.std.proofs.Common.{◌≡◌, ℕ, List, [], ◌∷◌, ◌++◌, Option, refl, sym, ◌∙◌, subst, append-nil, inl}
use Rattle.sat_base.proofs.Told.{with_front-none}
use Rattle.machine_calls.specs.declared.call.Call.{Call}
use Rattle.machine_calls.specs.declared.call.Call.TheVariants as calls
use Rattle.machine_calls.specs.declared.wish.Wish.{Wish}
use Rattle.sat_book.specs.Legal.{E}
use Rattle.sat_sessions.specs.Draws.{Draws, IsAmong, as_moment, moments_in, words_in}
use Rattle.sat_sessions.specs.Listening.{Told, TakesNone, Takes, IsCallOf, Hears}
use Rattle.sat_sessions.specs.Serves.{IsOf}
use Rattle.sat_sessions.specs.declared.listening.Listened.{Listened}
use Rattle.sat_sessions.specs.declared.listening.Listened.TheVariants as listens

among_same : (xs : List ℕ) → IsAmong xs xs
among_same [] = tt
among_same (x ∷ xs) = inl (refl, among_same xs)

draws_none : (told : Told) → TakesNone told → Draws told []
draws_none told t = record {
  gave = [];
  gives = t.moments;
  moments = tt;
  drew = [];
  draws = sym t.words ∙ sym (with_front-none told.words_after);
  words = tt;
}

-- a moment and words were taken, and no call was entered
draws_some : (told : Told) (moment : ℕ) (drawn : List ℕ) → Takes told moment drawn → Draws told []
draws_some told moment drawn t = record {
  gave = moment ∷ [];
  gives = (told.coming_after, t.timed, refl);
  moments = tt;
  drew = drawn;
  draws = t.fresh;
  words = tt;
}

draws_one : (told : Told) (wish : Wish) (call : Call) (e : E) → IsCallOf wish told call → listens.Call call ≡ listens.Call e.call → Draws told (e ∷ [])
draws_one told wish call e is same =
    let there : calls.Asked (as_moment is.moment) is.drawn wish ≡ e.call = sym is.is_call ∙ cc in
    record {
      gave = is.moment ∷ [];
      gives = (told.coming_after, is.takes.timed, refl);
      moments = subst (λ (c : Call). IsAmong (moments_in c ++ []) (as_moment is.moment ∷ [])) there (inl (refl, tt));
      drew = is.drawn;
      draws = is.takes.fresh;
      words = subst (λ (c : Call). IsAmong (words_in c ++ []) is.drawn) there (subst (λ (l : List ℕ). IsAmong l is.drawn) (sym (append-nil is.drawn)) (among_same is.drawn));
    }

pub draws_heard : (secret : List ℕ) (left : Option (List ℕ)) (told : Told) (heard : Listened) (new : List E) → Hears secret left told heard → IsOf heard new → Draws told new
draws_heard secret left told (listens.Call call) [] h o = draws_some told h.1.moment h.1.drawn h.1.takes
draws_heard secret left told (listens.Call call) (e ∷ []) h o = draws_one told h.0 call e h.1 o
draws_heard secret left told (listens.Call call) (e ∷ f ∷ more) h o = absurd o
draws_heard secret left told (listens.Edge error) [] h o = draws_none told h.0
draws_heard secret left told (listens.Edge error) (e ∷ []) h o = absurd (cc)
draws_heard secret left told (listens.Edge error) (e ∷ f ∷ more) h o = absurd o
draws_heard secret left told listens.ReadFault [] h o = draws_none told h
draws_heard secret left told listens.ReadFault (e ∷ []) h o = absurd (cc)
draws_heard secret left told listens.ReadFault (e ∷ f ∷ more) h o = absurd o
draws_heard secret left told listens.WordsFault [] h o = draws_some told h.1.moment h.1.drawn h.1.takes
draws_heard secret left told listens.WordsFault (e ∷ []) h o = absurd (cc)
draws_heard secret left told listens.WordsFault (e ∷ f ∷ more) h o = absurd o
