-- Moments and words that were taken one after another.
use Rattle.std.proofs.Common.{◌≡◌, ℕ, List, [], ◌∷◌, ◌++◌, map, Option, sym, ap, ◌∙◌, subst, inl, inr}
use Rattle.std.proofs.lemmas.List.Concat.{flat_map-append}
use mathlib.Core.List.{map-append}
use Rattle.sat_base.specs.Outside.{with_front}
use Rattle.sat_base.proofs.Told.{with_front-front, with_front-none}
use Rattle.sat_book.specs.Legal.{E}
use Rattle.sat_sessions.specs.Draws.{Draws, Gives, IsAmong, as_moment, moments_in, moments_of, words_in, words_of}
use Rattle.sat_sessions.specs.Listening.{Told}

among_more : (xs ys zs ws : List ℕ) → IsAmong xs ys → IsAmong zs ws → IsAmong (xs ++ zs) (ys ++ ws)
among_more [] [] zs ws a b = b
among_more [] (y ∷ ys) [] ws a b = tt
among_more [] (y ∷ ys) (z ∷ zs) ws a b = inr (among_more [] ys (z ∷ zs) ws tt b)
among_more (x ∷ xs) [] zs ws a b = absurd a
among_more (x ∷ xs) (y ∷ ys) zs ws (inl a) b = inl (a.0, among_more xs ys zs ws a.1 b)
among_more (x ∷ xs) (y ∷ ys) zs ws (inr a) b = inr (among_more (x ∷ xs) ys zs ws a b)

gives_more : (a : Option (List ℕ)) (xs : List ℕ) (b : Option (List ℕ)) (ys : List ℕ) (c : Option (List ℕ)) → Gives a xs b → Gives b ys c → Gives a (xs ++ ys) c
gives_more a [] b ys c g h = subst (λ (z : Option (List ℕ)). Gives z ys c) g h
gives_more a (x ∷ xs) b ys c g h = (g.0, g.1, gives_more g.0 xs b ys c g.2 h)

moments_append : (xs ys : List E) → moments_of (xs ++ ys) ≡ moments_of xs ++ moments_of ys
moments_append xs ys = flat_map-append (λ (e : E). moments_in e.call) xs ys

words_append : (xs ys : List E) → words_of (xs ++ ys) ≡ words_of xs ++ words_of ys
words_append xs ys = flat_map-append (λ (e : E). words_in e.call) xs ys

pub draws_nothing : (c : Told) → c.coming_after ≡ c.coming → c.words_after ≡ c.words → Draws c []
draws_nothing c p q = record { gave = []; gives = p; moments = tt; drew = []; draws = sym q ∙ sym (with_front-none c.words_after); words = tt }

-- what was drawn first, and then
pub draws_then : (coming mid coming' : Option (List ℕ)) (words between words' : Option (List ℕ)) (n m n' : ℕ) (xs ys : List E)
    → Draws (record { coming = coming; coming_after = mid; words = words; words_after = between; faults = n; faults_after = m }) xs
    → Draws (record { coming = mid; coming_after = coming'; words = between; words_after = words'; faults = m; faults_after = n' }) ys
    → Draws (record { coming = coming; coming_after = coming'; words = words; words_after = words'; faults = n; faults_after = n' }) (xs ++ ys)
draws_then coming mid coming' words between words' n m n' xs ys a b = record {
  gave = a.gave ++ b.gave;
  gives = gives_more coming a.gave mid b.gave coming' a.gives b.gives;
  moments = subst (λ (z : List ℕ × List ℕ). IsAmong z.0 z.1) (λ i. (sym (moments_append xs ys) i, sym (map-append as_moment a.gave b.gave) i)) (among_more (moments_of xs) (map as_moment a.gave) (moments_of ys) (map as_moment b.gave) a.moments b.moments);
  drew = a.drew ++ b.drew;
  draws = a.draws ∙ (ap (with_front a.drew) b.draws ∙ with_front-front a.drew b.drew words');
  words = subst (λ (l : List ℕ). IsAmong l (a.drew ++ b.drew)) (sym (words_append xs ys)) (among_more (words_of xs) a.drew (words_of ys) b.drew a.words b.words);
}
