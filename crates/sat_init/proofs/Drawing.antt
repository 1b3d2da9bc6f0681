-- Words that are drawn one after another, and their bytes.
use Rattle.std.proofs.Common.{◌≡◌, ℕ, List, [], ◌∷◌, ◌++◌, Option, Some, None, refl, sym, ap, ◌∙◌}
use Rattle.std.proofs.lemmas.List.{append-nil, append_assoc}
use Rattle.sat_base.specs.Outside.{with_front}

-- four pieces behind one another
pub joined : (made one two three four a b c d a' b' c' d' : List ℕ)
    → made ≡ [] → one ≡ made ++ a → two ≡ one ++ b → three ≡ two ++ c → four ≡ three ++ d
    → a ≡ a' → b ≡ b' → c ≡ c' → d ≡ d' → four ≡ a' ++ (b' ++ (c' ++ (d' ++ [])))
joined made one two three four a b c d a' b' c' d' none e f g h i j k l =
    let front : one ≡ a' = e ∙ ap (λ m. m ++ a) none ∙ i in
    let both : two ≡ a' ++ b' = f ∙ ap (λ m. m ++ b) front ∙ ap (λ m. a' ++ m) j in
    let three_are : three ≡ (a' ++ b') ++ c' = g ∙ ap (λ m. m ++ c) both ∙ ap (λ m. (a' ++ b') ++ m) k in
    let four_are : four ≡ ((a' ++ b') ++ c') ++ d' = h ∙ ap (λ m. m ++ d) three_are ∙ ap (λ m. ((a' ++ b') ++ c') ++ m) l in
    four_are ∙ append_assoc (a' ++ b') c' d' ∙ append_assoc a' b' (c' ++ d') ∙ ap (λ e. a' ++ (b' ++ (c' ++ e))) (sym (append-nil d'))

-- four draws take the four words from the front
pub drawn_four : (a b c d : ℕ) (left one two three after : Option (List ℕ))
    → left ≡ with_front (a ∷ []) one → one ≡ with_front (b ∷ []) two → two ≡ with_front (c ∷ []) three → three ≡ with_front (d ∷ []) after
    → left ≡ with_front (a ∷ b ∷ c ∷ d ∷ []) after
drawn_four a b c d left one two three None e f g h = e ∙ ap (with_front (a ∷ [])) (f ∙ ap (with_front (b ∷ [])) (g ∙ ap (with_front (c ∷ [])) h))
drawn_four a b c d left one two three (Some rest) e f g h = e ∙ ap (with_front (a ∷ [])) (f ∙ ap (with_front (b ∷ [])) (g ∙ ap (with_front (c ∷ [])) h))
