-- Fronts of bytes, and items of lists.
use Rattle.std.specs.Prelude.{Result, Ok, Err, ◌≢◌}
use Rattle.record_rows.specs.declared.coded.Unread.{Unread}
use Rattle.record_rows.specs.declared.coded.Unread.TheVariants as no
use Rattle.std.proofs.Common.{◌≡◌, ◌+◌, ◌-◌, ◌++◌, ◌<◌, ◌∷◌, [], ℕ, suc, zero, List, length, take, drop, get_or, arith, refl, ap, sym, ◌∙◌, append_assoc, append-nil, length-drop, length-take, ◌≤◌}
use Rattle.std.specs.List.{flat_map}
use Rattle.std.proofs.lemmas.Grind.{flat_map-append}
use Rattle.std.proofs.lemmas.List.{drop_at, drop-drop, take_all}
use Rattle.std.proofs.Math.Seq.{take-add}
use Rattle.std.proofs.lemmas.List.Concat.{flat_map-cons}

pub joined : (n m : ℕ) (b x y : List ℕ) → take n b ≡ x → take m (drop n b) ≡ y → take (n + m) b ≡ x ++ y
joined n m b x y e f = take-add n m b ∙ rw (e, f) refl

-- a run from a place to the end
pub to_end : (at : ℕ) (b : List ℕ) → take (length b - at) (drop at b) ≡ drop at b
to_end at b = take_all (length b - at) (drop at b) (omega (arith, length-drop at b))

-- the item at a place, without one to stand in for it
pub record HeadOf {A : Type 0} (xs : List A) (i : ℕ) : Type 0 where
  pub head : A
  pub rest : drop i xs ≡ head ∷ drop (suc i) xs
  pub front : take (suc i) xs ≡ take i xs ++ head ∷ []
  pub at : (d : A) → get_or xs i d ≡ head

pub head_of : {A : Type 0} (xs : List A) (i : ℕ) → i < length xs → HeadOf xs i
head_of [] i lt = absurd (omega (arith, lt))
head_of (x ∷ xs) zero lt = record { head = x; rest = refl; front = refl; at = λ d. refl }
head_of (x ∷ xs) (suc i) lt =
    let r = head_of xs i (omega arith) in
    record { head = r.head; rest = r.rest; front = ap (λ l. x ∷ l) r.front; at = r.at }

-- what stands behind the items that were read
pub behind : {A : Type 0} (f : A → List ℕ) (xs : List A) (i at : ℕ) (b rest : List ℕ) (h : HeadOf xs i)
    → drop at b ≡ flat_map f (drop i xs) ++ rest → take (length b - at) (drop at b) ≡ f h.head ++ (flat_map f (drop (suc i) xs) ++ rest)
behind f xs i at b rest h e = to_end at b ∙ e ∙ rw (h.rest, flat_map-cons, append_assoc) refl

pub behind_next : {A : Type 0} (f : A → List ℕ) (xs : List A) (i at size : ℕ) (b rest : List ℕ) (h : HeadOf xs i)
    → take (length b - at) (drop at b) ≡ f h.head ++ (flat_map f (drop (suc i) xs) ++ rest) → size ≡ length (f h.head)
    → drop (at + size) b ≡ flat_map f (drop (suc i) xs) ++ rest
behind_next f xs i at size b rest h e long =
    sym (drop-drop size at b) ∙ rw (sym (to_end at b) ∙ e) (drop_at (f h.head) (flat_map f (drop (suc i) xs) ++ rest) size (sym long))

-- one more item read, and what stands behind it
pub one_more : {A : Type 0} (f : A → List ℕ) (xs : List A) (i at size : ℕ) (b rest : List ℕ) (front : List A) (x : A) (h : HeadOf xs i)
    → front ≡ take i xs → take (length b - at) (drop at b) ≡ f h.head ++ (flat_map f (drop (suc i) xs) ++ rest)
    → ◌≡◌ {A = A × ℕ} (x, size) (h.head, length (f h.head))
    → (front ++ x ∷ [] ≡ take (suc i) xs) × (drop (at + size) b ≡ flat_map f (drop (suc i) xs) ++ rest)
one_more f xs i at size b rest front x h was stands is =
    (rw (was, ap (λ p. p.0) is) (sym h.front), behind_next f xs i at size b rest h stands (ap (λ p. p.1) is))

pub grown : {A : Type 0} (f : A → List ℕ) (xs : List A) (x : A) → flat_map f (xs ++ x ∷ []) ≡ flat_map f xs ++ f x
grown f xs x = rw (flat_map-append, flat_map-cons) (ap (λ l. flat_map f xs ++ l) (append-nil (f x)))

-- what stands behind a tag
pub tagged : (n m t : ℕ) (b y : List ℕ) → take n b ≡ t ∷ [] → take m (take (length b - n) (drop n b)) ≡ y → take (n + m) b ≡ t ∷ y
tagged n m t b y e f = joined n m b (t ∷ []) y e (rw (to_end n b) at f)

-- what stands behind the tag of bytes that begin with one
pub untag : (n t s : ℕ) (b y : List ℕ) → take n b ≡ t ∷ [] → n ≤ length b → b ≡ s ∷ y → take (length b - n) (drop n b) ≡ y
untag n t s b y e le is =
    let one : n ≡ 1 = omega (arith, length-take n b, ap length e, le) in
    to_end n b ∙ rw (one, is) refl

-- what is read where a spelling stands at the front, memory being there
pub took : {A : Type 0} (r : Result A Unread) (a x : A) → r ≡ Ok a → (r ≢ Err no.NoMemory → r ≡ Ok x) → a ≡ x
took r a x was only = let e = only (λ none. absurd (cc)) in cc

-- nothing else is refused there
pub refused : {A B : Type 0} (r : Result A Unread) (s : Result B Unread) (x : A) (w : Unread) → r ≡ Err w → s ≡ Err w
    → (r ≢ Err no.NoMemory → r ≡ Ok x) → s ≢ Err no.NoMemory → (P : Type 0) → P
refused r s x w was told only mem P = let e = only (λ none. mem (told ∙ cc)) in absurd (cc)

-- the tag of bytes that begin with one
pub tag_of : (n t s : ℕ) (b y : List ℕ) → take n b ≡ t ∷ [] → n ≤ length b → b ≡ s ∷ y → t ≡ s
tag_of n t s b y e le is =
    let one : n ≡ 1 = omega (arith, length-take n b, ap length e, le) in
    let both : t ∷ [] ≡ s ∷ [] = sym e ∙ rw (one, is) refl in
    ap (λ l. get_or l 0 0) both

-- how many bytes a tag and what stands behind it have
pub behind_tag : (n t : ℕ) (b : List ℕ) (size long : ℕ) → take n b ≡ t ∷ [] → n ≤ length b → size ≡ long → n + size ≡ suc long
behind_tag n t b size long e le is = omega (arith, length-take n b, ap length e, le, is)
