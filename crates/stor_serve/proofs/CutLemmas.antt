-- Lists that are cut in two.
use Rattle.std.proofs.Common.{◌≡◌, zero, suc, ℕ, List, [], ◌∷◌, ◌++◌, length, Some, refl, ap, arith}
use Rattle.std.specs.Prelude.{All, slice_get}
use Rattle.std.proofs.lemmas.List.Elements.{All-cons, All-head, All-nil, All-tail}

pub all_parts : {X : Type 0} (P : X → Type 0) (xs ys : List X) → All P (xs ++ ys) → All P xs × All P ys
all_parts P [] ys all = (All-nil P, all)
all_parts P (x ∷ xs) ys all =
    let rest = all_parts P xs ys (All-tail P x (xs ++ ys) all) in
    (All-cons P x xs (All-head P x (xs ++ ys) all) rest.0, rest.1)

pub got_left : {X : Type 0} (xs ys : List X) (k : ℕ) (x : X) → slice_get xs k ≡ Some x → slice_get (xs ++ ys) k ≡ Some x
got_left [] ys k x got = absurd cc
got_left (first ∷ xs) ys zero x got = got
got_left (first ∷ xs) ys (suc k) x got = got_left xs ys k x got

pub got_right : {X Y : Type 0} (xs ys : List X) (zs rest : List Y) → length xs ≡ length zs → slice_get (xs ++ ys) (length (zs ++ rest)) ≡ slice_get ys (length rest)
got_right [] ys [] rest same = refl
got_right (x ∷ xs) ys (z ∷ zs) rest same = got_right xs ys zs rest (omega arith)
got_right [] ys (z ∷ zs) rest same = absurd (omega arith)
got_right (x ∷ xs) ys [] rest same = absurd (omega arith)

-- the one at the cut stands in the front part, or behind it
pub data Cut {X : Type 0} (xs ys before after : List X) (x : X) : Type 0 where
  in_front : (rest : List X) → xs ≡ before ++ x ∷ rest → after ≡ rest ++ ys → Cut xs ys before after x
  behind : (rest : List X) → before ≡ xs ++ rest → ys ≡ rest ++ x ∷ after → Cut xs ys before after x

pub cut_at : {X : Type 0} (xs ys before after : List X) (x : X) → xs ++ ys ≡ before ++ x ∷ after → Cut xs ys before after x
cut_at [] ys before after x same = behind before refl same
cut_at (y ∷ xs) ys [] after x same = in_front xs (let e : y ≡ x = cc in ap (λ z. z ∷ xs) e) cc
cut_at (y ∷ xs) ys (z ∷ before) after x same = longer (cut_at xs ys before after x cc)
  where
    longer : Cut xs ys before after x → Cut (y ∷ xs) ys (z ∷ before) after x
    longer (in_front rest p q) = in_front rest (let e : y ≡ z = cc in cc) q
    longer (behind rest p q) = behind rest (let e : y ≡ z = cc in cc) q
