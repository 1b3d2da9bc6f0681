-- How the steps of elimination reach the reduced form, and what is read off it.
use Rattle.std.proofs.Common.{ℕ, zero, suc, ◌≡◌, ◌≢◌, ◌<◌, ◌≤◌, refl, sym, ap, ◌∙◌, arith, ◌⊎◌, inl, inr}
use Rattle.std.proofs.lemmas.Bool.{cases_eq, cases_lt}
use lib.Bits.{xor_self, xor_zero_r}
use Rattle.gf256.specs.Field.{◌⊕◌, ◌⊗◌, inverse}
use Rattle.gf256.specs.Sums.{total}
use Rattle.gf_linear.specs.System.{IsSolution}
use Rattle.gf_linear.specs.Elimination.{IsPivotRaised, IsEliminated, IsReduced, IsReadOff}
use Rattle.gf256.proofs.Laws.{product_comm, product_assoc, zero_product, product_zero, no_divisors, one_product, product_one, inverse_product}
use Rattle.gf256.proofs.Sums.{total_zeros, total_one}
use Rattle.gf256.proofs.Ring.{product_left}

-- ---- the steps
-- no column is reduced yet
pub reduced_none : (rows : ℕ) (M : ℕ → ℕ → ℕ) (mark : ℕ → ℕ) → IsReduced rows 0 0 M mark
reduced_none rows M mark = record {
  low = omega arith;
  below = λ i j a b h. absurd (omega arith);
  marked = λ j h ne. absurd (omega arith);
  pivot = λ j r h e. absurd (omega arith);
  onto = λ r h. absurd (omega arith);
  once = λ j l r h g e f. absurd (omega arith);
}

-- one more column, with no pivot
pub reduced_skip : (rows rank c : ℕ) (M : ℕ → ℕ → ℕ) (mark new : ℕ → ℕ)
    → IsReduced rows rank c M mark
    → ((i : ℕ) → rank ≤ i → i < rows → M i c ≡ 0) → ((j : ℕ) → j < c → new j ≡ mark j) → new c ≡ 0
    → IsReduced rows rank (suc c) M new
reduced_skip rows rank c M mark new p zeros same here = record {
  low = p.low;
  below = λ i j a b h. below i j a b h (cases_eq j c);
  marked = λ j h ne. marked j h ne (cases_eq j c);
  pivot = λ j r h e. pivot j r h e (cases_eq j c);
  onto = λ r h. let o = p.onto r h in (o.0, omega (arith, o.1), same o.0 o.1 ∙ o.2);
  once = λ j l r h g e f. once j l r h g e f (cases_eq j c) (cases_eq l c);
}
  where
    below : (i j : ℕ) → rank ≤ i → i < rows → j < suc c → (j ≡ c) ⊎ (j ≢ c) → M i j ≡ 0
    below i j a b h (inl e) = ap (M i) e ∙ zeros i a b
    below i j a b h (inr ne) = p.below i j a b (omega arith)

    marked : (j : ℕ) → j < suc c → new j ≢ 0 → (j ≡ c) ⊎ (j ≢ c) → new j ≤ rank
    marked j h ne (inl e) = absurd (ne (ap new e ∙ here))
    marked j h ne (inr q) =
        let l : j < c = omega arith in
        let e = same j l in
        let m : mark j ≢ 0 = omega arith in
        omega (arith, p.marked j l m)

    not_here : (j r : ℕ) → new j ≡ suc r → j ≡ c → ⊥
    not_here j r e q = let z : new j ≡ 0 = ap new q ∙ here in omega arith

    pivot : (j r : ℕ) → j < suc c → new j ≡ suc r → (j ≡ c) ⊎ (j ≢ c)
        → (M r j ≢ 0) × ((i : ℕ) → i < rows → i ≢ r → M i j ≡ 0) × ((l : ℕ) → l < j → M r l ≡ 0)
    pivot j r h e (inl q) = absurd (not_here j r e q)
    pivot j r h e (inr q) = let l : j < c = omega arith in p.pivot j r l (sym (same j l) ∙ e)

    once : (j l r : ℕ) → j < suc c → l < suc c → new j ≡ suc r → new l ≡ suc r → (j ≡ c) ⊎ (j ≢ c)
        → (l ≡ c) ⊎ (l ≢ c) → j ≡ l
    once j l r h g e f (inl q) cl = absurd (not_here j r e q)
    once j l r h g e f (inr q) (inl z) = absurd (not_here l r f z)
    once j l r h g e f (inr q) (inr z) =
        let a : j < c = omega arith in
        let b : l < c = omega arith in
        p.once j l r a b (sym (same j a) ∙ e) (sym (same l b) ∙ f)

-- 0 plus a multiple of 0
nothing : (a t b : ℕ) → a ≡ 0 → b ≡ 0 → a ⊕ t ⊗ b ≡ 0
nothing a t b p q = ap (λ z. z ⊕ t ⊗ b) p ∙ ap (λ z. t ⊗ z) q ∙ product_zero t

-- a multiple of 0 adds nothing
kept : (a t b : ℕ) → b ≡ 0 → a ⊕ t ⊗ b ≡ a
kept a t b q = ap (λ z. a ⊕ t ⊗ z) q ∙ ap (λ z. a ⊕ z) (product_zero t) ∙ xor_zero_r a

-- row rank has a pivot once one was raised to it
pub raised_pivot : (n : ℕ) (M N : ℕ → ℕ → ℕ) (rank p c : ℕ) → IsPivotRaised n M N rank p → c < n
    → rank ≤ p
    → ((i : ℕ) → rank ≤ i → i < p → M i c ≡ 0) → M p c < 256 → M p c ≢ 0 → N rank c ≢ 0
raised_pivot n M N rank p c (inl b) hc hp zeros hb ne e =
    ne (ap (λ r. M r c) b.0 ∙ sym (b.1 rank c hc) ∙ e)
raised_pivot n M N rank p c (inr b) hc hp zeros hb ne e =
    let far : rank ≢ p = λ q. b.0 (sym q) in
    ne (sym (one_product (M p c) hb)
    ∙ ap (λ z. z ⊕ 1 ⊗ M p c) (sym (zeros rank (omega arith) (omega arith)))
    ∙ sym (b.1.sum c hc) ∙ e)

-- raising a pivot leaves the columns before it reduced
pub reduced_raised : (rows n rank p c : ℕ) (M N : ℕ → ℕ → ℕ) (mark : ℕ → ℕ)
    → IsReduced rows rank c M mark
    → IsPivotRaised n M N rank p → c ≤ n → rank ≤ p → p < rows → IsReduced rows rank c N mark
reduced_raised rows n rank p c M N mark q (inl b) hc hp hr = record {
  low = q.low;
  below = λ i j x y h. b.1 i j (omega arith) ∙ q.below i j x y h;
  marked = q.marked;
  pivot = λ j r h e.
      let w = q.pivot j r h e in (
        (λ z. w.0 (sym (b.1 r j (omega arith)) ∙ z)),
        (λ i x ne. b.1 i j (omega arith) ∙ w.1 i x ne),
        (λ l x. b.1 r l (omega arith) ∙ w.2 l x),
      );
  onto = q.onto;
  once = q.once;
}
reduced_raised rows n rank p c M N mark q (inr b) hc hp hr = record {
  low = q.low;
  below = λ i j x y h. below i j x y h (cases_eq i rank);
  marked = q.marked;
  pivot = λ j r h e. pivot j r h e (under j r h e);
  onto = q.onto;
  once = q.once;
}
  where
    below : (i j : ℕ) → rank ≤ i → i < rows → j < c → (i ≡ rank) ⊎ (i ≢ rank) → N i j ≡ 0
    below i j x y h (inl e) =
        ap (λ r. N r j) e ∙ b.1.sum j (omega arith)
        ∙ nothing (M rank j) 1 (M p j) (q.below rank j (omega arith) (omega arith) h) (q.below p j hp hr h)
    below i j x y h (inr ne) = b.1.others i j ne (omega arith) ∙ q.below i j x y h

    under : (j r : ℕ) → j < c → mark j ≡ suc r → r < rank
    under j r h e =
        let m : mark j ≢ 0 = omega arith in
        omega (arith, q.marked j h m)

    pivot : (j r : ℕ) → j < c → mark j ≡ suc r → r < rank
        → (N r j ≢ 0) × ((i : ℕ) → i < rows → i ≢ r → N i j ≡ 0) × ((l : ℕ) → l < j → N r l ≡ 0)
    pivot j r h e u =
        let w = q.pivot j r h e in
        let ne : r ≢ rank = omega arith in (
          (λ z. w.0 (sym (b.1.others r j ne (omega arith)) ∙ z)),
          (λ i x d. other i x d (cases_eq i rank)),
          (λ l x. b.1.others r l ne (omega arith) ∙ w.2 l x),
        )
      where
        other : (i : ℕ) → i < rows → i ≢ r → (i ≡ rank) ⊎ (i ≢ rank) → N i j ≡ 0
        other i x d (inl z) =
            ap (λ k. N k j) z ∙ b.1.sum j (omega arith)
            ∙ nothing (M rank j) 1 (M p j) (q.below rank j (omega arith) (omega arith) h) (q.below p j hp hr h)
        other i x d (inr z) = b.1.others i j z (omega arith) ∙ (q.pivot j r h e).1 i x d

-- one more column, with its pivot in row rank, once the other rows are 0 there
pub reduced_eliminated : (rows n rank c : ℕ) (M N : ℕ → ℕ → ℕ) (mark new : ℕ → ℕ)
    → IsReduced rows rank c M mark
    → rank < rows → M rank c ≢ 0 → ((i : ℕ) → M i c < 256) → IsEliminated rows n M N rank c → c < n
    → ((j : ℕ) → j < c → new j ≡ mark j) → new c ≡ suc rank
    → IsReduced rows (suc rank) (suc c) N new
reduced_eliminated rows n rank c M N mark new p hr ne bytes k hc same here = record {
  low = hr;
  below = λ i j a b h. below i j a b h (cases_eq j c);
  marked = λ j h z. marked j h z (cases_eq j c);
  pivot = λ j r h e. pivot j r h e (cases_eq j c);
  onto = λ r h. onto r h (cases_eq r rank);
  once = λ j l r h g e f. once j l r h g e f (cases_eq j c) (cases_eq l c);
}
  where
    at_c : (i : ℕ) → i < rows → i ≢ rank → N i c ≡ 0
    at_c i h d =
        k.eliminated i c h d hc
        ∙ ap (λ z. M i c ⊕ z)
        (product_assoc (M i c) (inverse (M rank c)) (M rank c)
        ∙ ap (λ z. M i c ⊗ z) (product_comm (inverse (M rank c)) (M rank c) ∙ inverse_product (M rank c) (bytes rank) ne)
        ∙ product_one (M i c) (bytes i))
        ∙ xor_self (M i c)

    -- left of c only the rows above have entries, and they stay
    own_zero : (j : ℕ) → j < c → M rank j ≡ 0
    own_zero j h = p.below rank j (omega arith) hr h

    stays : (i j : ℕ) → i < rows → i ≢ rank → j < c → N i j ≡ M i j
    stays i j h d l =
        k.eliminated i j h d (omega arith) ∙ kept (M i j) (M i c ⊗ inverse (M rank c)) (M rank j) (own_zero j l)

    own_stays : (j : ℕ) → j < c → N rank j ≡ 0
    own_stays j h = k.own j (omega arith) ∙ own_zero j h

    below : (i j : ℕ) → suc rank ≤ i → i < rows → j < suc c → (j ≡ c) ⊎ (j ≢ c) → N i j ≡ 0
    below i j a b h (inl e) = let d : i ≢ rank = omega arith in ap (N i) e ∙ at_c i b d
    below i j a b h (inr z) =
        let d : i ≢ rank = omega arith in
        let l : j < c = omega arith in
        stays i j b d l ∙ p.below i j (omega arith) b l

    under : (j r : ℕ) → j < c → new j ≡ suc r → r < rank
    under j r h e =
        let s = same j h in
        let m : mark j ≢ 0 = omega arith in
        omega (arith, p.marked j h m)

    marked : (j : ℕ) → j < suc c → new j ≢ 0 → (j ≡ c) ⊎ (j ≢ c) → new j ≤ suc rank
    marked j h z (inl e) = let q : new j ≡ suc rank = ap new e ∙ here in omega arith
    marked j h z (inr d) =
        let l : j < c = omega arith in
        let s = same j l in
        let m : mark j ≢ 0 = omega arith in
        omega (arith, p.marked j l m)

    is_rank : (j r : ℕ) → new j ≡ suc r → j ≡ c → r ≡ rank
    is_rank j r e q = let z : new j ≡ suc rank = ap new q ∙ here in omega arith

    pivot : (j r : ℕ) → j < suc c → new j ≡ suc r → (j ≡ c) ⊎ (j ≢ c)
        → (N r j ≢ 0) × ((i : ℕ) → i < rows → i ≢ r → N i j ≡ 0) × ((l : ℕ) → l < j → N r l ≡ 0)
    pivot j r h e (inl q) =
        let z = is_rank j r e q in (
          (λ w. ne (sym (k.own c hc) ∙ ap (λ i. N i c) (sym z) ∙ ap (N r) (sym q) ∙ w)),
          (λ i a d. let d' : i ≢ rank = λ y. d (y ∙ sym z) in ap (N i) q ∙ at_c i a d'),
          (λ l a. ap (λ i. N i l) z ∙ own_stays l (omega arith)),
        )
    pivot j r h e (inr d) =
        let a : j < c = omega arith in
        let u = under j r a e in
        let w = p.pivot j r a (sym (same j a) ∙ e) in
        let far : r ≢ rank = omega arith in
        let low = p.low in (
          (λ z. w.0 (sym (stays r j (omega arith) far a) ∙ z)),
          (λ i b x. other i b x a w.1 (cases_eq i rank)),
          (λ l b. stays r l (omega arith) far (omega arith) ∙ w.2 l b),
        )
      where
        other : (i : ℕ) → i < rows → i ≢ r → j < c → ((i : ℕ) → i < rows → i ≢ r → M i j ≡ 0)
            → (i ≡ rank) ⊎ (i ≢ rank) → N i j ≡ 0
        other i b x a w (inl z) = ap (λ y. N y j) z ∙ own_stays j a
        other i b x a w (inr z) = stays i j b z a ∙ w i b x

    onto : (r : ℕ) → r < suc rank → (r ≡ rank) ⊎ (r ≢ rank)
        → (j : ℕ) × (j < suc c) × (new j ≡ suc r)
    onto r h (inl e) = (c, omega arith, here ∙ ap suc (sym e))
    onto r h (inr d) =
        let o = p.onto r (omega arith) in
        (o.0, omega (arith, o.1), same o.0 o.1 ∙ o.2)

    once : (j l r : ℕ) → j < suc c → l < suc c → new j ≡ suc r → new l ≡ suc r → (j ≡ c) ⊎ (j ≢ c)
        → (l ≡ c) ⊎ (l ≢ c) → j ≡ l
    once j l r h g e f (inl x) (inl y) = x ∙ sym y
    once j l r h g e f (inl x) (inr y) =
        let z = is_rank j r e x in
        absurd (omega (arith, under l r (omega arith) f))
    once j l r h g e f (inr x) (inl y) =
        let z = is_rank l r f y in
        absurd (omega (arith, under j r (omega arith) e))
    once j l r h g e f (inr x) (inr y) =
        let a : j < c = omega arith in
        let b : l < c = omega arith in
        p.once j l r a b (sym (same j a) ∙ e) (sym (same l b) ∙ f)

-- ---- what is read off
data Mark (m : ℕ) : Type 0 where
  no_row : m ≡ 0 → Mark m
  of_row : (r : ℕ) → m ≡ suc r → Mark m

mark_of : (m : ℕ) → Mark m
mark_of zero = no_row refl
mark_of (suc r) = of_row r refl

-- a solution, where each row without a pivot has the right side 0
pub solution_read_off : (rows rank u : ℕ) (M : ℕ → ℕ → ℕ) (mark x : ℕ → ℕ)
    → IsReduced rows rank u M mark → ((i j : ℕ) → M i j < 256)
    → IsReadOff u M mark x → ((i : ℕ) → rank ≤ i → i < rows → M i u ≡ 0) → IsSolution rows u M x
solution_read_off rows rank u M mark x p bytes s zeros i h = go (cases_lt i rank)
  where
    row : (j : ℕ) → j < u → mark j ≡ suc i → total u (λ j. M i j ⊗ x j) ≡ M i u
    row j l e =
        total_one u (λ j. M i j ⊗ x j) j l (λ k a ne. others k a ne (mark_of (mark k)))
        ∙ ap (λ z. M i j ⊗ z) (s.bound j i l e)
        ∙ product_left (M i j) (M i u) (inverse (M i j))
        ∙ ap (λ z. M i u ⊗ z) (inverse_product (M i j) (bytes i j) (p.pivot j i l e).0)
        ∙ product_one (M i u) (bytes i u)
      where
        others : (k : ℕ) → k < u → k ≢ j → Mark (mark k) → M i k ⊗ x k ≡ 0
        others k a ne (no_row z) = ap (λ y. M i k ⊗ y) (s.free k a z) ∙ product_zero (M i k)
        others k a ne (of_row r z) = apart (cases_eq i r)
          where
            apart : (i ≡ r) ⊎ (i ≢ r) → M i k ⊗ x k ≡ 0
            apart (inl y) = absurd (ne (p.once k j i a l (z ∙ ap suc (sym y)) e))
            apart (inr y) = ap (λ w. w ⊗ x k) ((p.pivot k r a z).1 i h y) ∙ zero_product (x k)

    go : (i < rank) ⊎ (rank ≤ i) → total u (λ j. M i j ⊗ x j) ≡ M i u
    go (inl l) = let o = p.onto i l in row o.0 o.1 o.2
    go (inr l) =
        total_zeros u (λ j. M i j ⊗ x j) (λ j a. ap (λ z. z ⊗ x j) (p.below i j l h a) ∙ zero_product (x j))
        ∙ sym (zeros i l h)

-- none, where one of those rows has another right side
pub no_solution : (rows rank u : ℕ) (M : ℕ → ℕ → ℕ) (mark : ℕ → ℕ) → IsReduced rows rank u M mark
    → (i : ℕ) → rank ≤ i → i < rows → M i u ≢ 0 → (x : ℕ → ℕ) → IsSolution rows u M x → ⊥
no_solution rows rank u M mark p i l h ne x s =
    ne (sym (s i h) ∙ total_zeros u (λ j. M i j ⊗ x j) (λ j a. ap (λ z. z ⊗ x j) (p.below i j l h a) ∙ zero_product (x j)))

-- a free unknown is 0: a pivot's row does not take z to 0 if its column is the last where z is not 0
pub free_is_zero : (rows rank u : ℕ) (M : ℕ → ℕ → ℕ) (mark x z : ℕ → ℕ)
    → IsReduced rows rank u M mark → ((i j : ℕ) → M i j < 256)
    → IsReadOff u M mark x → ((i : ℕ) → i < rows → total u (λ j. M i j ⊗ z j) ≡ 0)
    → (j : ℕ) → j < u → ((l : ℕ) → j < l → l < u → z l ≡ 0) → z j < 256 → z j ≢ 0 → x j ≡ 0
free_is_zero rows rank u M mark x z p bytes s k j h later hz ne = go (mark_of (mark j))
  where
    go : Mark (mark j) → x j ≡ 0
    go (no_row e) = s.free j h e
    go (of_row r e) =
        absurd (ne (no_divisors (M r j) (z j) (bytes r j) hz (p.pivot j r h e).0 zero_row))
      where
        under : r < rank
        under = let m : mark j ≢ 0 = omega arith in omega (arith, p.marked j h m)

        others : (l : ℕ) → l < u → l ≢ j → M r l ⊗ z l ≡ 0
        others l a d = side (cases_lt l j)
          where
            side : (l < j) ⊎ (j ≤ l) → M r l ⊗ z l ≡ 0
            side (inl b) = ap (λ y. y ⊗ z l) ((p.pivot j r h e).2 l b) ∙ zero_product (z l)
            side (inr b) = ap (λ y. M r l ⊗ y) (later l (omega arith) a) ∙ product_zero (M r l)

        zero_row : M r j ⊗ z j ≡ 0
        zero_row =
            sym (total_one u (λ l. M r l ⊗ z l) j h others) ∙ k r (omega (arith, p.low, under))
