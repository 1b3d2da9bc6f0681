-- Rows of workers, and numbers of passes.
use Rattle.std.proofs.Common.{◌≡◌, ℕ, suc, ◌+◌, ◌-◌, ◌*◌, ◌/◌, ◌^◌, ◌≤◌, List, [], ◌∷◌, ◌++◌, map, length, refl, sym, ap, ◌∙◌, subst, arith, append_assoc}
use Rattle.std.proofs.Math.Pow.{pow_mono}
use Rattle.std.proofs.Math.Nat.{pow-suc}
use Rattle.std.proofs.Math.Numerals.{add-one}
use mathlib.Core.List.{map-append}
use Rattle.sat_sessions.specs.Lanes.{PostView}
use Rattle.sat_sessions.specs.declared.lanes.LaneEnd.{LaneEnd}
use Rattle.sat_sessions.specs.declared.told.Session.{Session}
use Rattle.sat_term.specs.Workers.{AreRows, Every, LaneRow}

pub every_map : {X : Type 0} (P Q : X → Type 0) → ((x : X) → P x → Q x) → (xs : List X) → Every P xs → Every Q xs
every_map P Q f [] e = tt
every_map P Q f (x ∷ xs) e = (f x e.0, every_map P Q f xs e.1)

pub every_snoc : {X : Type 0} (P : X → Type 0) (xs : List X) (x : X) → Every P xs → P x → Every P (xs ++ x ∷ [])
every_snoc P [] x e p = (p, tt)
every_snoc P (y ∷ xs) x e p = (e.0, every_snoc P xs x e.1 p)

map_more : {X Y : Type 0} (f : X → Y) (xs : List X) (ys zs : List Y) (x : X) → map f xs ≡ ys → zs ≡ ys ++ f x ∷ [] → map f (xs ++ x ∷ []) ≡ zs
map_more f xs ys zs x p q = map-append f xs (x ∷ []) ∙ ((λ i. p i ++ f x ∷ []) ∙ sym q)

pub rows_more : (rows : List LaneRow) (row : LaneRow) (ns ns' : List ℕ) (bs bs' : List PostView) (ls ls' : List (List Session)) (es es' : List LaneEnd) (fs fs' : List PostView)
    → AreRows rows ns bs ls es fs → ns' ≡ ns ++ row.number ∷ [] → bs' ≡ bs ++ row.before ∷ [] → ls' ≡ ls ++ row.sessions ∷ [] → es' ≡ es ++ row.end ∷ [] → fs' ≡ fs ++ row.after ∷ [] → AreRows (rows ++ row ∷ []) ns' bs' ls' es' fs'
rows_more rows row ns ns' bs bs' ls ls' es es' fs fs' r p q s t w = record {
  numbers_are = map_more (λ (x : LaneRow). x.number) rows ns ns' row r.numbers_are p;
  befores_are = map_more (λ (x : LaneRow). x.before) rows bs bs' row r.befores_are q;
  lanes_are = map_more (λ (x : LaneRow). x.sessions) rows ls ls' row r.lanes_are s;
  ends_are = map_more (λ (x : LaneRow). x.end) rows es es' row r.ends_are t;
  afters_are = map_more (λ (x : LaneRow). x.after) rows fs fs' row r.afters_are w;
}

pub no_items : {X : Type 0} (xs : List X) → length xs ≡ 0 → xs ≡ []
no_items [] h = refl
no_items (x ∷ xs) h = absurd (omega arith)

-- ---- how many numbers a pass has left

pub two_at_least : (n m s : ℕ) → n + 1 ≡ m → 2 ^ m ≤ s → 2 ≤ s
two_at_least n m s e h = let p : 2 ^ 1 ≤ 2 ^ m = pow_mono {i = 1} {j = m} (omega arith) in omega arith

pub halved : (n m s k : ℕ) → n + 1 ≡ m → 2 ^ m ≤ s → k ≡ s - s / 2 → 2 ^ n ≤ k
halved n m s k e h is =
    let p : 2 ^ suc n ≤ s = subst (λ (j : ℕ). 2 ^ j ≤ s) (sym e ∙ add-one n) h in
    let q : 2 ^ suc n ≡ 2 ^ n * 2 = pow-suc 2 n in
    omega arith

pub enough : (n s : ℕ) → n ≤ 16 → 2 ^ 16 ≤ s → 2 ^ n ≤ s
enough n s few wide = let p : 2 ^ n ≤ 2 ^ 16 = pow_mono {i = n} {j = 16} few in omega arith

pub three_more : (xs ys zs ws : List ℕ) (a b c : ℕ) → ys ≡ xs ++ a ∷ [] → zs ≡ ys ++ b ∷ [] → ws ≡ zs ++ c ∷ [] → ws ≡ xs ++ a ∷ b ∷ c ∷ []
three_more xs ys zs ws a b c p q r =
    r ∙ (ap (λ (l : List ℕ). l ++ c ∷ []) (q ∙ ap (λ (l : List ℕ). l ++ b ∷ []) p) ∙ (append_assoc (xs ++ a ∷ []) (b ∷ []) (c ∷ []) ∙ append_assoc xs (a ∷ []) (b ∷ c ∷ [])))
