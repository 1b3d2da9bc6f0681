-- The pass over the nodes of a month, and over the months.
use Rattle.std.proofs.Common.{◌≡◌, ℕ, zero, suc, ◌+◌, ◌-◌, ◌^◌, ◌<◌, Bool, true, false, ◌≤◌, List, [], ◌∷◌, ◌++◌, length, drop, min, Option, Some, None, refl, ap, ◌∙◌, arith}
use Rattle.std.specs.Prelude.{if◌then◌else◌, nat_lt, slice_get, slice_set, replicate}
use Rattle.std.proofs.lemmas.List.{drop_all}
use Rattle.sat_base.specs.declared.rates.Rates.{Rates}
use Rattle.node_registry.specs.declared.node.Node.{Node}
use Rattle.tally_payout.specs.declared.amounts.Sums.{Sums}
use Rattle.tally_payout.specs.declared.amounts.Statement.{Statement}
use Rattle.node_registry.specs.declared.node.Left.{Left}
use Rattle.tally_payout.specs.Ranks.{month_place}
use Rattle.month_pay.specs.Ledger.{Ledger, has_joined}
use Rattle.month_pay.specs.Rule.{broken_places}
use Rattle.rows.specs.Least.{least}
use Rattle.month_pay.specs.Walk.{due_in, due_from, is_good, walk}
use Rattle.month_pay.proofs.WalkLemmas.{walk_finds}
use Rattle.sat_base.specs.declared.rates.Tariff.{Tariff}
use Rattle.tally_payout.specs.Tariff.{tariff_in, rates_of}
use Rattle.month_sums.specs.Opening.{due_of, GoByMonth, GoByAll, Front, noted, pots_after, AreSmall}
use Rattle.month_sums.proofs.PassLemmas.{long-set}

-- ---- the nodes of a month, one after another

rest-nodes : (nodes : List Node) (j : ℕ) (node : Node) → slice_get nodes j ≡ Some node → drop j nodes ≡ node ∷ drop (j + 1) nodes
rest-nodes [] j node at = absurd cc
rest-nodes (x ∷ nodes) zero node at = let same : x ≡ node = cc in ap (λ (y : Node). y ∷ nodes) same
rest-nodes (x ∷ nodes) (suc j) node at =
    let next : suc j + 1 ≡ suc (j + 1) = omega arith in
    rw next (rest-nodes nodes j node at)

due-cons : (month : ℕ) (node : Node) (rest : List Node) (keys : List ℕ) → due_in month (node ∷ rest) ++ keys ≡ due_of month node ++ (due_in month rest ++ keys)
due-cons month node rest keys = go (has_joined month node)
  where
    go : (b : Bool) → (if b then month_place month node.id.0 ∷ due_in month rest else due_in month rest) ++ keys ≡ (if b then month_place month node.id.0 ∷ [] else []) ++ (due_in month rest ++ keys)
    go true = refl
    go false = refl

pub due-rest : (month : ℕ) (nodes : List Node) (keys : List ℕ) (j : ℕ) (node : Node) → slice_get nodes j ≡ Some node → due_in month (drop j nodes) ++ keys ≡ due_of month node ++ (due_in month (drop (j + 1) nodes) ++ keys)
due-rest month nodes keys j node at = ap (λ (xs : List Node). due_in month xs ++ keys) (rest-nodes nodes j node at) ∙ due-cons month node (drop (j + 1) nodes) keys

pub due-end : (month : ℕ) (nodes : List Node) (keys : List ℕ) (j : ℕ) → length nodes ≤ j → due_in month (drop j nodes) ++ keys ≡ keys
due-end month nodes keys j le = ap (λ (xs : List Node). due_in month xs ++ keys) (drop_all j nodes le)

-- pots stay small
pub after-small : (pots : List ℕ) (j : ℕ) (rows : List Statement) (i n : ℕ) → AreSmall pots → AreSmall (pots_after pots j rows i n)
after-small pots j rows i n small = go (nat_lt i n) (slice_get rows i)
  where
    set : (v : ℕ) → v < 2 ^ 100 → (xs : List ℕ) (m k x : ℕ) → ((k x : ℕ) → slice_get xs k ≡ Some x → x < 2 ^ 100) → slice_get (slice_set xs m v) k ≡ Some x → x < 2 ^ 100
    set v lt [] m k x all got = all k x got
    set v lt (p ∷ xs) zero zero x all got = let same : v ≡ x = cc in omega arith
    set v lt (p ∷ xs) zero (suc k) x all got = all (suc k) x got
    set v lt (p ∷ xs) (suc m) zero x all got = all zero x got
    set v lt (p ∷ xs) (suc m) (suc k) x all got = set v lt xs m k x (λ k x h. all (suc k) x h) got

    go : (b : Bool) (o : Option Statement) → AreSmall (if b then noted pots j o else pots)
    go true None = small
    go true (Some s) = λ k x got. set (min s.pot (2 ^ 99)) (omega arith) pots j k x small got
    go false o = small

pub after-long : (pots : List ℕ) (j : ℕ) (rows : List Statement) (i n : ℕ) → length (pots_after pots j rows i n) ≡ length pots
after-long pots j rows i n = go (nat_lt i n) (slice_get rows i)
  where
    go : (b : Bool) (o : Option Statement) → length (if b then noted pots j o else pots) ≡ length pots
    go true None = refl
    go true (Some s) = long-set pots j (min s.pot (2 ^ 99))
    go false o = refl

-- ---- the months

abbrev pub zeros : ℕ → List ℕ
zeros n = replicate n 0

got-zero : (n j : ℕ) → j < n → slice_get (zeros n) j ≡ Some 0
got-zero zero j lt = absurd (omega arith)
got-zero (suc n) zero lt = refl
got-zero (suc n) (suc j) lt = got-zero n j (omega arith)

got-within : (nodes : List Node) (j : ℕ) (node : Node) → slice_get nodes j ≡ Some node → j < length nodes
got-within [] j node at = absurd cc
got-within (x ∷ nodes) zero node at = omega arith
got-within (x ∷ nodes) (suc j) node at = omega (arith, got-within nodes j node at)

pub front-first : (l : Ledger) (nodes : List Node) (rows : List Statement) → Front l nodes rows 0 (zeros (length nodes))
front-first l nodes rows = record { sound = tt; left_by = λ j node at. got-zero (length nodes) j (got-within nodes j node at) }

pub zeros-long : (n : ℕ) → length (zeros n) ≡ n
zeros-long zero = refl
zeros-long (suc n) = ap suc (zeros-long n)

pub zeros-small : (n : ℕ) → AreSmall (zeros n)
zeros-small n k x got = go n k got
  where
    go : (m j : ℕ) → slice_get (zeros m) j ≡ Some x → x < 2 ^ 100
    go zero j h = absurd cc
    go (suc m) zero h = let same : 0 ≡ x = cc in omega arith
    go (suc m) (suc j) h = go m j h

pub by-month : (l : Ledger) (first next : ℕ) (nodes : List Node) (rows : List Statement) (sums : List Sums) (left : List Left) (tariffs : List Tariff) → GoByAll l first next nodes rows sums left tariffs → (month : ℕ) (rates : Rates) → first ≤ month → month < next → rates ≡ rates_of (tariff_in month tariffs)
    → GoByMonth l month nodes rows sums left rates
by-month l first next nodes rows sums left tariffs go month rates le lt is = record {
  first = omega (arith, go.first_is);
  closed = omega (arith, go.next_is);
  nodes_are = go.nodes_are;
  rows_are = go.rows_are;
  sums_are = go.sums_are;
  left_is = go.left_is;
  rates_are = is ∙ ap (λ (ts : List Tariff). rates_of (tariff_in month ts)) go.tariffs_are;
  fit = go.fit;
  numbered = go.numbered;
  rising = go.rising;
  low = go.low;
}

pub due-month : (nodes : List Node) (next month : ℕ) → month < next → due_from nodes (next - month) month ≡ due_in month nodes ++ due_from nodes (next - (month + 1)) (month + 1)
due-month nodes next month lt =
    let more : next - month ≡ suc (next - (month + 1)) = omega arith in
    let later : suc month ≡ month + 1 = omega arith in
    ap (λ (n : ℕ). due_from nodes n month) more ∙ ap (λ (m : ℕ). due_in month nodes ++ due_from nodes (next - (month + 1)) m) later

pub due-none : (nodes : List Node) (next month : ℕ) → next ≤ month → due_from nodes (next - month) month ≡ []
due-none nodes next month le =
    let none : next - month ≡ 0 = omega arith in
    ap (λ (n : ℕ). due_from nodes n month) none

pub finds : (cap : ℕ) (l : Ledger) (first next : ℕ) (nodes : List Node) (rows : List Statement) (sums : List Sums) (left : List Left) (tariffs : List Tariff) → GoByAll l first next nodes rows sums left tariffs
    → walk (is_good cap l) 0 (due_from nodes (next - first) first) rows ≡ least (broken_places cap l)
finds cap l first next nodes rows sums left tariffs go =
    ap (λ (xs : List Node). walk (is_good cap l) 0 (due_from xs (next - first) first) rows) go.nodes_are
    ∙ (ap (λ (ys : List Statement). walk (is_good cap l) 0 (due_from l.nodes (next - first) first) ys) go.rows_are
    ∙ (ap (λ (n : ℕ). walk (is_good cap l) 0 (due_from l.nodes (n - first) first) l.statements) go.next_is
    ∙ (ap (λ (n : ℕ). walk (is_good cap l) 0 (due_from l.nodes (l.next - n) n) l.statements) go.first_is
    ∙ walk_finds cap l go.numbered go.rising)))
