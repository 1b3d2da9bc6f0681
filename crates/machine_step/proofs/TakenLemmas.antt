-- Picks lie off the taken subnets.
use Rattle.std.proofs.Common.{◌≡◌, ℕ, zero, suc, ◌-◌, true, false, not, List, [], ◌∷◌, ◌++◌, length, Option, Some, None, refl, ap, arith}
use Rattle.std.specs.Prelude.{nat_eq, ◌==◌}
use Rattle.std.specs.List.{list_any}
use Rattle.std.specs.Set.{is_member}
use Rattle.std.proofs.lemmas.Bool.Decides.{nat_tests}
use Rattle.std.proofs.lemmas.Bool.{and_parts}
use Rattle.sat_base.specs.declared.records.At.{At}
use Rattle.node_registry.specs.declared.node.Node.{Node}
use Rattle.node_registry.specs.Registry.{node_at}
use Rattle.placement.specs.declared.request.Class.{Class}
use Rattle.placement.specs.declared.request.Class.TheVariants.{Vetted, Unvetted}
use Rattle.placement.specs.Eligible.{Terms, terms, subnet_of, next_pick}
use Rattle.placement.proofs.Picks.{fit-next}
use Rattle.machine_step.specs.Places.{and_next, picks_more, picks_of, subnets_of, addr_of}
use Rattle.machine_step.specs.Rules.{are_apart}
use Rattle.machine_step.specs.Bounds.{Each}
use Rattle.node_registry.specs.Subnet.{subnet_at}

abbrev pub OffTaken : Terms → Node → Type 0
OffTaken terms node = is_member nat_eq terms.taken (subnet_of node) ≡ false

each-pushed : {X : Type 0} (P : X → Type 0) (xs : List X) (x : X) → Each P xs → P x → Each P (xs ++ x ∷ [])
each-pushed P [] x each one = (one, tt)
each-pushed P (y ∷ xs) x each one = (each.0, each-pushed P xs x each.1 one)

off-next : (terms : Terms) (class : Class) (picks : List Node) (next : Option Node) → next_pick terms class picks ≡ next → Each (OffTaken terms) picks → Each (OffTaken terms) (and_next picks next)
off-next terms class picks None is each = each
off-next terms class picks (Some node) is each = each-pushed (OffTaken terms) picks node each (fit-next terms class picks node is).apart_taken

off-more : (terms : Terms) (class : Class) (quota : ℕ) (before : List Node) → Each (OffTaken terms) before → Each (OffTaken terms) (picks_more terms class quota before)
off-more terms class zero before each = each
off-more terms class (suc quota) before each = off-next terms class (picks_more terms class quota before) (next_pick terms class (picks_more terms class quota before)) refl (off-more terms class quota before each)

pub off-picks : (terms : Terms) (need fresh : ℕ) → Each (OffTaken terms) (picks_of terms need fresh)
off-picks terms need fresh =
    let one = picks_more terms Vetted (need - fresh) [] in
    let two = picks_more terms Unvetted fresh one in
    let three = picks_more terms Vetted (need - length two) two in
    off-more terms Unvetted (need - length three) three (off-more terms Vetted (need - length two) two (off-more terms Unvetted fresh one (off-more terms Vetted (need - fresh) [] tt)))

pub off-member : (s : ℕ) (xs : List ℕ) → is_member nat_eq xs s ≡ false → list_any (λ other. s == other) xs ≡ false
off-member s [] off = refl
off-member s (x ∷ xs) off = grind (arith, nat_tests, off, off-member s xs)

-- lists that are apart, each item of the second off the first
pub apart-both : (xs ys : List ℕ) → are_apart xs ≡ true → are_apart ys ≡ true → Each (λ y. list_any (λ other. y == other) xs ≡ false) ys → are_apart (xs ++ ys) ≡ true
apart-both [] ys apart apart' off = apart'
apart-both (x ∷ xs) ys apart apart' off =
    let parts = and_parts (not (list_any (λ other. x == other) xs)) (are_apart xs) apart in
    let head : list_any (λ other. x == other) (xs ++ ys) ≡ false = off-both xs ys parts.0 (heads ys off) in
    let rest = apart-both xs ys parts.1 apart' (tails ys off) in
    grind (arith, nat_tests, head, rest)
  where
    heads : (ys : List ℕ) → Each (λ y. list_any (λ other. y == other) (x ∷ xs) ≡ false) ys → list_any (λ other. x == other) ys ≡ false
    heads [] off = refl
    heads (y ∷ ys) off = let here = off.0 in grind (arith, nat_tests, here, heads ys off.1)

    tails : (ys : List ℕ) → Each (λ y. list_any (λ other. y == other) (x ∷ xs) ≡ false) ys → Each (λ y. list_any (λ other. y == other) xs ≡ false) ys
    tails [] off = tt
    tails (y ∷ ys) off = let here = off.0 in (grind (arith, nat_tests, here), tails ys off.1)

    off-both : (xs ys : List ℕ) → not (list_any (λ other. x == other) xs) ≡ true → list_any (λ other. x == other) ys ≡ false → list_any (λ other. x == other) (xs ++ ys) ≡ false
    off-both [] ys off off' = off'
    off-both (z ∷ zs) ys off off' = grind (arith, nat_tests, off, off-both zs ys)

pub subnets-append : (nodes : List Node) (xs ys : List At) → subnets_of nodes (xs ++ ys) ≡ subnets_of nodes xs ++ subnets_of nodes ys
subnets-append nodes [] ys = refl
subnets-append nodes (x ∷ xs) ys = ap (λ (zs : List ℕ). subnet_at (addr_of (node_at nodes x.node)) ∷ zs) (subnets-append nodes xs ys)
