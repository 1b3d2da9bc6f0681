-- Targets put among sources.
use Rattle.std.proofs.Common.{◌≡◌, ℕ, ◌≤◌, Bool, true, false, List, [], ◌∷◌, ◌++◌, length, refl, arith}
use Rattle.std.specs.Prelude.{if◌then◌else◌, nat_lt, ◌==◌, filter, fold}
use Rattle.std.specs.List.{list_any}
use Rattle.std.proofs.lemmas.Bool.Decides.{nat_tests}
use Rattle.std.proofs.lemmas.Bool.{and_parts, and_from}
use Rattle.sat_base.specs.declared.records.At.{At}
use Rattle.rows.specs.Rows.{AllAbove, IsRising}
use Rattle.node_registry.specs.declared.node.Node.{Node}
use Rattle.segment_core.specs.Places.{index_of}
use Rattle.machine_step.specs.Places.{subnets_of}
use Rattle.machine_step.specs.Rules.{is_known, are_known, are_apart, are_below}
use Rattle.machine_step.specs.Mending.{with_piece}
use Rattle.machine_step.proofs.RowLemmas.{rising-with_row, all-with_row}
use Rattle.machine_step.proofs.IndexLemmas.{above-some}
use Rattle.machine_step.proofs.ApartLemmas.{subnet, IsOff, off-with_piece, apart-with_piece, off-filtered}

pub longer-with_piece : (pieces : List At) (piece : At) → length pieces ≤ length (with_piece pieces piece)
longer-with_piece [] piece = omega arith
longer-with_piece (x ∷ xs) piece = grind (arith, nat_tests, longer-with_piece xs piece)

-- pieces that a segment may have
pub record AreWell (nodes : List Node) (n : ℕ) (pieces : List At) : Type 0 where
  pub rising : IsRising index_of pieces
  pub known : are_known nodes pieces ≡ true
  pub below : are_below n pieces ≡ true
  pub apart : are_apart (subnets_of nodes pieces) ≡ true

-- targets that may be put among pieces: each apart from the pieces and from the later targets
abbrev pub AreOpen : List Node → ℕ → List At → List At → Type 0
AreOpen nodes n pieces [] = Unit {0}
AreOpen nodes n pieces (target ∷ rest) =
    (is_known nodes target.node ≡ true) × (nat_lt target.index n ≡ true) × IsOff nodes (subnet nodes target) pieces × IsOff nodes (subnet nodes target) rest × AreOpen nodes n pieces rest

open-with_piece : (nodes : List Node) (n : ℕ) (pieces : List At) (piece : At) (rest : List At) → AreOpen nodes n pieces rest → IsOff nodes (subnet nodes piece) rest → AreOpen nodes n (with_piece pieces piece) rest
open-with_piece nodes n pieces piece [] opened off = tt
open-with_piece nodes n pieces piece (target ∷ rest) opened off =
    let differ : (subnet nodes target == subnet nodes piece) ≡ false = grind (arith, nat_tests, off) in
    let rest_off : IsOff nodes (subnet nodes piece) rest = grind (arith, nat_tests, off) in
    (opened.0, opened.1, off-with_piece nodes (subnet nodes target) pieces piece opened.2 differ, opened.3, open-with_piece nodes n pieces piece rest opened.4 rest_off)

well-with_piece : (nodes : List Node) (n : ℕ) (pieces : List At) (piece : At) → AreWell nodes n pieces → is_known nodes piece.node ≡ true → nat_lt piece.index n ≡ true → IsOff nodes (subnet nodes piece) pieces → AreWell nodes n (with_piece pieces piece)
well-with_piece nodes n pieces piece well known below off = record {
  rising = rising-with_row index_of pieces piece well.rising;
  known = all-with_row index_of (λ (place : At). is_known nodes place.node) pieces piece well.known known;
  below = all-with_row index_of (λ (place : At). nat_lt place.index n) pieces piece well.below below;
  apart = apart-with_piece nodes pieces piece well.apart off;
}

pub well-put : (nodes : List Node) (n : ℕ) (targets pieces : List At) → AreWell nodes n pieces → AreOpen nodes n pieces targets → AreWell nodes n (fold with_piece pieces targets)
well-put nodes n [] pieces well opened = well
well-put nodes n (target ∷ rest) pieces well opened =
    well-put nodes n rest (with_piece pieces target) (well-with_piece nodes n pieces target well opened.0 opened.1 opened.2) (open-with_piece nodes n pieces target rest opened.4 opened.3)

pub longer-put : (targets pieces : List At) → length pieces ≤ length (fold with_piece pieces targets)
longer-put [] pieces = omega arith
longer-put (target ∷ rest) pieces = omega (arith, longer-with_piece pieces target, longer-put rest (with_piece pieces target))

-- some of the pieces, and some of the targets
pub well-filtered : (nodes : List Node) (n : ℕ) (test : At → Bool) (pieces : List At) → AreWell nodes n pieces → AreWell nodes n (filter test pieces)
well-filtered nodes n test [] well = well
well-filtered nodes n test (x ∷ xs) well =
    let known : is_known nodes x.node ≡ true = let h = well.known in grind (arith, nat_tests, h) in
    let below : nat_lt x.index n ≡ true = let h = well.below in grind (arith, nat_tests, h) in
    let off : IsOff nodes (subnet nodes x) xs = let h = well.apart in grind (arith, nat_tests, h) in
    let rest : AreWell nodes n xs = record { rising = well.rising.1; known = (let h = well.known in grind (arith, nat_tests, h)); below = (let h = well.below in grind (arith, nat_tests, h)); apart = (let h = well.apart in grind (arith, nat_tests, h)) } in
    go (test x) known below (off-filtered nodes (subnet nodes x) test xs off) (above-some index_of test x.index xs well.rising.0) (well-filtered nodes n test xs rest)
  where
    go : (b : Bool) → is_known nodes x.node ≡ true → nat_lt x.index n ≡ true → IsOff nodes (subnet nodes x) (filter test xs) → AllAbove index_of x.index (filter test xs) → AreWell nodes n (filter test xs) → AreWell nodes n (if b then x ∷ filter test xs else filter test xs)
    go true known below off above rest =
        let k = rest.known in let b = rest.below in let a = rest.apart in
        record { rising = (above, rest.rising); known = and_from _ _ known k; below = and_from _ _ below b; apart = grind (arith, nat_tests, off, a) }
    go false known below off above rest = rest

pub open-filtered : (nodes : List Node) (n : ℕ) (kept test : At → Bool) (pieces targets : List At) → AreOpen nodes n pieces targets → AreOpen nodes n (filter kept pieces) (filter test targets)
open-filtered nodes n kept test pieces [] opened = tt
open-filtered nodes n kept test pieces (target ∷ rest) opened = go (test target) (open-filtered nodes n kept test pieces rest opened.4)
  where
    go : (b : Bool) → AreOpen nodes n (filter kept pieces) (filter test rest) → AreOpen nodes n (filter kept pieces) (if b then target ∷ filter test rest else filter test rest)
    go true more = (opened.0, opened.1, off-filtered nodes (subnet nodes target) kept pieces opened.2, off-filtered nodes (subnet nodes target) test rest opened.3, more)
    go false more = more

-- a repair's targets are open
off-append : (nodes : List Node) (s : ℕ) (xs ys : List At) → list_any (λ other. s == other) (subnets_of nodes (xs ++ ys)) ≡ false → IsOff nodes s xs × IsOff nodes s ys
off-append nodes s [] ys off = (refl, off)
off-append nodes s (x ∷ xs) ys off =
    let rest : list_any (λ other. s == other) (subnets_of nodes (xs ++ ys)) ≡ false = grind (arith, nat_tests, off) in
    let parts = off-append nodes s xs ys rest in
    (grind (arith, nat_tests, off, parts.0), parts.1)

flip-off : (nodes : List Node) (x : At) (ys : List At) (target : At) → IsOff nodes (subnet nodes x) (target ∷ ys) → (subnet nodes target == subnet nodes x) ≡ false
flip-off nodes x ys target off = grind (arith, nat_tests, off)

-- a target in a subnet of its own among pieces and later targets
apart-off : (nodes : List Node) (pieces : List At) (target : At) (rest : List At) → are_apart (subnets_of nodes (pieces ++ target ∷ rest)) ≡ true → IsOff nodes (subnet nodes target) pieces
apart-off nodes [] target rest apart = refl
apart-off nodes (x ∷ xs) target rest apart =
    let off : list_any (λ other. subnet nodes x == other) (subnets_of nodes (xs ++ target ∷ rest)) ≡ false = grind (arith, nat_tests, apart) in
    let more : are_apart (subnets_of nodes (xs ++ target ∷ rest)) ≡ true = grind (arith, nat_tests, apart) in
    let differ : (subnet nodes target == subnet nodes x) ≡ false = flip-off nodes x rest target (off-append nodes (subnet nodes x) xs (target ∷ rest) off).1 in
    grind (arith, nat_tests, differ, apart-off nodes xs target rest more)

apart-rest : (nodes : List Node) (pieces : List At) (target : At) (rest : List At) → are_apart (subnets_of nodes (pieces ++ target ∷ rest)) ≡ true → are_apart (subnets_of nodes (pieces ++ rest)) ≡ true × IsOff nodes (subnet nodes target) rest
apart-rest nodes [] target rest apart = (grind (arith, nat_tests, apart), grind (arith, nat_tests, apart))
apart-rest nodes (x ∷ xs) target rest apart =
    let off : list_any (λ other. subnet nodes x == other) (subnets_of nodes (xs ++ target ∷ rest)) ≡ false = grind (arith, nat_tests, apart) in
    let more : are_apart (subnets_of nodes (xs ++ target ∷ rest)) ≡ true = grind (arith, nat_tests, apart) in
    let parts = apart-rest nodes xs target rest more in
    let fewer = off-without (subnet nodes x) xs off in
    (grind (arith, nat_tests, fewer, parts.0), parts.1)
  where
    off-without : (s : ℕ) (xs : List At) → list_any (λ other. s == other) (subnets_of nodes (xs ++ target ∷ rest)) ≡ false → list_any (λ other. s == other) (subnets_of nodes (xs ++ rest)) ≡ false
    off-without s [] off = grind (arith, nat_tests, off)
    off-without s (y ∷ ys) off = grind (arith, nat_tests, off, off-without s ys)

pub open-targets : (nodes : List Node) (n : ℕ) (pieces targets : List At) → are_known nodes targets ≡ true → are_below n targets ≡ true → are_apart (subnets_of nodes (pieces ++ targets)) ≡ true → AreOpen nodes n pieces targets
open-targets nodes n pieces [] known below apart = tt
open-targets nodes n pieces (target ∷ rest) known below apart =
    let knowns = and_parts (is_known nodes target.node) (are_known nodes rest) known in
    let belows = and_parts (nat_lt target.index n) (are_below n rest) below in
    let parts = apart-rest nodes pieces target rest apart in
    (knowns.0, belows.0, apart-off nodes pieces target rest apart, parts.1, open-targets nodes n pieces rest knowns.1 belows.1 parts.0)
