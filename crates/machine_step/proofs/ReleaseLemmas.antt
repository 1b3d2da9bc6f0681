-- The containments that a step drops: just those that don't stand are gone, and nothing else changes.
use Rattle.std.proofs.Common.{◌≡◌, ℕ, Bool, true, false, not, List, [], ◌∷◌, ◌++◌, refl, ap, ◌∙◌, arith}
use Rattle.std.specs.Prelude.{if◌then◌else◌, map, filter}
use Rattle.std.specs.List.{list_all}
use Rattle.std.proofs.lemmas.Bool.Decides.{nat_tests}
use Rattle.sat_base.specs.declared.records.Containment.{Containment}
use Rattle.sat_base.specs.Ranks.{containment_rank}
use Rattle.rows.specs.Rows.{without, AllAbove, IsRising}
use Rattle.rows.proofs.Lengths.{without_above}
use Rattle.machine_calls.specs.declared.change.RecChange.{RecChange}
use Rattle.machine_step.specs.Tables.{Tables, changed, all_changed}
use Rattle.machine_step.specs.Containment.{stands, fallen, release, with_releases}

pub changed-append : (cs ds : List RecChange) (t : Tables) → all_changed t (cs ++ ds) ≡ all_changed (all_changed t cs) ds
changed-append [] ds t = refl
changed-append (c ∷ cs) ds t = changed-append cs ds (changed t c)

abbrev drop_all : List Containment → List Containment → List Containment
drop_all rows [] = rows
drop_all rows (c ∷ cs) = drop_all (without containment_rank rows c.node.0) cs

released : (cs : List Containment) (t : Tables) → all_changed t (map release cs) ≡ record t { containments = drop_all t.containments cs }
released [] t = refl
released (c ∷ cs) t = released cs (record t { containments = without containment_rank t.containments c.node.0 })

above-filtered : (test : Containment → Bool) (n : ℕ) (rows : List Containment) → AllAbove containment_rank n rows → AllAbove containment_rank n (filter test rows)
above-filtered test n [] above = tt
above-filtered test n (c ∷ rows) above = go (test c) (above-filtered test n rows above.1)
  where
    go : (b : Bool) → AllAbove containment_rank n (filter test rows) → AllAbove containment_rank n (if b then c ∷ filter test rows else filter test rows)
    go true rest = (above.0, rest)
    go false rest = rest

pub rising-filtered : (test : Containment → Bool) (rows : List Containment) → IsRising containment_rank rows → IsRising containment_rank (filter test rows)
rising-filtered test [] rising = tt
rising-filtered test (c ∷ rows) rising = go (test c) (rising-filtered test rows rising.1)
  where
    go : (b : Bool) → IsRising containment_rank (filter test rows) → IsRising containment_rank (if b then c ∷ filter test rows else filter test rows)
    go true rest = (above-filtered test (containment_rank c) rows rising.0, rest)
    go false rest = rest

-- the first row stays where only later ones are dropped
drop-above : (c : Containment) (cs rows : List Containment) → AllAbove containment_rank (containment_rank c) cs → drop_all (c ∷ rows) cs ≡ c ∷ drop_all rows cs
drop-above c [] rows above = refl
drop-above c (d ∷ cs) rows above =
    let keeps : without containment_rank (c ∷ rows) d.node.0 ≡ c ∷ without containment_rank rows d.node.0 = let lt = above.0 in grind (arith, nat_tests, lt) in
    ap (λ (xs : List Containment). drop_all xs cs) keeps ∙ drop-above c cs (without containment_rank rows d.node.0) above.1

drop-fallen : (stand : Containment → Bool) (rows : List Containment) → IsRising containment_rank rows → drop_all rows (filter (λ c. not (stand c)) rows) ≡ filter stand rows
drop-fallen stand [] rising = refl
drop-fallen stand (c ∷ rows) rising = go (stand c) (drop-fallen stand rows rising.1)
  where
    fall : List Containment
    fall = filter (λ x. not (stand x)) rows

    head_gone : without containment_rank (c ∷ rows) c.node.0 ≡ rows
    head_gone = let rest = without_above containment_rank rows (containment_rank c) c.node.0 rising.0 (omega arith) in grind (arith, nat_tests, rest)

    go : (b : Bool) → drop_all rows (filter (λ x. not (stand x)) rows) ≡ filter stand rows
        → drop_all (c ∷ rows) (if not b then c ∷ filter (λ x. not (stand x)) rows else filter (λ x. not (stand x)) rows) ≡ (if b then c ∷ filter stand rows else filter stand rows)
    go true ih = drop-above c (filter (λ x. not (stand x)) rows) rows (above-filtered (λ x. not (stand x)) (containment_rank c) rows rising.0) ∙ ap (λ (xs : List Containment). c ∷ xs) ih
    go false ih = ap (λ (xs : List Containment). drop_all xs (filter (λ x. not (stand x)) rows)) head_gone ∙ ih

-- the containments that are left after changes
abbrev pub left_of : Tables → List RecChange → List Containment
left_of t [] = t.containments
left_of t (c ∷ cs) = drop_all (all_changed t (c ∷ cs)).containments (fallen (all_changed t (c ∷ cs)))

-- the releases change nothing but the containments
pub releases_are : (t : Tables) (cs : List RecChange) → all_changed t (with_releases t cs) ≡ record (all_changed t cs) { containments = left_of t cs }
releases_are t [] = refl
releases_are t (c ∷ cs) = changed-append (c ∷ cs) (map release (fallen (all_changed t (c ∷ cs)))) t ∙ released (fallen (all_changed t (c ∷ cs))) (all_changed t (c ∷ cs))

-- where something changes, those that stand are left
pub left_standing : (t : Tables) (c : RecChange) (cs : List RecChange) → IsRising containment_rank (all_changed t (c ∷ cs)).containments
    → left_of t (c ∷ cs) ≡ filter (stands (all_changed t (c ∷ cs))) (all_changed t (c ∷ cs)).containments
left_standing t c cs rising = drop-fallen (stands (all_changed t (c ∷ cs))) (all_changed t (c ∷ cs)).containments rising

pub all-kept : {X : Type 0} (test : X → Bool) (xs : List X) → list_all test (filter test xs) ≡ true
all-kept test [] = refl
all-kept test (x ∷ xs) = go (test x) refl (all-kept test xs)
  where
    go : (b : Bool) → test x ≡ b → list_all test (filter test xs) ≡ true → list_all test (if b then x ∷ filter test xs else filter test xs) ≡ true
    go true is ih = grind (arith, is, ih)
    go false is ih = ih
