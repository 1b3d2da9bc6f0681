use Rattle.std.proofs.Common.{◌≡◌, ◌<◌, ◌≤◌, ◌∙◌, ℕ, List, length, true, sym, ap, subst, arith}
use Rattle.std.specs.Prelude.{All}
use Rattle.bw_decode.specs.Altered.{indexes_of}
use Rattle.bw_decode.proofs.Rounds.{few_answers}
use Rattle.repair_core.specs.Indexes.{has_index}
use Rattle.repair_core.specs.Stripes.{IsUnclear}
use Rattle.repair_core.specs.Room.{AreMended}
use Rattle.repair_core.specs.Progress.{Progress}
use Rattle.repair_core.specs.Windows.{IsWindow, next_stripes}
use Rattle.repair_core.proofs.Rising.{all_below}
use Rattle.repair_core.proofs.Progressing.{seen, window_is}
use Rattle.repair_core.proofs.rebuilder.Rebuilder.window.Goals as goal

pub mend_all-requires-clause-below : goal.mend_all-requires-clause-below
mend_all-requires-clause-below c =
    let sources : c.args.self.sources ≡ c.self.inside.sources.items = sym (ap (λ (p : Progress). p.sources) c.self.view_is) in
    let same : c.self.inside.n ≡ c.args.scheme.now.n = ap (λ (p : Progress). p.n) c.self.view_is ∙ c.requires.scheme.2 in
    subst (λ n. All (λ index. index < n) (indexes_of c.args.shares.now)) same
    (all_below c.self.inside.n c.self.inside.sources.items (indexes_of c.args.shares.now) c.self.invariant.below
    (subst (λ (xs : List ℕ). All (λ index. has_index xs index ≡ true) (indexes_of c.args.shares.now)) sources c.requires.among))

pub mend_all-requires-clause-places : goal.mend_all-requires-clause-places
mend_all-requires-clause-places c =
    let sources : c.args.self.sources ≡ c.self.inside.sources.items = sym (ap (λ (p : Progress). p.sources) c.self.view_is) in
    let below = all_below c.self.inside.n c.self.inside.sources.items (indexes_of c.args.shares.now) c.self.invariant.below
    (subst (λ (xs : List ℕ). All (λ index. has_index xs index ≡ true) (indexes_of c.args.shares.now)) sources c.requires.among) in
    let few : length c.args.shares.now ≤ c.self.inside.n = few_answers c.self.inside.n c.args.shares.now c.requires.rising below in
    omega (arith, few, c.self.invariant.places)

pub returns-in-None-clause-ok : goal.returns-in-None-clause-ok
returns-in-None-clause-ok c =
    let held = c.self.inside in
    let old = held.made in
    let new = c.mend_all.new.made in
    let shares = c.args.shares.now in
    let number = c.min-number.result in
    let k_is : c.args.scheme.now.k ≡ held.k = sym (ap (λ (p : Progress). p.k) c.self.view_is ∙ c.requires.scheme.0) in
    let size_is : c.args.scheme.now.share ≡ held.size = sym (ap (λ (p : Progress). p.size) c.self.view_is ∙ c.requires.scheme.1) in
    let mended = subst (λ k. AreMended k held.size number shares number old.done old.marks.items old.fresh.items new.marks.items new.fresh.items) k_is
    (subst (λ size. AreMended c.args.scheme.now.k size number shares number old.done old.marks.items old.fresh.items new.marks.items new.fresh.items) size_is c.in-None.ensures.mended) in
    subst (λ (p : Progress). IsWindow p shares (seen held.k held.size held.n held.window new.whole held.sources.items new.done new.marks.items new.fresh.items)) c.self.view_is
    (window_is held.k held.size held.n held.window old.whole held.sources.items old.done old.marks.items old.fresh.items shares number new.whole new.done new.marks.items new.fresh.items
    c.min-number.ensures mended c.in-None.ensures.whole c.in-None.ensures.done)

pub returns-in-Some-clause-complete : goal.returns-in-Some-clause-complete
returns-in-Some-clause-complete c = λ enough near.
    let unclear = c.in-Some.ensures.unclear in
    let number : c.min-number.result ≡ next_stripes c.args.self = c.min-number.ensures ∙ ap next_stripes c.self.view_is in
    let k_is : c.args.scheme.now.k ≡ c.args.self.k = sym c.requires.scheme.0 in
    let size_is : c.args.scheme.now.share ≡ c.args.self.size = sym c.requires.scheme.1 in
    let same : IsUnclear c.args.self.k c.args.self.size (next_stripes c.args.self) c.args.shares.now c.in-Some.s
    = rw (← k_is, ← size_is, ← number) unclear in
    let (stripe, is) = near c.in-Some.s same.within in
    absurd (same.none stripe is)
