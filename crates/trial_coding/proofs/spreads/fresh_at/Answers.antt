use Rattle.std.proofs.Common.{◌≡◌, ◌+◌, List, [], ◌∷◌, ◌++◌, take, get_or, sym, subst, refl, rules, add-one}
use Rattle.std.proofs.Math.Seq.{take-suc}
use Rattle.std.proofs.lemmas.Slice.Zip.{all_zipped_more}
use Rattle.std.specs.List.{AllZip}
use Rattle.sat_base.specs.declared.items.Share.{Share}
use Rattle.sat_base.specs.declared.requests.Place.{Place}
use Rattle.node_asks.specs.Spreading.{IsFresh}
use Rattle.trial_coding.proofs.spreads.fresh_at.Goals as goal

pub loop-place-preserved : goal.loop-place-preserved
loop-place-preserved c =
    let places = c.args.places.now in
    let i = c.loop-place.place-index in
    let d : Place = record { index = 0; node = record { 0 = 0 }; addr = 0; port = 0 } in
    let one : Place = get_or places i d in
    let share : Share = record { index = one.index; bytes = c.of-bytes.result } in
    let fresh : IsFresh c.args.len one share = (refl, search rules) in
    let more = all_zipped_more (IsFresh c.args.len) (take i places) c.loop-place.fresh.items one share c.loop-place.invariant fresh in
    let taken : take (i + 1) places ≡ take i places ++ one ∷ [] = rw (add-one) (take-suc places i d c.loop-place-test.true) in
    subst (λ (xs : List Place). AllZip (IsFresh c.args.len) xs c.push.new.self.items) (sym taken)
    (subst (λ (ys : List Share). AllZip (IsFresh c.args.len) (take i places ++ one ∷ []) ys) (sym c.in_ok-push.ensures.items) more)
