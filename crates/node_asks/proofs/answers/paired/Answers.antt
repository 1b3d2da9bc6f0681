use Rattle.std.proofs.Common.{◌≡◌, ◌+◌, List, ◌∷◌, [], ◌++◌, length, reverse, get_or, take, ap, sym, ◌∙◌, append_assoc, arith}
use Rattle.std.proofs.lemmas.List.{length-append, length-map, length-reverse, length-take-le, map-append, take_more, reverse-append}
use Rattle.sat_base.specs.declared.nodes.Fetched.{Fetched}
use Rattle.sat_base.specs.declared.requests.Place.{Place}
use Rattle.node_asks.specs.declared.answers.Answered.{Answered}
use Rattle.node_asks.specs.Answers.{places_in, answers_in}
use Rattle.node_asks.proofs.answers.paired.Goals as goal

pub unreachable-requires : goal.unreachable-requires
unreachable-requires c =
    let before = c.loop-place.invariant in
    let all = c.loop-place.all.items in
    let rest = c.loop-place.rest.items in
    let long = ap length before.answers in
    let both = length-append (answers_in all) (reverse rest) in
    let whats = length-map all (λ (one : Answered). one.what) in
    let places = length-map all (λ (one : Answered). one.place) in
    let turned = length-reverse rest in
    let first = ap length before.places in
    let taken = length-take-le c.loop-place.place-index c.args.places.now (omega (arith, c.loop-place-test.true)) in
    omega (arith, long, both, whats, places, turned, first, taken, c.requires, c.loop-place-test.true, c.in_default.ensures.cases.0)

pub loop-place-preserved : goal.loop-place-preserved
loop-place-preserved c =
    let before = c.loop-place.invariant in
    let all = c.loop-place.all.items in
    let what = c.in-Some.what in
    let nowhere : Place = record { index = 0; node = record { 0 = 0 }; addr = 0; port = 0 } in
    let place : Place = get_or c.args.places.now c.loop-place.place-index nowhere in
    let turned : reverse c.loop-place.rest.items ≡ what ∷ reverse c.pop.new.self.items = ap reverse c.in-Some.ensures.items ∙ reverse-append c.pop.new.self.items (what ∷ []) in
    record {
      places = ap places_in c.in_ok-push.ensures.items ∙ map-append (λ (one : Answered). one.place) all (record { place = place; what = what } ∷ [])
          ∙ ap (λ (xs : List Place). xs ++ place ∷ []) before.places ∙ sym (take_more c.args.places.now c.loop-place.place-index nowhere c.loop-place-test.true);
      answers = ap (λ (xs : List Answered). answers_in xs ++ reverse c.pop.new.self.items) c.in_ok-push.ensures.items
          ∙ ap (λ (xs : List Fetched). xs ++ reverse c.pop.new.self.items) (map-append (λ (one : Answered). one.what) all _)
          ∙ append_assoc (answers_in all) (what ∷ []) (reverse c.pop.new.self.items)
          ∙ ap (λ (xs : List Fetched). answers_in all ++ xs) (sym turned) ∙ before.answers;
    }
