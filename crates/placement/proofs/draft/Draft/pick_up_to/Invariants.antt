use Rattle.std.proofs.Common.{◌≡◌, ◌+◌, length}
use Rattle.placement.specs.Placed.{IsDrawn}
use Rattle.placement.specs.Draft.{terms_of, IsDraft}
use Rattle.placement.proofs.draft.Draft.pick_up_to.Given as goal

abbrev pub invariant-loop : goal.invariant-loop
invariant-loop l = record {
  draft : IsDraft (terms_of l.request) l.self;
  drawn : IsDrawn (terms_of l.request) l.class l.initial.self.picks.items l.self.picks.items;
  number : length l.self.picks.items ≡ length l.initial.self.picks.items + l.counter;
}
