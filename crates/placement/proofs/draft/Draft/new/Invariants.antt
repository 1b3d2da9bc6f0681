use Rattle.std.proofs.Common.{◌≡◌, take, []}
use Rattle.placement.specs.Draft.{terms_of, IsDraftAt}
use Rattle.placement.proofs.draft.Draft.new.Given as goal

abbrev pub invariant-loop-subnet : goal.invariant-loop-subnet
invariant-loop-subnet l = record {
  draft : IsDraftAt (terms_of l.request) (take l.subnet-index l.request.taken.now) l.draft;
  picks : l.draft.picks.items ≡ [];
}
