use Rattle.std.proofs.Common.{◌≡◌, ◌+◌, map, take, [], vec_capacity}
use Rattle.placement.specs.declared.request.Class.TheVariants.{Vetted, Unvetted}
use Rattle.placement.specs.Eligible.{subnet_of}
use Rattle.placement.specs.Draft.{terms_of}
use Rattle.placement.proofs.DraftLemmas.{test_of}
use Rattle.placement.proofs.draft.Draft.open.Given as goal

abbrev pub invariant-loop-node : goal.invariant-loop-node
invariant-loop-node l = record {
  chains : l.chains.subnets ≡ map subnet_of (take l.node-index l.node-items);
  vetted : l.vetted.items ≡ map (test_of (terms_of l.request) Vetted []) (take l.node-index l.node-items);
  unvetted : l.unvetted.items ≡ map (test_of (terms_of l.request) Unvetted []) (take l.node-index l.node-items);
  chains_room : l.chains.spare + l.node-index ≡ l.count;
  vetted_room : vec_capacity l.vetted ≡ l.count;
  unvetted_room : vec_capacity l.unvetted ≡ l.count;
}
