use Rattle.std.proofs.Common.{◌++◌, rules}
use Rattle.std.specs.Prelude.{IsPermutation}
use Rattle.std.proofs.lemmas.List.Sorted.{IsNonDecreasingBy-from_sort_by_key}
use Rattle.sat_base.specs.declared.records.At.{At}
use Rattle.segment_core.proofs.ByIndex.{joined_differ, sorted_by_index}
use Rattle.segment_core.proofs.pieces.merged.Goals as goal

pub returns-clause-by_index : goal.returns-clause-by_index
returns-clause-by_index c =
    let sorted = c.sort_unstable_by_key.new.self.items in
    let moved : IsPermutation (c.args.keep.now ++ c.args.add.now) sorted = search rules in
    sorted_by_index (c.args.keep.now ++ c.args.add.now) sorted
    (joined_differ c.args.keep.now c.args.add.now c.requires.keep c.requires.add c.requires.apart)
    moved
    (IsNonDecreasingBy-from_sort_by_key (λ (place : At). place.index) _ c.sort_unstable_by_key.ensures.sorted (λ a r q k. search rules))
