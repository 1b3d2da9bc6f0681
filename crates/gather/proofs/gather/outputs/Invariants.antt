use Rattle.std.proofs.Common.{◌≡◌, ◌++◌, map, vec_capacity}
use Rattle.std.specs.Vec.Iter.{into_iter_items}
use Rattle.gather.specs.declared.part.Part.TheVariants.{Done}
use Rattle.gather.proofs.gather.outputs.Given as goal

abbrev pub invariant-loop-part : goal.invariant-loop-part
invariant-loop-part g l =
    (l.yielded ≡ map Done l.room.items) × (l.yielded ++ into_iter_items l.part-iterator ≡ l.fn.parts.items) × (vec_capacity l.room ≡ vec_capacity l.fn.room)
