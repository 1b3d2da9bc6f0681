use Rattle.std.proofs.Common.{◌≡◌, ◌++◌, map, vec_capacity}
use Rattle.std.specs.Vec.Iter.{into_iter_items}
use Rattle.gather.specs.declared.part.Part.TheVariants.{Waiting}
use Rattle.gather.proofs.gather.Gather+F+F+Output.new.Given as goal

abbrev pub invariant-loop-part : goal.invariant-loop-part
invariant-loop-part g l =
    (l.waiting.items ≡ map Waiting l.yielded) × (l.yielded ++ into_iter_items l.part-iterator ≡ l.fn.parts.items) × (vec_capacity l.waiting ≡ vec_capacity l.initial.waiting) × (l.room ≡ l.initial.room)
