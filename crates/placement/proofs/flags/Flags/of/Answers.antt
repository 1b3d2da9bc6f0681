use Rattle.std.proofs.Common.{◌≡◌, ◌+◌, ◌*◌, inl, inr, ◌∙◌, arith}
use Rattle.std.proofs.lemmas.Bool.{cases_lt}
use Rattle.std.proofs.lemmas.List.{get_or_past, get_or_push, get_or_append_left}
use Rattle.placement.specs.Flags.{rank}
use Rattle.placement.proofs.Ranks.{rank_block, rank_past, rank-le-length}
use Rattle.placement.proofs.flags.Flags.of.Goals as goal

-- the count of the block
count_is : (c : goal.After-push_reserved) → rank (256 * c.loop-block.block) c.args.flags.items + c.count_set-count.result ≡ rank (256 * (c.loop-block.block + 1)) c.args.flags.items
count_is c =
    rank_block c.loop-block.block c.min-end.result c.count_set-count.result c.args.flags.items (omega arith) (omega arith) (rw c.deref.ensures.value at c.count_set-count.ensures)

pub overflow_add-total : goal.overflow_add-total
overflow_add-total c =
    let sum = c.loop-block.invariant.sum in
    omega (arith, count_is c, rank-le-length (256 * (c.loop-block.block + 1)) c.args.flags.items)

pub loop-block-preserved : goal.loop-block-preserved
loop-block-preserved c =
    let before = c.loop-block.invariant in
    let counts = c.loop-block.counts.items in
    record {
      long = omega (arith, c.push_reserved.ensures.len, before.long);
      room = c.push_reserved.ensures.capacity ∙ before.room;
      sum = rw before.sum (count_is c);
      each = λ b lt. rw c.push_reserved.ensures.items (elim (cases_lt b c.loop-block.block) [
        | inl earlier ↦ rw (get_or_append_left counts _ 0 b (omega (arith, before.long))) (before.each b earlier)
        | inr here ↦ let same : b ≡ c.loop-block.block = omega arith in rw (same, get_or_push counts c.count_set-count.result 0 c.loop-block.block before.long) (count_is c)
      ]);
    }

pub invariant_of-result : goal.invariant_of-result
invariant_of-result c = record {
  all = c.loop-block.invariant.sum ∙ rank_past (256 * c.loop-block.block) c.args.flags.items (omega arith);
  covered = omega arith;
  blocks = λ b. elim (cases_lt b c.loop-block.block) [
    | inl within ↦ c.loop-block.invariant.each b within
    | inr past ↦
        let none = get_or_past c.loop-block.counts.items b 0 (omega (arith, c.loop-block.invariant.long)) in
        let start = rank_past (256 * b) c.args.flags.items (omega arith) in
        let end = rank_past (256 * (b + 1)) c.args.flags.items (omega arith) in
        omega arith
  ];
}
