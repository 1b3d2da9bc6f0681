use Rattle.std.proofs.Common.{◌≡◌, ◌+◌, ◌≤◌, ◌<◌, length, arith}
use Rattle.rows.proofs.Lengths.{length-added}
use Rattle.rows.proofs.BlockLemmas.{block_at, same_at, set_added, set_blocks, split_added, split_blocks, held_absent, held_rising}
use Rattle.rows.proofs.blocks.add_at.Goals as goal

pub add-requires-clause-room : goal.add-requires-clause-room
add-requires-clause-room g c =
    let same = same_at c.args.blocks.now.items c.args.at c.index.result.now c.index_mut.result.now c.requires.at c.index.ensures c.index_mut.ensures.value in
    let block = block_at c.args.blocks.now.items c.args.at c.index_mut.result.now c.requires.at c.index_mut.ensures.value c.requires.blocks in
    let few : length c.index_mut.result.now.rows < 512 = rw (← same, ← c.len.ensures) c.if-len-lt-MOST.true in
    omega (arith, block.room, few)

pub add-requires-clause-absent : goal.add-requires-clause-absent
add-requires-clause-absent g c =
    held_absent c.args.blocks.now.items c.args.at c.requires.at g.R.Ranked.rank c.args.row c.index_mut.result.now c.index_mut.ensures.value c.requires.holds c.requires.absent

pub returns-then-len-lt-MOST-clause-rows : goal.returns-then-len-lt-MOST-clause-rows
returns-then-len-lt-MOST-clause-rows g c =
    set_added c.args.blocks.now.items c.args.at c.requires.at g.R.Ranked.rank c.args.row c.index_mut.result.now c.index_mut.ensures.value c.requires.holds c.add.new.self c.add.ensures.rows

pub returns-then-len-lt-MOST-clause-blocks : goal.returns-then-len-lt-MOST-clause-blocks
returns-then-len-lt-MOST-clause-blocks g c =
    let same = same_at c.args.blocks.now.items c.args.at c.index.result.now c.index_mut.result.now c.requires.at c.index.ensures c.index_mut.ensures.value in
    let block = block_at c.args.blocks.now.items c.args.at c.index_mut.result.now c.requires.at c.index_mut.ensures.value c.requires.blocks in
    let few : length c.index_mut.result.now.rows < 512 = rw (← same, ← c.len.ensures) c.if-len-lt-MOST.true in
    let more : length c.add.new.self.rows ≡ length c.index_mut.result.now.rows + 1 = rw c.add.ensures.rows (length-added g.R.Ranked.rank c.args.row c.index_mut.result.now.rows) in
    set_blocks c.args.blocks.now.items c.args.at c.requires.at c.add.new.self c.requires.blocks (record {
      some = omega (arith, more);
      few = omega (arith, more, few);
      room = omega (arith, more, c.add.ensures.spare, block.room);
    })

pub add_to_full-requires-clause-full : goal.add_to_full-requires-clause-full
add_to_full-requires-clause-full g c =
    let same = same_at c.args.blocks.now.items c.args.at c.index.result.now c.index_mut-2.result.now c.requires.at c.index.ensures c.index_mut-2.ensures.value in
    let block = block_at c.args.blocks.now.items c.args.at c.index_mut-2.result.now c.requires.at c.index_mut-2.ensures.value c.requires.blocks in
    let all : 512 ≤ length c.index_mut-2.result.now.rows = rw (← same, ← c.len.ensures) c.if-len-lt-MOST.false in
    omega (arith, block.few, all)

pub add_to_full-requires-clause-rising : goal.add_to_full-requires-clause-rising
add_to_full-requires-clause-rising g c =
    held_rising c.args.blocks.now.items c.args.at c.requires.at g.R.Ranked.rank c.index_mut-2.result.now c.index_mut-2.ensures.value c.requires.rising

pub add_to_full-requires-clause-absent : goal.add_to_full-requires-clause-absent
add_to_full-requires-clause-absent g c =
    held_absent c.args.blocks.now.items c.args.at c.requires.at g.R.Ranked.rank c.args.row c.index_mut-2.result.now c.index_mut-2.ensures.value c.requires.holds c.requires.absent

pub returns-clause-rows : goal.returns-clause-rows
returns-clause-rows g c =
    rw (rw c.unwrap.ensures at c.insert.ensures.items)
    (split_added c.args.blocks.now.items c.args.at c.requires.at g.R.Ranked.rank c.args.row c.index_mut-2.result.now c.index_mut-2.ensures.value c.requires.holds
    c.add_to_full.new.lower c.add_to_full.new.upper c.add_to_full.ensures.rows)

pub returns-clause-blocks : goal.returns-clause-blocks
returns-clause-blocks g c =
    rw (rw c.unwrap.ensures at c.insert.ensures.items)
    (split_blocks c.args.blocks.now.items c.args.at c.requires.at c.add_to_full.new.lower c.add_to_full.new.upper c.requires.blocks c.add_to_full.ensures.lower c.add_to_full.ensures.upper)
