use Rattle.std.proofs.Common.{◌≡◌, ◌<◌, ◌≤◌, length, arith}
use Rattle.rows.proofs.Lengths.{length-without-le}
use Rattle.rows.proofs.BlockLemmas.{block_at, set_without, set_blocks, cut_without, cut_blocks, length_set, length_cut}
use Rattle.rows.proofs.blocks.remove_at.Goals as goal

pub returns-then-left-gt0-clause-rows : goal.returns-then-left-gt0-clause-rows
returns-then-left-gt0-clause-rows g c =
    set_without c.args.blocks.now.items c.args.at c.requires.at g.R.Ranked.rank c.args.k c.index_mut-block.result.now c.index_mut-block.ensures.value c.requires.holds
    c.remove.new.self c.remove.ensures.rows

pub returns-then-left-gt0-clause-blocks : goal.returns-then-left-gt0-clause-blocks
returns-then-left-gt0-clause-blocks g c =
    let block = block_at c.args.blocks.now.items c.args.at c.index_mut-block.result.now c.requires.at c.index_mut-block.ensures.value c.requires.blocks in
    let some : 0 < length c.remove.new.self.rows = rw (← c.len-left.ensures) c.if-left-gt0.true in
    let fewer : length c.remove.new.self.rows ≤ length c.index_mut-block.result.now.rows = rw c.remove.ensures.rows (length-without-le g.R.Ranked.rank c.index_mut-block.result.now.rows c.args.k) in
    set_blocks c.args.blocks.now.items c.args.at c.requires.at c.remove.new.self c.requires.blocks (record {
      some = omega (arith, some);
      few = omega (arith, fewer, block.few);
      room = omega (arith, c.remove.ensures.room, block.room);
    })

pub returns-then-left-gt0-clause-removed : goal.returns-then-left-gt0-clause-removed
returns-then-left-gt0-clause-removed g c =
    let fewer : length c.remove.new.self.rows ≤ length c.index_mut-block.result.now.rows = rw c.remove.ensures.rows (length-without-le g.R.Ranked.rank c.index_mut-block.result.now.rows c.args.k) in
    omega (
      arith,
      fewer,
      c.len-before.ensures,
      c.len-left.ensures,
      length_set c.args.blocks.now.items c.args.at c.requires.at c.index_mut-block.result.now c.index_mut-block.ensures.value c.remove.new.self,
    )

pub returns-clause-rows : goal.returns-clause-rows
returns-clause-rows g c =
    let none : length c.remove.new.self.rows ≡ 0 = omega (arith, c.len-left.ensures, c.if-left-gt0.false) in
    rw c.remove-empty.ensures.items
    (cut_without c.args.blocks.now.items c.args.at c.requires.at g.R.Ranked.rank c.args.k c.index_mut-block.result.now c.index_mut-block.ensures.value c.requires.holds
    c.remove.new.self c.remove.ensures.rows none)

pub returns-clause-blocks : goal.returns-clause-blocks
returns-clause-blocks g c = rw c.remove-empty.ensures.items (cut_blocks c.args.blocks.now.items c.args.at c.requires.at c.remove.new.self c.requires.blocks)

pub returns-clause-removed : goal.returns-clause-removed
returns-clause-removed g c =
    rw c.remove-empty.ensures.items
    (omega (
      arith,
      c.len-before.ensures,
      length_cut c.args.blocks.now.items c.args.at c.requires.at c.index_mut-block.result.now c.index_mut-block.ensures.value c.remove.new.self,
    ))
