use Rattle.std.proofs.Common.{List, [], ◌+◌, ◌∙◌, take, count_by, arith, sym, subst, ap, refl}
use Rattle.std.specs.List.{AllZip}
use Rattle.sat_base.specs.declared.nodes.Ask.{Ask}
use Rattle.sat_base.specs.declared.nodes.Fetched.{Fetched}
use Rattle.sat_base.specs.declared.nodes.Fetched.TheVariants.{NoAnswer}
use Rattle.sat_base.specs.Nodes.{is_out_of_memory}
use Rattle.node_wire.specs.Answers.{IsHeardFetch}
use Rattle.gather.proofs.CountLemmas.{count_none}
use Rattle.gather.proofs.Zips.{zip_more}
use Rattle.gather.proofs.tokio_nodes.no_answers.Goals as goal

-- what stands past the last ask
abbrev no_ask : Ask
no_ask = record { node = record { 0 = 0 }; addr = 0; port = 0; segment = record { 0 = 0 }; index = 0; offset = 0; len = 0; order = [] }

pub loop-preserved : goal.loop-preserved
loop-preserved c =
    let before = c.loop.invariant in
    let answers = c.loop.answers.items in
    let pushed = c.push_reserved.ensures.items in
    record {
      made = omega (arith, c.push_reserved.ensures.len, before.made);
      room = c.push_reserved.ensures.capacity ∙ before.room;
      each = subst (λ (all : List Fetched). AllZip IsHeardFetch (take (c.loop.index + 1) c.args.asked.now) all) (sym pushed)
          (zip_more IsHeardFetch c.args.asked.now c.loop.index no_ask answers NoAnswer c.loop-test.true before.each tt);
      none = ap (λ (all : List Fetched). count_by is_out_of_memory all) pushed ∙ count_none is_out_of_memory answers NoAnswer before.none refl;
    }
