use Rattle.std.proofs.Common.{List, ap, sym, subst, ◌∙◌}
use Rattle.node_registry.specs.declared.node.Node.{Node}
use Rattle.segment_core.specs.Record.{SegmentRecord}
use Rattle.segment_index.specs.Indexed.{Indexed}
use Rattle.machine_step.specs.Tables.{setup_of}
use Rattle.pay_tables.specs.InStep.{IsInStep}
use Rattle.machine_store.specs.Store.{KnowsLost}
use Rattle.machine_store.proofs.LostLemmas.{placed-beside, knows-lost, knows-kept}
use Rattle.machine_store.proofs.StoreLemmas.{kept-beside}
use Rattle.machine_store.proofs.steps.put_counted.Goals as goal

pub returns-then-counts-clause-own : goal.returns-then-counts-clause-own
returns-then-counts-clause-own c own =
    let index = c.args.store.now.segments in
    let same = c.keep.ensures.same in
    record {
      setup = own.setup;
      keys = own.keys;
      cap = own.cap;
      limits = ap (λ (t : Indexed). t.limits) same ∙ own.limits;
      lost = subst (λ (ns : List Node). KnowsLost ns c.keep.new.self) (sym c.put_node.ensures.nodes)
          (knows-kept c.args.store.now.nodes.nodes c.args.node index c.keep.new.self own.lost (ap (λ (t : Indexed). t.gone) same) c.requires.placed.1 (sym c.counts-counts.ensures ∙ c.if-counts.true) c.keep.ensures.pending);
      pay = subst (λ (rows : List SegmentRecord). IsInStep (setup_of c.args.store.now.settings) rows c.args.store.now.settled.rows c.args.store.now.pay) (sym (ap (λ (t : Indexed). t.rows) same)) own.pay;
    }

pub returns-then-counts-clause-keeps : goal.returns-then-counts-clause-keeps
returns-then-counts-clause-keeps c =
    kept-beside c.args.store.now c.put_node.new.nodes c.keep.new.self (ap (λ (t : Indexed). t.gone) c.keep.ensures.same) c.put_node.ensures.keeps (placed-beside c.args.store.now.segments c.keep.new.self c.keep.ensures.same)

pub returns-else-counts-clause-own : goal.returns-else-counts-clause-own
returns-else-counts-clause-own c own =
    let index = c.args.store.now.segments in
    let same = c.lose.ensures.same in
    record {
      setup = own.setup;
      keys = own.keys;
      cap = own.cap;
      limits = ap (λ (t : Indexed). t.limits) same ∙ own.limits;
      lost = subst (λ (ns : List Node). KnowsLost ns c.lose.new.self) (sym c.put_node.ensures.nodes)
          (knows-lost c.args.store.now.nodes.nodes c.args.node index c.lose.new.self own.lost (ap (λ (t : Indexed). t.gone) same) (sym c.counts-counts.ensures ∙ c.if-counts.false) c.lose.ensures.pending);
      pay = subst (λ (rows : List SegmentRecord). IsInStep (setup_of c.args.store.now.settings) rows c.args.store.now.settled.rows c.args.store.now.pay) (sym (ap (λ (t : Indexed). t.rows) same)) own.pay;
    }

pub returns-else-counts-clause-keeps : goal.returns-else-counts-clause-keeps
returns-else-counts-clause-keeps c =
    kept-beside c.args.store.now c.put_node.new.nodes c.lose.new.self (ap (λ (t : Indexed). t.gone) c.lose.ensures.same) c.put_node.ensures.keeps (placed-beside c.args.store.now.segments c.lose.new.self c.lose.ensures.same)
