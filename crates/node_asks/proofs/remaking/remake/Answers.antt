use Rattle.std.proofs.Common.{◌≡◌, ◌+◌, ◌-◌, ◌/◌, ◌<◌, ◌≤◌, ℕ, List, [], ◌∷◌, ◌++◌, length, take, Option, Some, None, refl, sym, ap, subst, ◌∙◌, inl, inr, arith, rules}
use Rattle.std.specs.Prelude.{map, min}
use Rattle.sat_base.specs.declared.nodes.Ask.{Ask}
use Rattle.sat_base.specs.declared.requests.Place.{Place}
use Rattle.sat_base.specs.Outside.{with_end}
use Rattle.sat_base.proofs.Told.{with_end-none}
use Rattle.bw_decode.specs.Near.{Rises}
use Rattle.repair_core.specs.Progress.{Progress}
use Rattle.repair_core.specs.Indexes.{place_indexes}
use Rattle.repair_core.specs.Windows.{next_stripes, start_of}
use Rattle.sat_base.specs.Scheme.{stripe_count}
use Rattle.sat_base.specs.Nodes.{AsksSome}
use Rattle.node_asks.specs.declared.remaking.Heeded.{Heeded}
use Rattle.node_asks.specs.Remaking.{heeding_of}
use Rattle.node_asks.proofs.AskLemmas.{on_err, none_sent, all_sent}
use Rattle.node_asks.proofs.RemakeLemmas.{IsAsking, Answers, number_is, went_on, gave_up, rise_next, among_next, stops, ends_made, starts, same_asks, if_ok3, why_of, some_window}
use Rattle.node_asks.proofs.remaking.remake.Goals as goal

pub loop-asking-init : goal.loop-asking-init
loop-asking-init g c =
    let held = g.N.Nodes.held c.args.nodes.now in
    let secret = c.args.keys.now in
    let scheme = c.args.scheme.now in
    let plan = c.args.plan.now in
    let sources = c.args.sources.now in
    let old = g.N.Nodes.asks c.args.nodes.now in
    let faults = g.N.Nodes.faults c.args.nodes.now in
    let first : c.in_ok-rebuilder.rebuilder ≡ (heeding_of scheme plan sources).progress
    = c.in_ok-rebuilder.ensures ∙ ap (λ n. start_of scheme.k scheme.share scheme.n (16384 / n) (stripe_count scheme.k scheme.share plan.len) (place_indexes plan.sources) (place_indexes plan.targets)) c.from-size.ensures in
    record {
      asking = subst (λ (gone : List ℕ). IsAsking held old old secret scheme plan sources faults faults c.in_ok-rebuilder.rebuilder c.in_ok-from_slice.field-0.items gone) (sym c.new-2.ensures.items)
          (subst (λ (still : List Place). IsAsking held old old secret scheme plan sources faults faults c.in_ok-rebuilder.rebuilder still []) (sym c.in_ok-from_slice.ensures.items)
          (subst (λ (p : Progress). IsAsking held old old secret scheme plan sources faults faults p sources []) (sym first) (starts held (g.N.Nodes.asks c.args.nodes.now) secret scheme plan c.args.sources.now (g.N.Nodes.faults c.args.nodes.now) c.requires.sources c.requires.rising)));
      held = refl;
      counts = omega arith;
      last = λ e. e;
      points = refl;
    }

pub loop-asking-preserved : goal.loop-asking-preserved
loop-asking-preserved g c =
    let held = g.N.Nodes.held c.args.nodes.now in
    let secret = c.args.keys.now in
    let scheme = c.args.scheme.now in
    let plan = c.args.plan.now in
    let progress = c.loop-asking.rebuilder in
    let asking = c.loop-asking.invariant.asking in
    let came : Answers held (g.N.Nodes.held c.loop-asking.nodes) (g.N.Nodes.asks c.loop-asking.nodes) (g.N.Nodes.asks c.next_window.new.nodes) secret scheme plan
    (g.N.Nodes.faults c.loop-asking.nodes) (g.N.Nodes.faults c.next_window.new.nodes) progress c.loop-asking.left c.in_ok-sorted.sorted c.done-from.result c.min-number.result
    = record {
      less = omega (arith, c.loop-asking-test.true, c.done.ensures, c.stripes-stripes.ensures, asking.kept.count_is);
      from_is = c.done-from.ensures;
      number_is = c.min-number.ensures ∙ number_is _ progress.window c.stripes-stripes.result progress.count c.done-from.result progress.done
          (ap (λ n. 16384 / n) c.from-size.ensures ∙ sym asking.size) (c.stripes-stripes.ensures ∙ sym asking.kept.count_is) c.done-from.ensures;
      same_held = c.loop-asking.invariant.held;
      answered = c.in_ok-sorted.ensures.answered;
      up = c.in_ok-sorted.ensures.counts;
      asks = c.in_ok-sorted.ensures.asks;
    } in
    record {
      asking = went_on held (g.N.Nodes.held c.loop-asking.nodes) (g.N.Nodes.asks c.args.nodes.now) (g.N.Nodes.asks c.loop-asking.nodes) (g.N.Nodes.asks c.next_window.new.nodes) secret scheme plan c.args.sources.now (g.N.Nodes.faults c.args.nodes.now) (g.N.Nodes.faults c.loop-asking.nodes) (g.N.Nodes.faults c.next_window.new.nodes) progress c.loop-asking.left c.in_ok-sorted.sorted c.done-from.result c.min-number.result asking came c.as_slice.result.now c.in-Ok.next c.as_slice.ensures.value c.in-Ok.ensures.ok;
      held = c.in_ok-sorted.ensures.held ∙ c.loop-asking.invariant.held;
      counts = omega (arith, c.in_ok-sorted.ensures.counts, c.loop-asking.invariant.counts);
      last = λ e. c.in_ok-sorted.ensures.last (c.loop-asking.invariant.last e);
      points = c.in-Ok.ensures.points ∙ c.loop-asking.invariant.points;
    }

pub loop-asking-smaller : goal.loop-asking-smaller
loop-asking-smaller g c =
    let held = g.N.Nodes.held c.args.nodes.now in
    let secret = c.args.keys.now in
    let scheme = c.args.scheme.now in
    let plan = c.args.plan.now in
    let progress = c.loop-asking.rebuilder in
    let asking = c.loop-asking.invariant.asking in
    let came : Answers held (g.N.Nodes.held c.loop-asking.nodes) (g.N.Nodes.asks c.loop-asking.nodes) (g.N.Nodes.asks c.next_window.new.nodes) secret scheme plan
    (g.N.Nodes.faults c.loop-asking.nodes) (g.N.Nodes.faults c.next_window.new.nodes) progress c.loop-asking.left c.in_ok-sorted.sorted c.done-from.result c.min-number.result
    = record {
      less = omega (arith, c.loop-asking-test.true, c.done.ensures, c.stripes-stripes.ensures, asking.kept.count_is);
      from_is = c.done-from.ensures;
      number_is = c.min-number.ensures ∙ number_is _ progress.window c.stripes-stripes.result progress.count c.done-from.result progress.done
          (ap (λ n. 16384 / n) c.from-size.ensures ∙ sym asking.size) (c.stripes-stripes.ensures ∙ sym asking.kept.count_is) c.done-from.ensures;
      same_held = c.loop-asking.invariant.held;
      answered = c.in_ok-sorted.ensures.answered;
      up = c.in_ok-sorted.ensures.counts;
      asks = c.in_ok-sorted.ensures.asks;
    } in
    let window = c.in-Ok.ensures.ok in
    let some = some_window scheme.share scheme.some_bytes scheme.few_bytes in
    omega (arith, ap (λ (p : Progress). p.done) window.is_after, window.number, some, asking.size, came.less, c.stripes-stripes.ensures, asking.kept.count_is)

pub returns-in_err-rebuilder-clause-err : goal.returns-in_err-rebuilder-clause-err
returns-in_err-rebuilder-clause-err g c =
    let held = g.N.Nodes.held c.args.nodes.now in
    let secret = c.args.keys.now in
    let scheme = c.args.scheme.now in
    let plan = c.args.plan.now in
    on_err c.from_residual.result _ (stops held (g.N.Nodes.asks c.args.nodes.now) (g.N.Nodes.asks c.args.nodes.now) (g.N.Nodes.asks c.args.nodes.now) secret scheme plan c.args.sources.now (g.N.Nodes.faults c.args.nodes.now) (g.N.Nodes.faults c.args.nodes.now) (heeding_of scheme plan c.args.sources.now).progress c.args.sources.now [] (starts held (g.N.Nodes.asks c.args.nodes.now) secret scheme plan c.args.sources.now (g.N.Nodes.faults c.args.nodes.now) c.requires.sources c.requires.rising) (none_sent (g.N.Nodes.asks c.args.nodes.now) _))

pub returns-in_err-from_slice-clause-err : goal.returns-in_err-from_slice-clause-err
returns-in_err-from_slice-clause-err g c =
    let held = g.N.Nodes.held c.args.nodes.now in
    let secret = c.args.keys.now in
    let scheme = c.args.scheme.now in
    let plan = c.args.plan.now in
    on_err c.from_residual-in_err-from_slice.result _ (stops held (g.N.Nodes.asks c.args.nodes.now) (g.N.Nodes.asks c.args.nodes.now) (g.N.Nodes.asks c.args.nodes.now) secret scheme plan c.args.sources.now (g.N.Nodes.faults c.args.nodes.now) (g.N.Nodes.faults c.args.nodes.now) (heeding_of scheme plan c.args.sources.now).progress c.args.sources.now [] (starts held (g.N.Nodes.asks c.args.nodes.now) secret scheme plan c.args.sources.now (g.N.Nodes.faults c.args.nodes.now) c.requires.sources c.requires.rising) (none_sent (g.N.Nodes.asks c.args.nodes.now) _))

pub returns-in_err-sorted-clause-err : goal.returns-in_err-sorted-clause-err
returns-in_err-sorted-clause-err g c =
    let held = g.N.Nodes.held c.args.nodes.now in
    let secret = c.args.keys.now in
    let scheme = c.args.scheme.now in
    let plan = c.args.plan.now in
    let number : c.min-number.result ≡ next_stripes c.loop-asking.rebuilder
    = c.min-number.ensures ∙ number_is _ c.loop-asking.rebuilder.window c.stripes-stripes.result c.loop-asking.rebuilder.count c.done-from.result c.loop-asking.rebuilder.done
    (ap (λ n. 16384 / n) c.from-size.ensures ∙ sym c.loop-asking.invariant.asking.size) (c.stripes-stripes.ensures ∙ sym c.loop-asking.invariant.asking.kept.count_is) c.done-from.ensures in
    let same = same_asks secret scheme plan c.loop-asking.left.still.items c.loop-asking.rebuilder c.done-from.result c.min-number.result c.done-from.ensures number in
    on_err c.from_residual-in_err-sorted.result _
    (stops held (g.N.Nodes.asks c.args.nodes.now) (g.N.Nodes.asks c.loop-asking.nodes) (g.N.Nodes.asks c.next_window.new.nodes) secret scheme plan c.args.sources.now (g.N.Nodes.faults c.args.nodes.now) (g.N.Nodes.faults c.loop-asking.nodes) c.loop-asking.rebuilder c.loop-asking.left.still.items c.loop-asking.left.gone.items c.loop-asking.invariant.asking (subst (λ (xs : List Ask). AsksSome (g.N.Nodes.asks c.loop-asking.nodes) xs (g.N.Nodes.asks c.next_window.new.nodes)) same c.in_err-sorted.ensures.err))

pub window-requires-clause-scheme : goal.window-requires-clause-scheme
window-requires-clause-scheme g c = let kept = c.loop-asking.invariant.asking.kept in (kept.k_is, kept.size_is, kept.n_is)

pub window-requires-clause-rising : goal.window-requires-clause-rising
window-requires-clause-rising g c =
    let held = g.N.Nodes.held c.args.nodes.now in
    let secret = c.args.keys.now in
    let scheme = c.args.scheme.now in
    let plan = c.args.plan.now in
    let progress = c.loop-asking.rebuilder in
    let asking = c.loop-asking.invariant.asking in
    let came : Answers held (g.N.Nodes.held c.loop-asking.nodes) (g.N.Nodes.asks c.loop-asking.nodes) (g.N.Nodes.asks c.next_window.new.nodes) secret scheme plan
    (g.N.Nodes.faults c.loop-asking.nodes) (g.N.Nodes.faults c.next_window.new.nodes) progress c.loop-asking.left c.in_ok-sorted.sorted c.done-from.result c.min-number.result
    = record {
      less = omega (arith, c.loop-asking-test.true, c.done.ensures, c.stripes-stripes.ensures, asking.kept.count_is);
      from_is = c.done-from.ensures;
      number_is = c.min-number.ensures ∙ number_is _ progress.window c.stripes-stripes.result progress.count c.done-from.result progress.done
          (ap (λ n. 16384 / n) c.from-size.ensures ∙ sym asking.size) (c.stripes-stripes.ensures ∙ sym asking.kept.count_is) c.done-from.ensures;
      same_held = c.loop-asking.invariant.held;
      answered = c.in_ok-sorted.ensures.answered;
      up = c.in_ok-sorted.ensures.counts;
      asks = c.in_ok-sorted.ensures.asks;
    } in
    rise_next held (g.N.Nodes.held c.loop-asking.nodes) (g.N.Nodes.asks c.args.nodes.now) (g.N.Nodes.asks c.loop-asking.nodes) (g.N.Nodes.asks c.next_window.new.nodes) secret scheme plan c.args.sources.now (g.N.Nodes.faults c.args.nodes.now) (g.N.Nodes.faults c.loop-asking.nodes) (g.N.Nodes.faults c.next_window.new.nodes) progress c.loop-asking.left c.in_ok-sorted.sorted c.done-from.result c.min-number.result asking came c.as_slice.result.now c.as_slice.ensures.value

pub window-requires-clause-among : goal.window-requires-clause-among
window-requires-clause-among g c =
    let held = g.N.Nodes.held c.args.nodes.now in
    let secret = c.args.keys.now in
    let scheme = c.args.scheme.now in
    let plan = c.args.plan.now in
    let progress = c.loop-asking.rebuilder in
    let asking = c.loop-asking.invariant.asking in
    let came : Answers held (g.N.Nodes.held c.loop-asking.nodes) (g.N.Nodes.asks c.loop-asking.nodes) (g.N.Nodes.asks c.next_window.new.nodes) secret scheme plan
    (g.N.Nodes.faults c.loop-asking.nodes) (g.N.Nodes.faults c.next_window.new.nodes) progress c.loop-asking.left c.in_ok-sorted.sorted c.done-from.result c.min-number.result
    = record {
      less = omega (arith, c.loop-asking-test.true, c.done.ensures, c.stripes-stripes.ensures, asking.kept.count_is);
      from_is = c.done-from.ensures;
      number_is = c.min-number.ensures ∙ number_is _ progress.window c.stripes-stripes.result progress.count c.done-from.result progress.done
          (ap (λ n. 16384 / n) c.from-size.ensures ∙ sym asking.size) (c.stripes-stripes.ensures ∙ sym asking.kept.count_is) c.done-from.ensures;
      same_held = c.loop-asking.invariant.held;
      answered = c.in_ok-sorted.ensures.answered;
      up = c.in_ok-sorted.ensures.counts;
      asks = c.in_ok-sorted.ensures.asks;
    } in
    among_next held (g.N.Nodes.held c.loop-asking.nodes) (g.N.Nodes.asks c.args.nodes.now) (g.N.Nodes.asks c.loop-asking.nodes) (g.N.Nodes.asks c.next_window.new.nodes) secret scheme plan c.args.sources.now (g.N.Nodes.faults c.args.nodes.now) (g.N.Nodes.faults c.loop-asking.nodes) (g.N.Nodes.faults c.next_window.new.nodes) progress c.loop-asking.left c.in_ok-sorted.sorted c.done-from.result c.min-number.result asking came c.as_slice.result.now c.as_slice.ensures.value

pub returns-in-Err-clause-remade : goal.returns-in-Err-clause-remade
returns-in-Err-clause-remade g c =
    let held = g.N.Nodes.held c.args.nodes.now in
    let secret = c.args.keys.now in
    let scheme = c.args.scheme.now in
    let plan = c.args.plan.now in
    let progress = c.loop-asking.rebuilder in
    let asking = c.loop-asking.invariant.asking in
    let came : Answers held (g.N.Nodes.held c.loop-asking.nodes) (g.N.Nodes.asks c.loop-asking.nodes) (g.N.Nodes.asks c.next_window.new.nodes) secret scheme plan
    (g.N.Nodes.faults c.loop-asking.nodes) (g.N.Nodes.faults c.next_window.new.nodes) progress c.loop-asking.left c.in_ok-sorted.sorted c.done-from.result c.min-number.result
    = record {
      less = omega (arith, c.loop-asking-test.true, c.done.ensures, c.stripes-stripes.ensures, asking.kept.count_is);
      from_is = c.done-from.ensures;
      number_is = c.min-number.ensures ∙ number_is _ progress.window c.stripes-stripes.result progress.count c.done-from.result progress.done
          (ap (λ n. 16384 / n) c.from-size.ensures ∙ sym asking.size) (c.stripes-stripes.ensures ∙ sym asking.kept.count_is) c.done-from.ensures;
      same_held = c.loop-asking.invariant.held;
      answered = c.in_ok-sorted.ensures.answered;
      up = c.in_ok-sorted.ensures.counts;
      asks = c.in_ok-sorted.ensures.asks;
    } in
    let why = why_of progress c.as_slice.result.now c.in-Err.field-0 c.in-Err.ensures.few c.in-Err.ensures.unclear in
    if_ok3 _ _ _ _ c.handed_back.result c.handed_back.ensures.made c.handed_back.ensures.answered c.handed_back.ensures.missing
    (λ (h : Heeded). λ made. λ answered. λ missing. gave_up held (g.N.Nodes.held c.loop-asking.nodes) (g.N.Nodes.asks c.args.nodes.now) (g.N.Nodes.asks c.loop-asking.nodes) (g.N.Nodes.asks c.next_window.new.nodes) secret scheme plan c.args.sources.now (g.N.Nodes.faults c.args.nodes.now) (g.N.Nodes.faults c.loop-asking.nodes) (g.N.Nodes.faults c.next_window.new.nodes) progress c.loop-asking.left c.in_ok-sorted.sorted c.done-from.result c.min-number.result asking came c.as_slice.result.now c.as_slice.ensures.value why h made answered missing)

pub returns-in-Err-clause-err : goal.returns-in-Err-clause-err
returns-in-Err-clause-err g c =
    let held = g.N.Nodes.held c.args.nodes.now in
    let secret = c.args.keys.now in
    let scheme = c.args.scheme.now in
    let plan = c.args.plan.now in
    let progress = c.loop-asking.rebuilder in
    let asking = c.loop-asking.invariant.asking in
    let came : Answers held (g.N.Nodes.held c.loop-asking.nodes) (g.N.Nodes.asks c.loop-asking.nodes) (g.N.Nodes.asks c.next_window.new.nodes) secret scheme plan
    (g.N.Nodes.faults c.loop-asking.nodes) (g.N.Nodes.faults c.next_window.new.nodes) progress c.loop-asking.left c.in_ok-sorted.sorted c.done-from.result c.min-number.result
    = record {
      less = omega (arith, c.loop-asking-test.true, c.done.ensures, c.stripes-stripes.ensures, asking.kept.count_is);
      from_is = c.done-from.ensures;
      number_is = c.min-number.ensures ∙ number_is _ progress.window c.stripes-stripes.result progress.count c.done-from.result progress.done
          (ap (λ n. 16384 / n) c.from-size.ensures ∙ sym asking.size) (c.stripes-stripes.ensures ∙ sym asking.kept.count_is) c.done-from.ensures;
      same_held = c.loop-asking.invariant.held;
      answered = c.in_ok-sorted.ensures.answered;
      up = c.in_ok-sorted.ensures.counts;
      asks = c.in_ok-sorted.ensures.asks;
    } in
    on_err c.handed_back.result _
    (stops held (g.N.Nodes.asks c.args.nodes.now) (g.N.Nodes.asks c.loop-asking.nodes) (g.N.Nodes.asks c.next_window.new.nodes) secret scheme plan c.args.sources.now (g.N.Nodes.faults c.args.nodes.now) (g.N.Nodes.faults c.loop-asking.nodes) c.loop-asking.rebuilder c.loop-asking.left.still.items c.loop-asking.left.gone.items c.loop-asking.invariant.asking (all_sent _ _ _ (came.asks ∙ ap (λ (xs : List Ask). with_end (g.N.Nodes.asks c.loop-asking.nodes) xs)
    (same_asks secret scheme plan c.loop-asking.left.still.items progress c.done-from.result c.min-number.result came.from_is came.number_is))))

pub returns-clause-remade : goal.returns-clause-remade
returns-clause-remade g c =
    let held = g.N.Nodes.held c.args.nodes.now in
    let secret = c.args.keys.now in
    let scheme = c.args.scheme.now in
    let plan = c.args.plan.now in
    let asking = c.loop-asking.invariant.asking in
    let whole : c.loop-asking.rebuilder.done ≡ c.loop-asking.rebuilder.count
    = omega (arith, c.loop-asking-test.false, c.done.ensures, c.stripes-stripes.ensures, asking.kept.count_is, asking.within) in
    if_ok3 _ _ _ _ c.handed_back-2.result c.handed_back-2.ensures.made c.handed_back-2.ensures.answered c.handed_back-2.ensures.missing
    (λ (h : Heeded). λ made. λ answered. λ missing. ends_made held (g.N.Nodes.asks c.args.nodes.now) (g.N.Nodes.asks c.loop-asking.nodes) secret scheme plan c.args.sources.now
    (g.N.Nodes.faults c.args.nodes.now) (g.N.Nodes.faults c.loop-asking.nodes) c.loop-asking.rebuilder c.loop-asking.left.still.items c.loop-asking.left.gone.items
    c.finish.result h asking whole c.finish.ensures.blamed c.finish.ensures.fresh made answered missing)

pub returns-clause-err : goal.returns-clause-err
returns-clause-err g c =
    let held = g.N.Nodes.held c.args.nodes.now in
    let secret = c.args.keys.now in
    let scheme = c.args.scheme.now in
    let plan = c.args.plan.now in
    on_err c.handed_back-2.result _ (stops held (g.N.Nodes.asks c.args.nodes.now) (g.N.Nodes.asks c.loop-asking.nodes) (g.N.Nodes.asks c.loop-asking.nodes) secret scheme plan c.args.sources.now (g.N.Nodes.faults c.args.nodes.now) (g.N.Nodes.faults c.loop-asking.nodes) c.loop-asking.rebuilder c.loop-asking.left.still.items c.loop-asking.left.gone.items c.loop-asking.invariant.asking (none_sent (g.N.Nodes.asks c.loop-asking.nodes) _))
