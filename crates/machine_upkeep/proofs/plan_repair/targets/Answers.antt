use Rattle.std.proofs.Common.{◌≡◌, ◌+◌, ◌<◌, ◌≤◌, length, ap, sym, subst, ◌∙◌, arith}
use Rattle.machine_upkeep.proofs.FreshLemmas.{GoOn, skipped, placed, ended, filled}
use Rattle.machine_upkeep.proofs.plan_repair.targets.Goals as goal
use Rattle.machine_upkeep.proofs.plan_repair.targets.Goals.{then-not-has_index+in_ok-push, else-not-has_index, else-loop-index-test, then-loop-index-test+then-next-ids}

pub loop-index-preserved : goal.loop-index-preserved
loop-index-preserved c =
    let next : c.len-next.result ≡ length c.loop-index.targets.items = omega arith in
    let within : c.len-next.result < length c.args.ids.now = omega arith in
    elim c.if-not-has_index.branch [
      | then-not-has_index+in_ok-push w ↦
          let both = placed c.args.n c.args.sources.now c.args.ids.now c.loop-index.index c.len-next.result c.loop-index.targets.items c.if-not-has_index.targets.items _ c.loop-index-test.true (sym c.has_index.ensures ∙ w.if-not-has_index.true) next within
          (ap (λ targets. targets.items) w.targets-is ∙ w.in_ok-push.ensures.items) c.loop-index.invariant.go_on in
          record { within = both.1; go_on = both.0 }
      | else-not-has_index w ↦
          subst (λ targets. record { within : length targets.items ≤ length c.args.ids.now; go_on : GoOn c.args.n c.args.sources.now c.args.ids.now (c.loop-index.index + 1) targets.items }) (sym w.targets-is) (record {
            within = c.loop-index.invariant.within;
            go_on = skipped c.args.n c.args.sources.now c.args.ids.now c.loop-index.index c.loop-index.targets.items c.loop-index-test.true (sym c.has_index.ensures ∙ w.if-not-has_index.false) c.loop-index.invariant.go_on;
          })
    ]

pub returns : goal.returns
returns c = c.of.ensures ∙ elim c.loop-index-test.branch [
  | else-loop-index-test w ↦ ended c.args.n c.args.sources.now c.args.ids.now c.loop-index.index c.loop-index.targets.items w.loop-index-test.false c.loop-index.invariant.go_on
  | then-loop-index-test+then-next-ids w ↦
      let full : length c.loop-index.targets.items ≡ length c.args.ids.now = omega arith in
      filled c.args.n c.args.sources.now c.args.ids.now c.loop-index.index c.loop-index.targets.items full c.loop-index.invariant.go_on
]
