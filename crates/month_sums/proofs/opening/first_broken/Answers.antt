use Rattle.std.proofs.Common.{◌≡◌, ℕ, ◌+◌, ◌-◌, ◌<◌, ◌≤◌, ◌++◌, List, length, drop, Some, refl, ap, sym, subst, ◌∙◌, arith}
use Rattle.month_pay.specs.Ledger.{Ledger}
use Rattle.rows.specs.Least.{least}
use Rattle.month_pay.specs.Walk.{due_in, due_from, is_good, walk}
use Rattle.month_sums.specs.Opening.{pass_after, GoByMonth, GoByAll, Front, AreSmall}
use Rattle.month_sums.proofs.MonthLemmas.{front-first, zeros-long, zeros-small, by-month, due-month, due-none, finds}
use Rattle.month_sums.proofs.opening.first_broken.Goals as goal

pub loop-m-init : goal.loop-m-init
loop-m-init c =
    let nodes = c.args.nodes.now in
    record {
      long = ap length c.requires.pots ∙ zeros-long (length nodes);
      small = subst (λ (ps : List ℕ). AreSmall ps) (sym c.requires.pots) (zeros-small (length nodes));
      front = λ b go. subst (λ (ps : List ℕ). Front b nodes c.args.stated.now.rows.now 0 ps) (sym c.requires.pots) (front-first b nodes c.args.stated.now.rows.now);
      pass = λ b go. refl;
    }

pub test_month-found-requires-clause-small : goal.test_month-found-requires-clause-small
test_month-found-requires-clause-small c = c.loop-m.invariant.small

pub returns-in-Broken : goal.returns-in-Broken
returns-in-Broken c l go =
    let nodes = c.args.nodes.now in
    let rows = c.args.stated.now.rows.now in
    let next = c.args.next.0 in
    let m = c.loop-m.m in
    let i = c.loop-m.i in
    let le : c.args.first.0 ≤ m = omega arith in
    let lt : m < next = omega arith in
    let good = is_good c.args.stated.now.cap l in
    let later = due_from nodes (next - (m + 1)) (m + 1) in
    let month = by-month l c.args.first.0 next nodes rows c.args.stated.now.sums.now c.args.stated.now.left.now.rows c.args.tariffs.now go m c.rates_in-rates.result le lt c.rates_in-rates.ensures.rates in
    sym (c.loop-m.invariant.pass l go
    ∙ (ap (λ (ks : List ℕ). walk good i ks (drop i rows)) (due-month nodes next m lt)
    ∙ (c.test_month-found.ensures.pass l later month (c.loop-m.invariant.front l go) ∙ ap (pass_after good later rows) c.in-Broken.is)))
    ∙ finds c.args.stated.now.cap l c.args.first.0 next nodes rows c.args.stated.now.sums.now c.args.stated.now.left.now.rows c.args.tariffs.now go

pub loop-m-preserved : goal.loop-m-preserved
loop-m-preserved c =
    let nodes = c.args.nodes.now in
    let rows = c.args.stated.now.rows.now in
    let next = c.args.next.0 in
    let m = c.loop-m.m in
    let i = c.loop-m.i in
    let le : c.args.first.0 ≤ m = omega arith in
    let lt : m < next = omega arith in
    let month = λ (b : Ledger) (go : GoByAll b c.args.first.0 next nodes rows c.args.stated.now.sums.now c.args.stated.now.left.now.rows c.args.tariffs.now).
    by-month b c.args.first.0 next nodes rows c.args.stated.now.sums.now c.args.stated.now.left.now.rows c.args.tariffs.now go m c.rates_in-rates.result le lt c.rates_in-rates.ensures.rates in
    record {
      long = c.test_month-found.ensures.long ∙ c.loop-m.invariant.long;
      small = c.test_month-found.ensures.small;
      front = λ b go. c.test_month-found.ensures.front b c.in-Next.n (month b go) (c.loop-m.invariant.front b go) c.in-Next.is;
      pass = λ b go.
          let good = is_good c.args.stated.now.cap b in
          let later = due_from nodes (next - (m + 1)) (m + 1) in
          c.loop-m.invariant.pass b go
          ∙ (ap (λ (ks : List ℕ). walk good i ks (drop i rows)) (due-month nodes next m lt)
          ∙ (c.test_month-found.ensures.pass b later (month b go) (c.loop-m.invariant.front b go) ∙ ap (pass_after good later rows) c.in-Next.is));
    }

pub returns : goal.returns
returns c l go =
    let nodes = c.args.nodes.now in
    let rows = c.args.stated.now.rows.now in
    let next = c.args.next.0 in
    let m = c.loop-m.m in
    let i = c.loop-m.i in
    let over : next ≤ m = omega arith in
    let good = is_good c.args.stated.now.cap l in
    c.place_at.ensures good
    ∙ (sym (c.loop-m.invariant.pass l go ∙ ap (λ (ks : List ℕ). walk good i ks (drop i rows)) (due-none nodes next m over))
    ∙ finds c.args.stated.now.cap l c.args.first.0 next nodes rows c.args.stated.now.sums.now c.args.stated.now.left.now.rows c.args.tariffs.now go)
