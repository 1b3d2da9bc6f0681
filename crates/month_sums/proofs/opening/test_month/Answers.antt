use Rattle.std.proofs.Common.{◌≡◌, ℕ, ◌+◌, ◌<◌, ◌++◌, List, length, get_or, drop, Some, ap, sym, subst, ◌∙◌, arith}
use Rattle.std.specs.Prelude.{slice_get}
use Rattle.std.proofs.lemmas.Option.{slice_get-get_or}
use Rattle.month_pay.specs.Ledger.{has_joined}
use Rattle.month_pay.specs.Walk.{due_in, is_good, walk}
use Rattle.month_sums.specs.Opening.{pass_after, Front, AreSmall}
use Rattle.month_sums.proofs.MonthLemmas.{due-rest, after-small, after-long}
use Rattle.month_sums.proofs.PassLemmas.{front-next}
use Rattle.month_sums.proofs.opening.test_month.Goals as goal

pub returns-in-Broken-clause-pass : goal.returns-in-Broken-clause-pass
returns-in-Broken-clause-pass c l keys month front =
    let nodes = c.args.nodes.now in
    let rows = c.args.stated.now.rows.now in
    let good = is_good c.args.stated.now.cap l in
    let node = c.index-nodes-j.result in
    let j = c.loop-j.j in
    let i = c.loop-j.i in
    let pots = c.loop-j.pots in
    let in_nodes : j < length nodes = omega arith in
    let in_pots : j < length pots = omega (arith, c.loop-j.invariant.long) in
    let at : slice_get nodes j ≡ Some node = slice_get-get_or nodes j node in_nodes ∙ ap Some (sym c.index-nodes-j.is) in
    let has = slice_get-get_or pots j 0 in_pots in
    let front_i = c.loop-j.invariant.front l month front in
    let later = due_in c.args.month.0 (drop (j + 1) nodes) ++ keys in
    c.loop-j.invariant.pass l keys month front
    ∙ (ap (λ (ks : List ℕ). walk good i ks (drop i rows)) (due-rest c.args.month.0 nodes keys j node at)
    ∙ (c.look-found.ensures.pass l later nodes j pots month front_i at has
    ∙ (ap (pass_after good later rows) c.in-Broken.is ∙ sym (ap (pass_after good keys rows) c.in-Broken.is))))

pub loop-j-preserved : goal.loop-j-preserved
loop-j-preserved c =
    let nodes = c.args.nodes.now in
    let rows = c.args.stated.now.rows.now in
    let node = c.index-nodes-j.result in
    let j = c.loop-j.j in
    let i = c.loop-j.i in
    let n = c.in-Next.n in
    let pots = c.loop-j.pots in
    let in_nodes : j < length nodes = omega arith in
    let in_pots : j < length pots = omega (arith, c.loop-j.invariant.long) in
    let at : slice_get nodes j ≡ Some node = slice_get-get_or nodes j node in_nodes ∙ ap Some (sym c.index-nodes-j.is) in
    let has = slice_get-get_or pots j 0 in_pots in
    record {
      long = ap length c.advance.ensures ∙ (after-long pots j rows i n ∙ c.loop-j.invariant.long);
      small = subst (λ (ps : List ℕ). AreSmall ps) (sym c.advance.ensures) (after-small pots j rows i n c.loop-j.invariant.small);
      front = λ b month front.
          let front_i = c.loop-j.invariant.front b month front in
          subst (λ (ps : List ℕ). Front b nodes rows n ps) (sym c.advance.ensures)
          (front-next b c.args.month.0 nodes rows c.args.stated.now.sums.now c.args.stated.now.left.now.rows c.args.rates.now month i j node (get_or pots j 0) pots front_i at has n (has_joined c.args.month.0 node)
          (c.look-found.ensures.next b n nodes j pots month front_i at has c.in-Next.is));
      pass = λ b keys month front.
          let front_i = c.loop-j.invariant.front b month front in
          let good = is_good c.args.stated.now.cap b in
          let later = due_in c.args.month.0 (drop (j + 1) nodes) ++ keys in
          c.loop-j.invariant.pass b keys month front
          ∙ (ap (λ (ks : List ℕ). walk good i ks (drop i rows)) (due-rest c.args.month.0 nodes keys j node at)
          ∙ (c.look-found.ensures.pass b later nodes j pots month front_i at has ∙ ap (pass_after good later rows) c.in-Next.is));
    }
