use Rattle.std.proofs.Common.{◌≡◌, ◌<◌, Some, None, option_copied, ap, sym, ◌∙◌, arith}
use Rattle.std.specs.Prelude.{slice_get}
use Rattle.tally_payout.specs.Ranks.{month_place, statement_rank}
use Rattle.month_pay.specs.Walk.{is_good}
use Rattle.month_sums.proofs.PassLemmas.{step-at, next-at, passes-none, passes-low, passes-high}
use Rattle.month_sums.proofs.looking.test_one.Goals as goal

pub returns-then-good-clause-pass : goal.returns-then-good-clause-pass
returns-then-good-clause-pass c l keys go low all =
    let s = c.in-Some.s.now in
    let got : slice_get c.args.stated.now.rows.now c.args.i ≡ Some s = sym c.at.ensures ∙ ap option_copied c.in-Some.is in
    let is : statement_rank s ≡ month_place c.args.month.0 c.args.node.now.id.0 = sym c.place_of-place.ensures ∙ (c.if-place-due.true ∙ c.place_of-due.ensures) in
    step-at l c.args.month.0 c.args.node.now c.args.sums.now c.args.pot c.args.stated.now.left.now.rows c.args.rates.now (go s got is) low c.args.stated.now.cap keys c.args.stated.now.rows.now all c.args.i s _ c.follows.result got is (c.follows.ensures l (go s got is)) (sym c.if-good.true ∙ c.both-good.ensures)

pub returns-else-good-clause-pass : goal.returns-else-good-clause-pass
returns-else-good-clause-pass c l keys go low all =
    let s = c.in-Some.s.now in
    let got : slice_get c.args.stated.now.rows.now c.args.i ≡ Some s = sym c.at.ensures ∙ ap option_copied c.in-Some.is in
    let is : statement_rank s ≡ month_place c.args.month.0 c.args.node.now.id.0 = sym c.place_of-place.ensures ∙ (c.if-place-due.true ∙ c.place_of-due.ensures) in
    step-at l c.args.month.0 c.args.node.now c.args.sums.now c.args.pot c.args.stated.now.left.now.rows c.args.rates.now (go s got is) low c.args.stated.now.cap keys c.args.stated.now.rows.now all c.args.i s _ c.follows.result got is (c.follows.ensures l (go s got is)) (sym c.if-good.false ∙ c.both-good.ensures)
    ∙ ap Some (sym c.place_of-due.ensures)

pub returns-in-None-clause-pass : goal.returns-in-None-clause-pass
returns-in-None-clause-pass c l keys go low all =
    let none : slice_get c.args.stated.now.rows.now c.args.i ≡ None = sym c.at.ensures ∙ ap option_copied c.in-None.is in
    passes-none (is_good c.args.stated.now.cap l) (month_place c.args.month.0 c.args.node.now.id.0) keys c.args.stated.now.rows.now c.args.i none ∙ ap Some (sym c.place_of-due.ensures)

pub returns-then-place-due-2-clause-pass : goal.returns-then-place-due-2-clause-pass
returns-then-place-due-2-clause-pass c l keys go low all =
    let s = c.in-Some.s.now in
    let got : slice_get c.args.stated.now.rows.now c.args.i ≡ Some s = sym c.at.ensures ∙ ap option_copied c.in-Some.is in
    let lt : statement_rank s < month_place c.args.month.0 c.args.node.now.id.0 = omega (arith, c.place_of-place.ensures, c.place_of-due.ensures) in
    passes-low (is_good c.args.stated.now.cap l) (month_place c.args.month.0 c.args.node.now.id.0) keys c.args.stated.now.rows.now c.args.i s got lt ∙ ap Some (sym c.place_of-place.ensures)

pub returns-else-place-due-2-clause-pass : goal.returns-else-place-due-2-clause-pass
returns-else-place-due-2-clause-pass c l keys go low all =
    let s = c.in-Some.s.now in
    let got : slice_get c.args.stated.now.rows.now c.args.i ≡ Some s = sym c.at.ensures ∙ ap option_copied c.in-Some.is in
    let gt : month_place c.args.month.0 c.args.node.now.id.0 < statement_rank s = omega (arith, c.place_of-place.ensures, c.place_of-due.ensures) in
    passes-high (is_good c.args.stated.now.cap l) (month_place c.args.month.0 c.args.node.now.id.0) keys c.args.stated.now.rows.now c.args.i s got gt ∙ ap Some (sym c.place_of-due.ensures)

pub returns-then-good-clause-next : goal.returns-then-good-clause-next
returns-then-good-clause-next c l n go low all is_next =
    let s = c.in-Some.s.now in
    let got : slice_get c.args.stated.now.rows.now c.args.i ≡ Some s = sym c.at.ensures ∙ ap option_copied c.in-Some.is in
    let is : statement_rank s ≡ month_place c.args.month.0 c.args.node.now.id.0 = sym c.place_of-place.ensures ∙ (c.if-place-due.true ∙ c.place_of-due.ensures) in
    next-at l c.args.month.0 c.args.node.now c.args.sums.now c.args.pot c.args.stated.now.left.now.rows c.args.rates.now (go s got is) low c.args.stated.now.cap c.args.stated.now.rows.now all c.args.i n s c.follows.result got is (c.follows.ensures l (go s got is)) (sym c.if-good.true ∙ c.both-good.ensures) is_next
