use Rattle.std.proofs.Common.{◌≡◌, ℕ, ◌≤◌, ◌++◌, drop, Bool, true, [], ◌∷◌, ap, sym, subst, ◌∙◌, arith}
use Rattle.std.specs.Prelude.{if◌then◌else◌, nat_le}
use Rattle.std.proofs.lemmas.Bool.Decides.{nat_tests}
use Rattle.month_pay.specs.Months.{month_at}
use Rattle.tally_payout.specs.Ranks.{month_place}
use Rattle.month_pay.specs.Ledger.{has_joined}
use Rattle.month_pay.specs.Walk.{is_good, walk}
use Rattle.month_sums.specs.Opening.{LooksOn}
use Rattle.month_sums.proofs.PassLemmas.{node-low, go-by}
use Rattle.month_sums.proofs.opening.look.Goals as goal

pub test_one-requires-clause-joined : goal.test_one-requires-clause-joined
unfolding has_joined
test_one-requires-clause-joined c =
    let joined : nat_le (month_at c.args.node.now.joined) c.args.month.0 ≡ true = sym c.has_joined.ensures ∙ c.if-has_joined.true in
    grind (arith, nat_tests, joined)

pub returns-then-has_joined-clause-pass : goal.returns-then-has_joined-clause-pass
returns-then-has_joined-clause-pass c l keys nodes j pots month front at has =
    let node = c.args.node.now in
    let place = month_place c.args.month.0 node.id.0 in
    let joined : has_joined c.args.month.0 node ≡ true = sym c.has_joined.ensures ∙ c.if-has_joined.true in
    let go = go-by l c.args.month.0 nodes c.args.stated.now.rows.now c.args.stated.now.sums.now c.args.stated.now.left.now.rows c.args.rates.now month c.args.i j node c.own_sums-own.result c.args.pot pots front at has joined c.own_sums-own.ensures.own in
    let low = node-low l c.args.month.0 nodes c.args.stated.now.rows.now c.args.stated.now.sums.now c.args.stated.now.left.now.rows c.args.rates.now month j node at in
    ap (λ (b : Bool). walk (is_good c.args.stated.now.cap l) c.args.i ((if b then place ∷ [] else []) ++ keys) (drop c.args.i c.args.stated.now.rows.now)) joined
    ∙ c.test_one.ensures.pass l keys go low month.low

pub returns-then-has_joined-clause-next : goal.returns-then-has_joined-clause-next
returns-then-has_joined-clause-next c l n nodes j pots month front at has is_next =
    let node = c.args.node.now in
    let joined : has_joined c.args.month.0 node ≡ true = sym c.has_joined.ensures ∙ c.if-has_joined.true in
    let go = go-by l c.args.month.0 nodes c.args.stated.now.rows.now c.args.stated.now.sums.now c.args.stated.now.left.now.rows c.args.rates.now month c.args.i j node c.own_sums-own.result c.args.pot pots front at has joined c.own_sums-own.ensures.own in
    let low = node-low l c.args.month.0 nodes c.args.stated.now.rows.now c.args.stated.now.sums.now c.args.stated.now.left.now.rows c.args.rates.now month j node at in
    subst (λ (b : Bool). LooksOn b l c.args.stated.now.rows.now (month_place c.args.month.0 node.id.0) c.args.i n) (sym joined) (c.test_one.ensures.next l n go low month.low is_next)
