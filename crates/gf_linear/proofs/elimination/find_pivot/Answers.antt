use Rattle.std.proofs.Common.{◌≡◌, ◌≢◌, sym, ap, ◌∙◌, arith, ◌⊎◌, inl, inr}
use Rattle.std.proofs.lemmas.Bool.{cases_eq}
use Rattle.gf_linear.specs.Table.{at}
use Rattle.gf_linear.proofs.elimination.find_pivot.Goals as goal

pub returns-then-get-ne0-clause-found : goal.returns-then-get-ne0-clause-found
returns-then-get-ne0-clause-found c = record {
  from_rank = omega arith;
  within = omega arith;
  zeros = c.loop-row.invariant;
  found = λ e. c.if-get-ne0.true (c.get.ensures ∙ e);
}

pub loop-row-preserved : goal.loop-row-preserved
loop-row-preserved c i h l = go (cases_eq i c.loop-row.row)
  where
    go : (i ≡ c.loop-row.row) ⊎ (i ≢ c.loop-row.row) → at c.args.m.now i c.args.col ≡ 0
    go (inl e) = ap (λ k. at c.args.m.now k c.args.col) e ∙ sym c.get.ensures ∙ c.if-get-ne0.false
    go (inr ne) = c.loop-row.invariant i h (omega arith)

pub returns-clause-none : goal.returns-clause-none
returns-clause-none c i h l = c.loop-row.invariant i h (omega arith)
