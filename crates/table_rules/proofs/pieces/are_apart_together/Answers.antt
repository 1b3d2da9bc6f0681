use Rattle.std.proofs.Common.{◌∙◌, sym}
use Rattle.table_rules.proofs.ListLemmas.{apart-append, all-third, apart-not, not-second}
use Rattle.table_rules.proofs.pieces.are_apart_together.Goals.{then-are_apart, else-are_apart}
use Rattle.table_rules.proofs.pieces.are_apart_together.Goals as goal

pub returns-then-are_apart-2 : goal.returns-then-are_apart-2
returns-then-are_apart-2 c =
    elim c.if-are_apart.branch [
      | then-are_apart w ↦ c.are_off.ensures ∙ all-third _ _ _ _ (apart-append c.args.nodes.now.nodes c.args.pieces.now c.args.others.now) (sym c.are_apart.ensures ∙ w.if-are_apart.true) (sym w.are_apart-then-are_apart.ensures ∙ sym w.value-is ∙ c.if-are_apart-2.true)
      | else-are_apart w ↦ cc (w.if-are_apart.false)
    ]

pub returns-else-are_apart-2 : goal.returns-else-are_apart-2
returns-else-are_apart-2 c =
    elim c.if-are_apart.branch [
      | then-are_apart w ↦ c.if-are_apart-2.false ∙ not-second _ _ _ _ (apart-append c.args.nodes.now.nodes c.args.pieces.now c.args.others.now) (sym w.are_apart-then-are_apart.ensures ∙ sym w.value-is ∙ c.if-are_apart-2.false)
      | else-are_apart w ↦ c.if-are_apart-2.false ∙ apart-not c.args.nodes.now.nodes c.args.pieces.now c.args.others.now (sym c.are_apart.ensures ∙ w.if-are_apart.false)
    ]
