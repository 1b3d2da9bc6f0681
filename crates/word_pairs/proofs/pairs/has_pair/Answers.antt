use Rattle.std.proofs.Common.{◌≡◌, true, sym, ap, ◌∙◌, arith}
use Rattle.std.specs.Prelude.{is_none}
use Rattle.std.specs.List.{list_any}
use Rattle.sat_base.specs.Text.{same}
use Rattle.word_pairs.specs.Pairs.{texts}
use Rattle.word_pairs.proofs.PairLemmas.{any_text, strange_name, no_value, a_value, unsaid}
use Rattle.word_pairs.proofs.pairs.has_pair.Goals as goal

pub returns-then-not-is_among : goal.returns-then-not-is_among
returns-then-not-is_among c =
    sym (strange_name c.args.line.now c.args.at c.word-name.result.now (omega arith) c.word-name.ensures (texts c.args.names.now)
    (sym (any_text c.args.names.now c.word-name.result.now) ∙ sym c.is_among.ensures ∙ c.if-not-is_among.true))

pub returns-then-not-is_a_value : goal.returns-then-not-is_a_value
returns-then-not-is_a_value c =
    let known : list_any (λ n. same n c.word-name.result.now) (texts c.args.names.now) ≡ true = sym (any_text c.args.names.now c.word-name.result.now) ∙ sym c.is_among.ensures ∙ c.if-not-is_among.false in
    sym (no_value c.args.line.now c.args.at c.word-name.result.now (omega arith) c.word-name.ensures (texts c.args.names.now) c.word.result.now c.word.ensures known
    (sym c.is_a_value.ensures ∙ c.if-not-is_a_value.true))

pub returns : goal.returns
returns c =
    let known : list_any (λ n. same n c.word-name.result.now) (texts c.args.names.now) ≡ true = sym (any_text c.args.names.now c.word-name.result.now) ∙ sym c.is_among.ensures ∙ c.if-not-is_among.false in
    unsaid c.value.result c.is_none.result c.is_none.ensures ∙ ap is_none c.value.ensures
    ∙ sym (a_value c.args.line.now c.args.at c.word-name.result.now (omega arith) c.word-name.ensures (texts c.args.names.now) c.word.result.now c.word.ensures known
    (sym c.is_a_value.ensures ∙ c.if-not-is_a_value.false))
