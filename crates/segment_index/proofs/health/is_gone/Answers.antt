use Rattle.std.proofs.Common.{◌≡◌, ℕ, is_some, ap, sym, ◌∙◌, arith}
use Rattle.std.proofs.lemmas.Bool.Decides.{nat_tests}
use Rattle.rows.specs.Rows.{row_at}
use Rattle.segment_index.specs.Keys.{gone_rank, nodes_of}
use Rattle.segment_index.specs.Segments.{is_gone}
use Rattle.segment_index.proofs.Nodes.{gone_found}
use Rattle.segment_index.proofs.PairLemmas.{copied_some}
use Rattle.segment_index.proofs.health.is_gone.Goals as goal
use Rattle.segment_index.proofs.health.is_gone.Goals.{in_default-via-in-None-1, in_default-via-in-Some+else-other-node}

pub returns-2 : goal.returns-2
returns-2 c =
    let found : c.is_some.result ≡ is_gone (nodes_of c.args.gone.now.rows) c.args.node =
    c.is_some.ensures ∙ sym (copied_some c.get.result) ∙ ap is_some c.get.ensures.row
    ∙ ap (λ (k : ℕ). is_some (row_at gone_rank c.args.gone.now.rows k)) c.from.ensures
    ∙ gone_found c.args.gone.now.rows c.args.node.0 in
    elim c.in_default.branch [
      | in_default-via-in-None-1 w ↦ grind (arith, nat_tests, found)
      | in_default-via-in-Some+else-other-node w ↦ grind (arith, nat_tests, found)
    ]
