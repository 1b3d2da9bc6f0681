use Rattle.std.proofs.Common.{◌≡◌, List, length, sym, ap, ◌∙◌}
use Rattle.std.specs.Prelude.{map}
use Rattle.std.proofs.lemmas.Slice.Zip.{AllZip-long}
use Rattle.std.proofs.lemmas.List.{length-map}
use Rattle.sat_base.specs.declared.nodes.Ask.{Ask}
use Rattle.sat_base.specs.declared.requests.Place.{Place}
use Rattle.sat_base.specs.Nodes.{Fetches}
use Rattle.sat_base.specs.Outside.{with_end}
use Rattle.node_asks.specs.Asks.{window_ask}
use Rattle.node_asks.proofs.AskLemmas.{on_err, all_sent}
use Rattle.node_asks.proofs.remaking.next_window.Goals as goal

pub paired-requires : goal.paired-requires
paired-requires g c =
    let asking = c.args.asking.now in
    AllZip-long (Fetches (g.N.Nodes.held c.args.nodes.now)) c.as_slice-2.result.now c.in_ok-answers.answers c.in_ok-answers.ensures.answers.each
    ∙ ap length (c.as_slice-2.ensures.value ∙ c.in_ok-asks.ensures)
    ∙ length-map c.as_slice.result.now (window_ask asking.keys.now asking.scheme.now asking.plan.now c.args.window.from c.args.window.number)
    ∙ ap length (c.as_slice.ensures.value ∙ sym c.as_slice-3.ensures.value)

pub returns-in_err-all-clause-err : goal.returns-in_err-all-clause-err
returns-in_err-all-clause-err g c =
    let asking = c.args.asking.now in
    let same = c.as_slice-2.ensures.value ∙ c.in_ok-asks.ensures
    ∙ ap (λ (places : List Place). map (window_ask asking.keys.now asking.scheme.now asking.plan.now c.args.window.from c.args.window.number) places) c.as_slice.ensures.value in
    on_err c.from_residual-in_err-all.result _ (all_sent _ _ _ (c.in_ok-answers.ensures.asks ∙ ap (λ (xs : List Ask). with_end (g.N.Nodes.asks c.args.nodes.now) xs) same))

pub returns-clause-err : goal.returns-clause-err
returns-clause-err g c =
    let asking = c.args.asking.now in
    let same = c.as_slice-2.ensures.value ∙ c.in_ok-asks.ensures
    ∙ ap (λ (places : List Place). map (window_ask asking.keys.now asking.scheme.now asking.plan.now c.args.window.from c.args.window.number) places) c.as_slice.ensures.value in
    on_err c.sort.result _ (all_sent _ _ _ (c.in_ok-answers.ensures.asks ∙ ap (λ (xs : List Ask). with_end (g.N.Nodes.asks c.args.nodes.now) xs) same))
