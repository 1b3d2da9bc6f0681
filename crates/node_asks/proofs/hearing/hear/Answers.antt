use Rattle.std.proofs.Common.{◌≡◌, List, length, sym, ap, subst, ◌∙◌}
use Rattle.std.specs.Prelude.{map, count_by}
use Rattle.std.proofs.lemmas.Slice.Zip.{AllZip-long}
use Rattle.std.proofs.lemmas.List.{length-map}
use Rattle.sat_base.specs.declared.nodes.Ask.{Ask}
use Rattle.sat_base.specs.declared.nodes.Fetched.{Fetched}
use Rattle.sat_base.specs.declared.requests.Place.{Place}
use Rattle.sat_base.specs.Nodes.{Fetches, FetchesAll}
use Rattle.audit_core.specs.declared.plan.Heard.{Heard}
use Rattle.node_asks.specs.Asks.{audit_ask, audit_asks}
use Rattle.node_asks.specs.Hearing.{IsHeard, fetched_in}
use Rattle.node_asks.proofs.AskLemmas.{all_given}
use Rattle.node_asks.proofs.hearing.hear.Goals as goal

pub paired-requires : goal.paired-requires
paired-requires g c =
    AllZip-long (Fetches (g.N.Nodes.held c.args.nodes.now)) c.as_slice.result.now c.in_ok-answers.answers c.in_ok-answers.ensures.answers.each
    ∙ ap length (c.as_slice.ensures.value ∙ c.in_ok-asks.ensures) ∙ length-map c.args.places.now (audit_ask c.args.keys.now c.args.scheme.now c.args.plan.now)

pub returns-clause-heard : goal.returns-clause-heard
returns-clause-heard g c =
    let held = g.N.Nodes.held c.args.nodes.now in
    let asks = audit_asks c.args.keys.now c.args.scheme.now c.args.plan.now c.args.places.now in
    let heard = c.in_ok-heard_of.field-0.items in
    let given = c.in_ok-heard_of.ensures in
    let same : fetched_in heard ≡ c.in_ok-answers.answers = given.answers ∙ c.in_ok-all.ensures.answers in
    let fetched : FetchesAll held asks (fetched_in heard)
    = subst (λ (answers : List Fetched). FetchesAll held asks answers) (sym same)
    (subst (λ (xs : List Ask). FetchesAll held xs c.in_ok-answers.answers) (c.as_slice.ensures.value ∙ c.in_ok-asks.ensures) c.in_ok-answers.ensures.answers) in
    let whole : IsHeard held asks c.args.places.now heard
    = record {
      indexes = given.indexes ∙ ap (λ (places : List Place). map (λ place. place.index) places) c.in_ok-all.ensures.places;
      fetched = fetched;
      given = all_given heard fetched.none_wanting;
    } in
    subst (λ (xs : List Heard). IsHeard held asks c.args.places.now xs) (sym c.of.ensures) whole
