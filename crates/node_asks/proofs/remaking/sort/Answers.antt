use Rattle.std.proofs.Common.{ℕ, List, ◌∷◌, [], ◌++◌, ap, sym, ◌∙◌, append_assoc}
use Rattle.std.proofs.lemmas.List.Elements.{filter_map-append}
use Rattle.sat_base.specs.declared.items.Share.{Share}
use Rattle.sat_base.specs.declared.requests.Place.{Place}
use Rattle.audit_core.specs.Heard.{share_in, missing_in}
use Rattle.node_asks.specs.declared.answers.Answered.{Answered}
use Rattle.node_asks.specs.Answers.{sharing, shares_in, sharing_in, lacking_in}
use Rattle.node_asks.proofs.remaking.sort.Goals as goal

pub loop-one-preserved : goal.loop-one-preserved
loop-one-preserved c =
    let before = c.loop-one.invariant in
    let more = c.in_ok-add.ensures in
    let one = c.in-Some.one in
    let so_far = c.loop-one.yielded in
    record {
      shares = more.shares ∙ ap (λ (xs : List Share). xs ++ shares_in (one ∷ [])) before.shares
          ∙ sym (filter_map-append (λ (o : Answered). share_in o.place.index o.what) so_far (one ∷ []));
      still = more.still ∙ ap (λ (xs : List Place). xs ++ sharing_in (one ∷ [])) before.still
          ∙ sym (filter_map-append (λ (o : Answered). sharing o.place o.what) so_far (one ∷ []));
      gone = more.gone ∙ ap (λ (xs : List ℕ). xs ++ lacking_in (one ∷ [])) before.gone
          ∙ append_assoc c.args.gone.items (lacking_in so_far) (lacking_in (one ∷ []))
          ∙ ap (λ (xs : List ℕ). c.args.gone.items ++ xs) (sym (filter_map-append (λ (o : Answered). missing_in o.place.index o.what) so_far (one ∷ [])));
    }
