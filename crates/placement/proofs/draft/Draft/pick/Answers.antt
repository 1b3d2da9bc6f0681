use Rattle.std.proofs.Common.{◌≡◌, ℕ, ◌∷◌, [], ◌++◌, List, length, ◌∙◌, ap, sym, subst, arith}
use Rattle.std.specs.Prelude.{slice_index}
use Rattle.placement.specs.Eligible.{used}
use Rattle.placement.specs.Draft.{terms_of, IsDraftAt}
use Rattle.placement.proofs.Picks.{used-push}
use Rattle.placement.proofs.DraftLemmas.{next-flag, struck-draft, flags-draft}
use Rattle.placement.proofs.draft.Draft.pick.Goals as goal

-- the picks after this one
picks_after : (c : goal.After-strike) → c.strike.new.self.picks.items ≡ c.args.self.now.picks.items ++ c.index-nodes-place.result ∷ []
picks_after c = c.strike.ensures.picks ∙ c.in_ok-push.ensures.items

pub returns-clause-draft : goal.returns-clause-draft
returns-clause-draft c =
    let terms = terms_of c.args.request.now in
    let used_is : used terms c.strike.new.self.picks.items ≡ used terms c.args.self.now.picks.items ++ c.subnet-subnet.result ∷ [] =
    ap (used terms) (picks_after c) ∙ used-push terms c.args.self.now.picks.items c.index-nodes-place.result ∙ ap (λ (subnet : ℕ). used terms c.args.self.now.picks.items ++ subnet ∷ []) (sym c.subnet-subnet.ensures) in
    let At : List ℕ → Type 0 = λ subnets. IsDraftAt terms subnets c.strike.new.self in
    subst At (sym used_is)
    (struck-draft terms (used terms c.args.self.now.picks.items) c.subnet-subnet.result c.args.self.now c.strike.new.self c.requires.draft c.strike.ensures.chains c.strike.ensures.vetted c.strike.ensures.unvetted)

pub returns-clause-pick : goal.returns-clause-pick
returns-clause-pick c =
    let terms = terms_of c.args.request.now in
    let number : c.len.result ≡ length c.args.self.now.picks.items = omega arith in
    record {
      node = c.index-nodes-place.result;
      is = picks_after c;
      next = next-flag terms c.args.class c.args.self.now.picks.items c.flags-flags.result.now (slice_index terms.words c.len.result) c.count.result c.select-place.result c.index-nodes-place.result
          (c.flags-flags.ensures ∙ flags-draft terms c.args.class (used terms c.args.self.now.picks.items) c.args.self.now c.requires.draft)
          (ap (slice_index terms.words) number) c.count.ensures c.select-place.ensures.set c.select-place.ensures.before (rw c.nodes-nodes.ensures.nodes at c.index-nodes-place.is);
    }
