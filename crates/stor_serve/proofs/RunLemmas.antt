-- Links one after another.
use Rattle.std.proofs.Common.{◌≡◌, List, [], ◌∷◌, ◌++◌, false, sym, ap, subst, ◌∙◌}
use Rattle.sat_base.specs.Keeper.{KeeperView}
use Rattle.sat_base.specs.Lane.{LaneView, got_back, handed}
use Rattle.sat_base.specs.Outside.{About}
use Rattle.stor_serve.specs.Links.{Serves}
use Rattle.stor_serve.specs.Offering.{OffersAt}
use Rattle.stor_serve.specs.Runs.{Closes, Ran, Runs, none, more}
use Rattle.stor_serve.specs.Views.{NodeView, RunView}
use Rattle.stor_serve.specs.declared.lane.NodeEnd.{NodeEnd}
use Rattle.stor_serve.specs.declared.served.Served.{Served}

-- a last wait changes the lane alone
pub waited : {K : Type 0} (before : RunView K) (lane lane' : LaneView) → lane ≡ lane' → record before { lane = lane } ≡ record before { lane = lane' }
waited before lane lane' is = ap (λ (l : LaneView). record before { lane = l }) is

module _ {K : Type 0} (about : K → KeeperView) (first : RunView K) where
  pub runs_none : (all : List Served) → all ≡ [] → Runs about first all first
  runs_none all is = subst (λ (l : List Served). Runs about first l first) (sym is) none

  pub runs_more : (all all' all'' : List Served) (served : Served) (old new : RunView K) (link link' : About) (lane : LaneView) (between : NodeView K)
      → Runs about first all old → all' ≡ all → all'' ≡ all' ++ served ∷ [] → old.lane.over ≡ false → lane ≡ handed old.lane link → new.lane ≡ got_back lane link'
      → Serves about old.node between link link' served → OffersAt about served.now between.uses new.node.uses old.settler new.settler
      → new.node ≡ record between { uses = new.node.uses } → Runs about first all'' new
  runs_more all all' all'' served old new link link' lane between runs same grew goes came back serves offers node_is =
      subst (λ (l : List Served). Runs about first l new) (sym (grew ∙ ap (λ (l : List Served). l ++ served ∷ []) same))
      (more all served old new runs (record {
        link = link;
        link' = link';
        between = between;
        not_over = goes;
        lane_is = back ∙ ap (λ (l : LaneView). got_back l link') came;
        serves = serves;
        offers = offers;
        node_is = node_is;
      }))

  pub ran : (all all' : List Served) (before last : RunView K) (end : NodeEnd) → Runs about first all before → all' ≡ all → Closes end before last → Ran about first last all' end
  ran all all' before last end runs same closes = record {
    before_last = before;
    runs = subst (λ (l : List Served). Runs about first l before) (sym same) runs;
    closes = closes;
  }
