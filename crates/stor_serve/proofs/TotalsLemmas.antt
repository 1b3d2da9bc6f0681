-- What the links of a lane add up to: the laws hold of one link, and where they hold of some links and of those behind them, of all.
use Rattle.std.proofs.Common.{◌≡◌, ◌⊎◌, inl, inr, ℕ, ◌+◌, List, [], ◌∷◌, ◌++◌, length, Option, Some, None, refl, sym, ap, subst, ◌∙◌, arith, append_assoc, true}
use Rattle.std.specs.Prelude.{slice_get}
use Rattle.std.proofs.lemmas.List.{append-nil, length-append}
use Rattle.std.proofs.lemmas.List.Elements.{All-head, Contains-append_left, Contains-append_right}
use Rattle.sat_base.specs.Keeper.{KeeperView}
use Rattle.sat_base.specs.Lane.{LaneView, Links, with_came, with_done}
use Rattle.sat_base.specs.Outside.{About, raised, with_end}
use Rattle.sat_base.specs.declared.ids.SegId.{SegId}
use Rattle.sat_base.specs.declared.ids.Serial.{Serial}
use Rattle.sat_base.proofs.Told.{with_end-end, with_end-none}
use Rattle.order_uses.specs.Calls.{IsSettled}
use Rattle.order_uses.specs.Due.{due_of}
use Rattle.stor_base.specs.Pieces.{held_at}
use Rattle.stor_base.specs.declared.pieces.Piece.{Piece}
use Rattle.stor_base.specs.declared.settler.OfferMade.{OfferMade}
use Rattle.stor_serve.specs.Runs.{Closes, Ran, Runs, Turns, none, more}
use Rattle.stor_serve.specs.Totals.{AsksToPut, CameSince, CountsLinks, HoldsIf, HoldsLast, HoldsPuts, NonePutsAt, PutsAt, SettlesByOffers, WasSettled, all_counted}
use Rattle.stor_serve.specs.Views.{NodeView, RunView}
use Rattle.stor_serve.specs.declared.lane.NodeEnd.{NodeEnd}
use Rattle.stor_serve.specs.declared.lane.NodeEnd.TheVariants as ends
use Rattle.stor_serve.specs.declared.served.Served.{Served}
use Rattle.stor_serve.proofs.CutLemmas.{Cut, in_front, behind, all_parts, cut_at, got_left, got_right}
use Rattle.stor_serve.proofs.HeldLemmas.{LinkHeld, LinkHolds, link_holds}
use Rattle.stor_serve.proofs.OfferLemmas.{OfferDoes, offer_counts, offer_does, offer_settles, offer_stays}
use Rattle.stor_serve.proofs.RowLemmas.{LinkRows, link_counts, link_rows, link_settles_none, link_stays}

-- ---- some links, and those behind them

counted_then : (serial : Serial) (xs ys : List Served) → all_counted serial (xs ++ ys) ≡ all_counted serial xs + all_counted serial ys
counted_then serial [] ys = omega arith
counted_then serial (x ∷ xs) ys = let rest = counted_then serial xs ys in omega (arith, rest)

counts_then : {K : Type 0} (first mid last : RunView K) (xs ys : List Served) → CountsLinks first mid xs → CountsLinks mid last ys → CountsLinks first last (xs ++ ys)
counts_then first mid last xs ys p q = λ serial. let a = p serial in let b = q serial in let c = counted_then serial xs ys in omega (arith, a, b, c)

settles_then : {K : Type 0} (first mid last : RunView K) (xs ys : List Served) → SettlesByOffers first mid xs → SettlesByOffers mid last ys → SettlesByOffers first last (xs ++ ys)
settles_then first mid last xs ys p q = record {
  made = p.made ++ q.made;
  few = let a = p.few in let b = q.few in omega (arith, a, b, length-append p.made q.made, length-append xs ys);
  told = q.told ∙ ap (λ (o : Option (List OfferMade)). with_end o q.made) p.told ∙ with_end-end first.settler.offers p.made q.made;
  by_offers = λ serial settled. later serial (q.by_offers serial settled);
  stays = λ serial settled. q.stays serial (p.stays serial settled);
}
  where
    sooner : (serial : Serial) → IsSettled first.node.uses.rows serial ⊎ WasSettled serial p.made → IsSettled first.node.uses.rows serial ⊎ WasSettled serial (p.made ++ q.made)
    sooner serial (inl before) = inl before
    sooner serial (inr done) = inr (done.0, Contains-append_left p.made q.made done.0 done.1, done.2)

    later : (serial : Serial) → IsSettled mid.node.uses.rows serial ⊎ WasSettled serial q.made → IsSettled first.node.uses.rows serial ⊎ WasSettled serial (p.made ++ q.made)
    later serial (inl before) = sooner serial (p.by_offers serial before)
    later serial (inr done) = inr (done.0, Contains-append_right p.made q.made done.0 done.1, done.2)

module _ (segment : SegId) (index : ℕ) (a b c : List Piece) (came came' : List About) (xs ys : List Served) (same : length came ≡ length xs)
    (p : HoldsLast segment index a b came xs) (q : HoldsLast segment index b c came' ys) where
  abbrev NotPut : Served → Type 0
  NotPut served = PutsAt segment index served → ⊥

  last_of_both : (before after : List Served) (served : Served) → Cut xs ys before after served → PutsAt segment index served → NonePutsAt segment index after → served.status ≡ 200
      → (link : About) × (slice_get (came ++ came') (length before) ≡ Some link) × (body : List ℕ) × AsksToPut link.left served.wanted body × (held_at c segment index ≡ Some body)
  last_of_both before after served (in_front rest cut goes) puts others ok =
      let parts = all_parts NotPut rest ys (subst (NonePutsAt segment index) goes others) in
      let put = p.last_put before rest served cut puts parts.0 ok in
      (put.0, got_left came came' (length before) put.0 put.1, put.2, put.3, q.untouched parts.1 ∙ put.4)
  last_of_both before after served (behind rest goes cut) puts others ok =
      let put = q.last_put rest after served cut puts others ok in
      (put.0, ap (λ (l : List Served). slice_get (came ++ came') (length l)) goes ∙ got_right came came' xs rest same ∙ put.1, put.2, put.3, put.4)

  last_then : HoldsLast segment index a c (came ++ came') (xs ++ ys)
  last_then = record {
    untouched = λ others. let parts = all_parts NotPut xs ys others in q.untouched parts.1 ∙ p.untouched parts.0;
    last_put = λ before after served cut puts others ok. last_of_both before after served (cut_at xs ys before after served cut) puts others ok;
  }

held_then : (first mid last : Option (List Piece)) (came came' : List About) (xs ys : List Served) → length came ≡ length xs → HoldsIf first mid came xs → HoldsIf mid last came' ys → HoldsIf first last (came ++ came') (xs ++ ys)
held_then None mid last came came' xs ys same p q = subst (λ (o : Option (List Piece)). HoldsIf o last came' ys) p q
held_then (Some pieces) mid last came came' xs ys same p q =
    let later = subst (λ (o : Option (List Piece)). HoldsIf o last came' ys) p.1 q in
    (later.0, later.1, λ segment index. last_then segment index pieces p.0 later.0 came came' xs ys same (p.2 segment index) (later.2 segment index))

came_then : (first mid last : Option Links) (came came' : List About) → CameSince first mid came → CameSince mid last came' → CameSince first last (came ++ came')
came_then None mid last came came' p q = subst (λ (o : Option Links). CameSince o last came') p q
came_then (Some links) mid last came came' p q =
    let later = subst (λ (o : Option Links). CameSince o last came') p.2 q in
    let even : length (p.0 ++ later.0) ≡ length (came ++ came') = length-append p.0 later.0 ∙ (λ i. p.1 i + later.1 i) ∙ sym (length-append came came') in
    (p.0 ++ later.0, even, later.2 ∙ (λ i. Some (record { came = append_assoc links.came came came' i; done = append_assoc links.done p.0 later.0 i })))

holds_then : {K : Type 0} (first mid last : RunView K) (xs ys : List Served) → HoldsPuts first mid xs → HoldsPuts mid last ys → HoldsPuts first last (xs ++ ys)
holds_then first mid last xs ys p q =
    let even : length (p.0 ++ q.0) ≡ length (xs ++ ys) = length-append p.0 q.0 ∙ (λ i. p.1 i + q.1 i) ∙ sym (length-append xs ys) in (
      p.0 ++ q.0,
      even,
      came_then first.lane.links mid.lane.links last.lane.links p.0 q.0 p.2 q.2,
      held_then first.node.pieces.held mid.node.pieces.held last.node.pieces.held p.0 q.0 xs ys p.1 p.3 q.3,
    )

-- ---- one link

module _ (segment : SegId) (index : ℕ) (old new : List Piece) (link : About) (served : Served) (holds : LinkHolds segment index old new link served) where
  one_put : (before after : List Served) (other : Served) → served ∷ [] ≡ before ++ other ∷ after → PutsAt segment index other → other.status ≡ 200
      → (came : About) × (slice_get (link ∷ []) (length before) ≡ Some came) × (body : List ℕ) × AsksToPut came.left other.wanted body × (held_at new segment index ≡ Some body)
  one_put [] after other same puts ok =
      let it : served ≡ other = cc in
      let put = holds.put (subst (PutsAt segment index) (sym it) puts) (ap (λ (s : Served). s.status) it ∙ ok) in
      (link, refl, put.0, subst (λ (s : Served). AsksToPut link.left s.wanted put.0) it put.1, put.2)
  one_put (first ∷ []) after other same puts ok = absurd cc
  one_put (first ∷ next ∷ before) after other same puts ok = absurd cc

  one_last : HoldsLast segment index old new (link ∷ []) (served ∷ [])
  one_last = record {
    untouched = λ others. holds.untouched (All-head (λ one. PutsAt segment index one → ⊥) served [] others);
    last_put = λ before after other same puts others ok. one_put before after other same puts ok;
  }

one_held : (old new : Option (List Piece)) (link : About) (served : Served) → LinkHeld old new link served → HoldsIf old new (link ∷ []) (served ∷ [])
one_held None new link served held = held
one_held (Some old) new link served held = (held.0, held.1, λ segment index. one_last segment index old held.0 link served (held.2 segment index))

one_came : (links : Option Links) (link link' : About) → CameSince links (with_done (with_came links link) link') (link ∷ [])
one_came None link link' = refl
one_came (Some links) link link' = (link' ∷ [], refl, refl)

module _ {K : Type 0} (about : K → KeeperView) where
  module _ (old new : RunView K) (served : Served) (turn : Turns about old new served) where
    turn_link : LinkRows old.node.uses served turn.between.uses.rows
    turn_link = link_rows about turn.serves.read old.node turn.between turn.serves.between turn.link' served turn.serves.does

    turn_offer : OfferDoes about turn.between.uses new.node.uses old.settler new.settler
    turn_offer = offer_does about (due_of turn.between.uses.key turn.between.uses.rows served.now) turn.between.uses new.node.uses old.settler new.settler turn.offers

    turn_counts : CountsLinks old new (served ∷ [])
    turn_counts = λ serial.
        let counts = link_counts old.node.uses served turn.between.uses.rows turn_link serial in
        let offers = offer_counts turn.between.uses new.node.uses.rows turn_offer.0 turn_offer.2 serial in
        omega (arith, counts, offers)

    turn_settles : SettlesByOffers old new (served ∷ [])
    turn_settles = record {
      made = turn_offer.0;
      few = turn_offer.3;
      told = turn_offer.1;
      by_offers = λ serial settled. by_offer serial (offer_settles turn.between.uses.rows new.node.uses.rows turn_offer.0 turn_offer.2 serial settled);
      stays = λ serial settled.
          offer_stays turn.between.uses new.node.uses.rows turn_offer.0 turn_offer.2 serial (link_stays old.node.uses served turn.between.uses.rows turn_link serial settled);
    }
      where
        by_offer : (serial : Serial) → IsSettled turn.between.uses.rows serial ⊎ WasSettled serial turn_offer.0 → IsSettled old.node.uses.rows serial ⊎ WasSettled serial turn_offer.0
        by_offer serial (inl before) = inl (link_settles_none old.node.uses served turn.between.uses.rows turn_link serial before)
        by_offer serial (inr done) = inr done

    turn_holds : HoldsPuts old new (served ∷ [])
    turn_holds =
        let held = link_holds about turn.serves.read old.node turn.between turn.link turn.serves.between turn.link' served turn.serves.listens turn.serves.does in
        let pieces : new.node.pieces.held ≡ turn.between.pieces.held = ap (λ (n : NodeView K). n.pieces.held) turn.node_is in
        let links : new.lane.links ≡ with_done (with_came old.lane.links turn.link) turn.link' = ap (λ (l : LaneView). l.links) turn.lane_is in (
          turn.link ∷ [],
          refl,
          subst (λ (o : Option Links). CameSince old.lane.links o (turn.link ∷ [])) (sym links) (one_came old.lane.links turn.link turn.link'),
          subst (λ (o : Option (List Piece)). HoldsIf old.node.pieces.held o (turn.link ∷ []) (served ∷ [])) (sym pieces) (one_held old.node.pieces.held turn.between.pieces.held turn.link served held),
        )

-- ---- all links

counts_none : {K : Type 0} (first : RunView K) → CountsLinks first first []
counts_none first = λ serial. omega arith

settles_none : {K : Type 0} (first : RunView K) → SettlesByOffers first first []
settles_none first = record { made = []; few = omega arith; told = sym (with_end-none first.settler.offers); by_offers = λ serial settled. inl settled; stays = λ serial settled. settled }

held_none : (old : Option (List Piece)) → HoldsIf old old [] []
held_none None = refl
held_none (Some old) = (old, refl, λ segment index. record { untouched = λ others. refl; last_put = λ before after served same. absurd (nothing before after served same) })
  where
    nothing : (before after : List Served) (served : Served) → [] ≡ before ++ served ∷ after → ⊥
    nothing [] after served same = cc
    nothing (first ∷ before) after served same = cc

came_none : (links : Option Links) → CameSince links links []
came_none None = refl
came_none (Some links) = ([], refl, λ i. Some (record { came = sym (append-nil links.came) i; done = sym (append-nil links.done) i }))

holds_none : {K : Type 0} (first : RunView K) → HoldsPuts first first []
holds_none first = ([], refl, came_none first.lane.links, held_none first.node.pieces.held)

-- the end of a run changes no more than the lane's counts
closed : {K : Type 0} (end : NodeEnd) (old new : RunView K) → Closes end old new → (lane : LaneView) × (lane.links ≡ old.lane.links) × (new ≡ record old { lane = lane })
closed ends.Over old new closes = (record old.lane { over = true }, refl, closes)
closed ends.Failed old new closes = (record old.lane { faults = raised old.lane.faults }, refl, closes)
closed ends.NoMemory old new closes = (old.lane, refl, closes)

module _ {K : Type 0} (about : K → KeeperView) (first : RunView K) where
  runs_count : (all : List Served) (last : RunView K) → Runs about first all last → CountsLinks first last all
  runs_count all last none = counts_none first
  runs_count all last (more before served old new runs turn) = counts_then first old new before (served ∷ []) (runs_count before old runs) (turn_counts about old new served turn)

  runs_settle : (all : List Served) (last : RunView K) → Runs about first all last → SettlesByOffers first last all
  runs_settle all last none = settles_none first
  runs_settle all last (more before served old new runs turn) = settles_then first old new before (served ∷ []) (runs_settle before old runs) (turn_settles about old new served turn)

  runs_hold : (all : List Served) (last : RunView K) → Runs about first all last → HoldsPuts first last all
  runs_hold all last none = holds_none first
  runs_hold all last (more before served old new runs turn) = holds_then first old new before (served ∷ []) (runs_hold before old runs) (turn_holds about old new served turn)

  pub ran_counts : (last : RunView K) (all : List Served) (end : NodeEnd) → Ran about first last all end → CountsLinks first last all
  ran_counts last all end ran =
      let lane = closed end ran.before_last last ran.closes in
      subst (λ (r : RunView K). CountsLinks first r all) (sym lane.2) (runs_count all ran.before_last ran.runs)

  pub ran_settles : (last : RunView K) (all : List Served) (end : NodeEnd) → Ran about first last all end → SettlesByOffers first last all
  ran_settles last all end ran =
      let lane = closed end ran.before_last last ran.closes in
      let by = runs_settle all ran.before_last ran.runs in
      subst (λ (r : RunView K). SettlesByOffers first r all) (sym lane.2) (record { made = by.made; few = by.few; told = by.told; by_offers = by.by_offers; stays = by.stays })

  pub ran_holds : (last : RunView K) (all : List Served) (end : NodeEnd) → Ran about first last all end → HoldsPuts first last all
  ran_holds last all end ran =
      let lane = closed end ran.before_last last ran.closes in
      let by = runs_hold all ran.before_last ran.runs in
      subst (λ (r : RunView K). HoldsPuts first r all) (sym lane.2)
      (by.0, by.1, subst (λ (o : Option Links). CameSince first.lane.links o by.0) (sym lane.1) by.2, by.3)
