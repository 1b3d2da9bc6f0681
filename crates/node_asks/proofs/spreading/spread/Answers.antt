use Rattle.std.proofs.Common.{◌≡◌, ◌+◌, ◌<◌, ◌≤◌, Bool, true, false, not, ℕ, List, [], ◌∷◌, ◌++◌, length, take, get_or, sym, ap, subst, ◌∙◌, arith, Vec, Global}
use Rattle.std.specs.Prelude.{map, All}
use Rattle.std.proofs.lemmas.List.{take_all}
use Rattle.std.proofs.lemmas.Slice.Zip.{AllZip-long}
use Rattle.sat_base.specs.declared.items.Share.{Share}
use Rattle.sat_base.specs.declared.requests.Place.{Place}
use Rattle.bw_decode.specs.Near.{Rises}
use Rattle.repair_core.specs.Indexes.{has_index, place_indexes}
use Rattle.node_asks.specs.Asks.{put_ask, pieces_of, piece_len_of}
use Rattle.node_asks.specs.Spreading.{IsFresh, Spreads, stored_as}
use Rattle.sat_base.specs.Nodes.{Stores}
use Rattle.node_asks.proofs.AskLemmas.{on_err}
use Rattle.node_asks.proofs.SpreadLemmas.{indexes_at, kept_with, pieces-indexes, Before, IsPut, put_more, put_some, put_some_more}
use Rattle.node_asks.proofs.spreading.spread.Goals as goal
use Rattle.node_asks.proofs.spreading.spread.Goals.{then-branch+in_ok-push, else-branch}

pub bounds-fresh-i : goal.bounds-fresh-i
bounds-fresh-i g c =
    let long = AllZip-long (IsFresh (piece_len_of c.args.scheme.now c.args.plan.now)) c.args.targets.now c.args.fresh.now c.requires.fresh in
    omega (arith, long, c.loop-i-test.true)

pub loop-i-preserved : goal.loop-i-preserved
loop-i-preserved g c =
    let targets = c.args.targets.now in
    let fresh = c.args.fresh.now in
    let kept = c.loop-i.kept.items in
    let place : Place = get_or targets c.loop-i.i (record { index = 0; node = record { 0 = 0 }; addr = 0; port = 0 }) in
    let long = AllZip-long (IsFresh (piece_len_of c.args.scheme.now c.args.plan.now)) targets fresh c.requires.fresh in
    let told = c.in_ok-put_at.ensures in
    let rises : Rises (indexes_at targets) = subst Rises (sym (ap place_indexes c.requires.targets) ∙ pieces-indexes targets) c.requires.rising in
    let before : Before = record { held = g.N.Nodes.held c.args.nodes.now; asks = g.N.Nodes.asks c.args.nodes.now; faults = g.N.Nodes.faults c.args.nodes.now } in
    let after : Before = record { held = g.N.Nodes.held c.put_at.new.nodes; asks = g.N.Nodes.asks c.put_at.new.nodes; faults = g.N.Nodes.faults c.put_at.new.nodes } in
    let stored
    = subst (λ (piece : Share). Stores (g.N.Nodes.held c.loop-i.nodes) (put_ask c.args.keys.now c.args.scheme.now c.args.plan.now place) piece.bytes (stored_as c.in_ok-put_at.field-0) after.held) c.index-fresh-i.is told.told in
    let P : List ℕ → Type 0 = λ xs. IsPut c.args.keys.now c.args.scheme.now c.args.plan.now targets fresh before after (c.loop-i.i + 1) xs in
    let next = put_more c.args.keys.now c.args.scheme.now c.args.plan.now targets fresh before _ after
    c.loop-i.i _ c.index-fresh-i.result kept c.in_ok-put_at.field-0 c.loop-i-test.true (omega (arith, long, c.loop-i-test.true)) rises c.loop-i.invariant stored told.asks told.faults told.counts told.last in
    elim c.if-branch.branch [
      | then-branch+in_ok-push w ↦
          let kept_now : P (kept_with kept true place.index) = subst (λ b. P (kept_with kept b place.index)) w.if-branch.true next in
          subst P (sym (ap (λ (v : Vec ℕ Global). v.items) w.kept-is ∙ w.in_ok-push.ensures.items)) kept_now
      | else-branch w ↦
          let left_now : P (kept_with kept false place.index) = subst (λ b. P (kept_with kept b place.index)) w.if-branch.false next in
          subst P (sym (ap (λ (v : Vec ℕ Global). v.items) w.kept-is)) left_now
    ]

pub returns-in_err-put_at-clause-err : goal.returns-in_err-put_at-clause-err
returns-in_err-put_at-clause-err g c = on_err c.from_residual.result _ (put_some c.args.keys.now c.args.scheme.now c.args.plan.now c.args.targets.now _ c.loop-i.i (c.in_err-put_at.ensures.err ∙ c.loop-i.invariant.asks))

pub returns-in_err-push-clause-err : goal.returns-in_err-push-clause-err
returns-in_err-push-clause-err g c =
    on_err c.from_residual-in_err-push.result _ (put_some_more c.args.keys.now c.args.scheme.now c.args.plan.now c.args.targets.now _ _ c.loop-i.i _ c.loop-i-test.true c.loop-i.invariant.asks c.in_ok-put_at.ensures.asks)

pub returns-clause-among : goal.returns-clause-among
returns-clause-among g c =
    let targets = c.args.targets.now in
    let all : take c.loop-i.i targets ≡ targets = take_all c.loop-i.i targets c.loop-i-test.false in
    let own : indexes_at (take c.loop-i.i targets) ≡ place_indexes c.args.plan.now.targets
    = ap indexes_at all ∙ sym (pieces-indexes targets) ∙ ap place_indexes c.requires.targets in
    subst (λ (xs : List ℕ). All (λ index. has_index (place_indexes c.args.plan.now.targets) index ≡ true) xs) (sym c.of.ensures)
    (subst (λ (ys : List ℕ). All (λ index. has_index ys index ≡ true) c.loop-i.kept.items) own c.loop-i.invariant.among)

pub returns-clause-spread : goal.returns-clause-spread
returns-clause-spread g c =
    let targets = c.args.targets.now in
    let fresh = c.args.fresh.now in
    let long = AllZip-long (IsFresh (piece_len_of c.args.scheme.now c.args.plan.now)) targets fresh c.requires.fresh in
    let old = g.N.Nodes.held c.args.nodes.now in
    let new = g.N.Nodes.held c.loop-i.nodes in
    let segment = c.args.plan.now.segment in
    subst (λ (xs : List ℕ). Spreads old segment targets fresh new xs) (sym c.of.ensures)
    (subst (λ (fs : List Share). Spreads old segment targets fs new c.loop-i.kept.items) (take_all c.loop-i.i fresh (omega (arith, long, c.loop-i-test.false)))
    (subst (λ (ts : List Place). Spreads old segment ts (take c.loop-i.i fresh) new c.loop-i.kept.items) (take_all c.loop-i.i targets c.loop-i-test.false) c.loop-i.invariant.spread))
