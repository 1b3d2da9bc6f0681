use Rattle.std.proofs.Common.{Option, sym, ap, ◌∙◌, subst}
use Rattle.std.specs.Prelude.{IsSome}
use Rattle.sat_book.specs.Book.{opening_of}
use Rattle.sat_book.specs.declared.opening.Opening.{Opening}
use Rattle.sat_sessions.specs.Rounds.{RoundDoes}
use Rattle.sat_sessions.proofs.RoundLemmas.{does_one, far_more, far_on, ran_last, ran_over, ran_wanting, ticked}
use Rattle.sat_sessions.proofs.rounds.RoundKit.work.Goals as goal

pub returns-then-is_err : goal.returns-then-is_err
returns-then-is_err g c =
    let view = g.Self.RoundKit.view in
    let opening = opening_of c.args.pass.base in
    ran_wanting IsSome (g.Self.RoundKit.tells opening) c.args.desk.now (view c.args.self) c.args.pass c.loop.rounds.items (view c.loop.kit) c.loop.pass c.reserve.new.self.items (c.lasts.ensures opening) c.loop.invariant.far c.reserve.ensures.items

pub returns-in-Ended : goal.returns-in-Ended
returns-in-Ended g c =
    let view = g.Self.RoundKit.view in
    let opening = opening_of c.args.pass.base in
    ran_over IsSome (g.Self.RoundKit.tells opening) c.args.desk.now (view c.args.self) c.args.pass c.loop.rounds.items (view c.loop.kit) c.loop.pass c.reserve.new.self.items (view c.tick.new.self) (c.lasts.ensures opening) c.loop.invariant.far c.reserve.ensures.items c.in-Ended.ensures.beats

pub returns-then-ends_rounds : goal.returns-then-ends_rounds
returns-then-ends_rounds g c =
    let view = g.Self.RoundKit.view in
    let opening = opening_of c.args.pass.base in
    let tells = g.Self.RoundKit.tells opening in
    let own = c.loop.invariant.far in
    let came = ticked (view c.loop.kit) c.tick.result (view c.tick.new.self) c.tick.ensures.beats c.in_default.not-Ended in
    let x = c.round-after.result.1 in
    let k' = c.round-after.result.0 in
    let s' = view c.round-after.new.self in
    let does = does_one tells (view c.loop.kit) (view c.tick.new.self) c.loop.pass x s' k' came.0 came.1
    (subst (λ (o : Option Opening). RoundDoes (g.Self.RoundKit.tells o) (view c.tick.new.self) c.loop.pass x s' k') (ap opening_of own.base_is) c.round-after.ensures.does) in
    let far = far_more IsSome tells c.args.desk.now (view c.args.self) c.args.pass c.loop.rounds.items (view c.loop.kit) c.loop.pass x s' k' c.reserve.new.self.items c.push_reserved.new.self.items
    own does c.reserve.ensures.items c.push_reserved.ensures.items in
    ran_last IsSome tells c.args.desk.now (view c.args.self) c.args.pass c.reserve.new.self.items x s' k' c.push_reserved.new.self.items (c.lasts.ensures opening) far c.push_reserved.ensures.items (sym c.ends_rounds.ensures ∙ c.if-ends_rounds.true)

pub loop-preserved : goal.loop-preserved
loop-preserved g c =
    let view = g.Self.RoundKit.view in
    let opening = opening_of c.args.pass.base in
    let tells = g.Self.RoundKit.tells opening in
    let own = c.loop.invariant.far in
    let came = ticked (view c.loop.kit) c.tick.result (view c.tick.new.self) c.tick.ensures.beats c.in_default.not-Ended in
    let x = c.round-after.result.1 in
    let k' = c.round-after.result.0 in
    let s' = view c.round-after.new.self in
    let does = does_one tells (view c.loop.kit) (view c.tick.new.self) c.loop.pass x s' k' came.0 came.1
    (subst (λ (o : Option Opening). RoundDoes (g.Self.RoundKit.tells o) (view c.tick.new.self) c.loop.pass x s' k') (ap opening_of own.base_is) c.round-after.ensures.does) in
    let far = far_more IsSome tells c.args.desk.now (view c.args.self) c.args.pass c.loop.rounds.items (view c.loop.kit) c.loop.pass x s' k' c.reserve.new.self.items c.push_reserved.new.self.items
    own does c.reserve.ensures.items c.push_reserved.ensures.items in
    record {
      far = far_on IsSome tells c.args.desk.now (view c.args.self) c.args.pass c.push_reserved.new.self.items s' k' _ far (sym c.ends_rounds.ensures ∙ c.if-ends_rounds.false);
      fits = subst (λ (o : Option Opening). g.Self.RoundKit.fits o c.round-after.new.self) (ap opening_of own.base_is) c.round-after.ensures.fits;
    }
