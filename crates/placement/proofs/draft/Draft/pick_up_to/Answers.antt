use Rattle.std.proofs.Common.{arith}
use Rattle.placement.specs.Eligible.{used}
use Rattle.placement.specs.Draft.{terms_of}
use Rattle.placement.specs.Placed.{nothing}
use Rattle.placement.proofs.DraftLemmas.{drawn-more, none-eligible, flags-draft}
use Rattle.placement.proofs.draft.Draft.pick_up_to.Goals as goal

pub loop-init : goal.loop-init
loop-init c = record { draft = c.requires.draft; drawn = nothing; number = omega arith }

pub loop-preserved : goal.loop-preserved
loop-preserved c =
    let more = drawn-more (terms_of c.args.request.now) c.args.class c.args.self.now.picks.items c.loop.self.picks.items c.pick.new.self.picks.items c.loop.invariant.drawn c.in_ok-pick.ensures.pick in
    record { draft = c.in_ok-pick.ensures.draft; drawn = more.drawn; number = let longer = more.longer in let number = c.loop.invariant.number in omega arith }

pub returns-then-count-eq0-clause-phase : goal.returns-then-count-eq0-clause-phase
returns-then-count-eq0-clause-phase c =
    let number = c.loop.invariant.number in
    record {
      drawn = c.loop.invariant.drawn;
      within = omega arith;
      ended = λ lt. none-eligible (terms_of c.args.request.now) c.args.class c.loop.self.picks.items
          (rw (← flags-draft (terms_of c.args.request.now) c.args.class (used (terms_of c.args.request.now) c.loop.self.picks.items) c.loop.self c.loop.invariant.draft, ← c.flags.ensures, ← c.count.ensures) c.if-count-eq0.true);
    }
