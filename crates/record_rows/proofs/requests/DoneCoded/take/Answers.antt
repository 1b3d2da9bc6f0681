use Rattle.std.proofs.Common.{arith}
use Rattle.sat_base.specs.declared.requests.Done.TheVariants as done
use Rattle.record_rows.proofs.Joins.{untag, tag_of}
use Rattle.record_rows.proofs.requests.DoneCoded.take.Goals as goal

pub returns-in_err-node-in-1-clause-only : goal.returns-in_err-node-in-1-clause-only
returns-in_err-node-in-1-clause-only c (done.NodeAdded x) rest fits is mem =
    let h = c.take-in-1.ensures.only x rest fits.1 (untag c.in_ok-kind.front c.in_ok-kind.kind 1 c.args.bytes.now _ c.in_ok-kind.ensures.found c.in_ok-kind.ensures.size is) in grind (arith, h)
returns-in_err-node-in-1-clause-only c x rest fits is mem = absurd (omega (arith, tag_of c.in_ok-kind.front c.in_ok-kind.kind _ c.args.bytes.now _ c.in_ok-kind.ensures.found c.in_ok-kind.ensures.size is))

pub returns-in_err-customer-in-2-clause-only : goal.returns-in_err-customer-in-2-clause-only
returns-in_err-customer-in-2-clause-only c (done.CustomerAdded x) rest fits is mem =
    let h = c.take-in-2.ensures.only x rest fits.1 (untag c.in_ok-kind.front c.in_ok-kind.kind 2 c.args.bytes.now _ c.in_ok-kind.ensures.found c.in_ok-kind.ensures.size is) in grind (arith, h)
returns-in_err-customer-in-2-clause-only c x rest fits is mem = absurd (omega (arith, tag_of c.in_ok-kind.front c.in_ok-kind.kind _ c.args.bytes.now _ c.in_ok-kind.ensures.found c.in_ok-kind.ensures.size is))

pub returns-in_err-offer-in-3-clause-only : goal.returns-in_err-offer-in-3-clause-only
returns-in_err-offer-in-3-clause-only c (done.Offer x) rest fits is mem =
    let h = c.take-in-3.ensures.only x rest fits (untag c.in_ok-kind.front c.in_ok-kind.kind 3 c.args.bytes.now _ c.in_ok-kind.ensures.found c.in_ok-kind.ensures.size is) in grind (arith, h)
returns-in_err-offer-in-3-clause-only c x rest fits is mem = absurd (omega (arith, tag_of c.in_ok-kind.front c.in_ok-kind.kind _ c.args.bytes.now _ c.in_ok-kind.ensures.found c.in_ok-kind.ensures.size is))

pub returns-in_err-segment-in-4-clause-only : goal.returns-in_err-segment-in-4-clause-only
returns-in_err-segment-in-4-clause-only c (done.Committed x) rest fits is mem =
    let h = c.take-in-4.ensures.only x rest fits.1 (untag c.in_ok-kind.front c.in_ok-kind.kind 4 c.args.bytes.now _ c.in_ok-kind.ensures.found c.in_ok-kind.ensures.size is) in grind (arith, h)
returns-in_err-segment-in-4-clause-only c x rest fits is mem = absurd (omega (arith, tag_of c.in_ok-kind.front c.in_ok-kind.kind _ c.args.bytes.now _ c.in_ok-kind.ensures.found c.in_ok-kind.ensures.size is))

pub returns-in_err-segment-in-5-clause-only : goal.returns-in_err-segment-in-5-clause-only
returns-in_err-segment-in-5-clause-only c (done.Deleted x) rest fits is mem =
    let h = c.take-in-5.ensures.only x rest fits.1 (untag c.in_ok-kind.front c.in_ok-kind.kind 5 c.args.bytes.now _ c.in_ok-kind.ensures.found c.in_ok-kind.ensures.size is) in grind (arith, h)
returns-in_err-segment-in-5-clause-only c x rest fits is mem = absurd (omega (arith, tag_of c.in_ok-kind.front c.in_ok-kind.kind _ c.args.bytes.now _ c.in_ok-kind.ensures.found c.in_ok-kind.ensures.size is))

pub returns-in_ok-node-in-1-clause-only : goal.returns-in_ok-node-in-1-clause-only
returns-in_ok-node-in-1-clause-only c (done.NodeAdded x) rest fits is mem =
    let h = c.take-in-1.ensures.only x rest fits.1 (untag c.in_ok-kind.front c.in_ok-kind.kind 1 c.args.bytes.now _ c.in_ok-kind.ensures.found c.in_ok-kind.ensures.size is) in grind (arith, h)
returns-in_ok-node-in-1-clause-only c x rest fits is mem = absurd (omega (arith, tag_of c.in_ok-kind.front c.in_ok-kind.kind _ c.args.bytes.now _ c.in_ok-kind.ensures.found c.in_ok-kind.ensures.size is))

pub returns-in_ok-customer-in-2-clause-only : goal.returns-in_ok-customer-in-2-clause-only
returns-in_ok-customer-in-2-clause-only c (done.CustomerAdded x) rest fits is mem =
    let h = c.take-in-2.ensures.only x rest fits.1 (untag c.in_ok-kind.front c.in_ok-kind.kind 2 c.args.bytes.now _ c.in_ok-kind.ensures.found c.in_ok-kind.ensures.size is) in grind (arith, h)
returns-in_ok-customer-in-2-clause-only c x rest fits is mem = absurd (omega (arith, tag_of c.in_ok-kind.front c.in_ok-kind.kind _ c.args.bytes.now _ c.in_ok-kind.ensures.found c.in_ok-kind.ensures.size is))

pub returns-in_ok-offer-in-3-clause-only : goal.returns-in_ok-offer-in-3-clause-only
returns-in_ok-offer-in-3-clause-only c (done.Offer x) rest fits is mem =
    let h = c.take-in-3.ensures.only x rest fits (untag c.in_ok-kind.front c.in_ok-kind.kind 3 c.args.bytes.now _ c.in_ok-kind.ensures.found c.in_ok-kind.ensures.size is) in grind (arith, h)
returns-in_ok-offer-in-3-clause-only c x rest fits is mem = absurd (omega (arith, tag_of c.in_ok-kind.front c.in_ok-kind.kind _ c.args.bytes.now _ c.in_ok-kind.ensures.found c.in_ok-kind.ensures.size is))

pub returns-in_ok-segment-in-4-clause-only : goal.returns-in_ok-segment-in-4-clause-only
returns-in_ok-segment-in-4-clause-only c (done.Committed x) rest fits is mem =
    let h = c.take-in-4.ensures.only x rest fits.1 (untag c.in_ok-kind.front c.in_ok-kind.kind 4 c.args.bytes.now _ c.in_ok-kind.ensures.found c.in_ok-kind.ensures.size is) in grind (arith, h)
returns-in_ok-segment-in-4-clause-only c x rest fits is mem = absurd (omega (arith, tag_of c.in_ok-kind.front c.in_ok-kind.kind _ c.args.bytes.now _ c.in_ok-kind.ensures.found c.in_ok-kind.ensures.size is))

pub returns-in_ok-segment-in-5-clause-only : goal.returns-in_ok-segment-in-5-clause-only
returns-in_ok-segment-in-5-clause-only c (done.Deleted x) rest fits is mem =
    let h = c.take-in-5.ensures.only x rest fits.1 (untag c.in_ok-kind.front c.in_ok-kind.kind 5 c.args.bytes.now _ c.in_ok-kind.ensures.found c.in_ok-kind.ensures.size is) in grind (arith, h)
returns-in_ok-segment-in-5-clause-only c x rest fits is mem = absurd (omega (arith, tag_of c.in_ok-kind.front c.in_ok-kind.kind _ c.args.bytes.now _ c.in_ok-kind.ensures.found c.in_ok-kind.ensures.size is))
