use Rattle.std.proofs.Common.{◌≡◌, ap, refl, arith}
use Rattle.std.specs.Prelude.{Err}
use Rattle.sat_base.specs.declared.requests.Asked.TheVariants as asked
use Rattle.record_rows.proofs.Joins.{untag, tag_of, behind_tag, took, refused}
use Rattle.record_rows.proofs.requests.AskedCoded.take.Goals as goal

pub returns-in_err-addr-in-1-clause-only : goal.returns-in_err-addr-in-1-clause-only
returns-in_err-addr-in-1-clause-only c (asked.Node a p f) rest fits is mem =
    let told : c.from_residual-in_err-addr-in-1.result ≡ Err c.in_err-addr-in-1.field-0.0 = grind arith in
    let h = c.take-in-1.ensures.only (a, (p, f)) rest fits.1 (untag c.in_ok-kind.front c.in_ok-kind.kind 1 c.args.bytes.now _ c.in_ok-kind.ensures.found c.in_ok-kind.ensures.size is) in refused c.take-in-1.result c.from_residual-in_err-addr-in-1.result _ c.in_err-addr-in-1.field-0.0 c.in_err-addr-in-1.was told h mem _
returns-in_err-addr-in-1-clause-only c x rest fits is mem = absurd (omega (arith, tag_of c.in_ok-kind.front c.in_ok-kind.kind _ c.args.bytes.now _ c.in_ok-kind.ensures.found c.in_ok-kind.ensures.size is))

pub returns-in_err-len-in-3-clause-only : goal.returns-in_err-len-in-3-clause-only
returns-in_err-len-in-3-clause-only c (asked.Begin x) rest fits is mem =
    let h = c.take-in-3.ensures.only x rest fits.1 (untag c.in_ok-kind.front c.in_ok-kind.kind 3 c.args.bytes.now _ c.in_ok-kind.ensures.found c.in_ok-kind.ensures.size is) in grind (arith, h)
returns-in_err-len-in-3-clause-only c x rest fits is mem = absurd (omega (arith, tag_of c.in_ok-kind.front c.in_ok-kind.kind _ c.args.bytes.now _ c.in_ok-kind.ensures.found c.in_ok-kind.ensures.size is))

pub returns-in_err-segment-in-4-clause-only : goal.returns-in_err-segment-in-4-clause-only
returns-in_err-segment-in-4-clause-only c (asked.Commit s xs) rest fits is mem =
    let told : c.from_residual-in_err-segment-in-4.result ≡ Err c.in_err-segment-in-4.field-0.0 = grind arith in
    let h = c.take-in-4.ensures.only (s, xs) rest (fits.1.0, (fits.0, fits.1.1)) (untag c.in_ok-kind.front c.in_ok-kind.kind 4 c.args.bytes.now _ c.in_ok-kind.ensures.found c.in_ok-kind.ensures.size is) in refused c.take-in-4.result c.from_residual-in_err-segment-in-4.result _ c.in_err-segment-in-4.field-0.0 c.in_err-segment-in-4.was told h mem _
returns-in_err-segment-in-4-clause-only c x rest fits is mem = absurd (omega (arith, tag_of c.in_ok-kind.front c.in_ok-kind.kind _ c.args.bytes.now _ c.in_ok-kind.ensures.found c.in_ok-kind.ensures.size is))

pub returns-in_err-segment-in-5-clause-only : goal.returns-in_err-segment-in-5-clause-only
returns-in_err-segment-in-5-clause-only c (asked.Get x) rest fits is mem =
    let h = c.take-in-5.ensures.only x rest fits.1 (untag c.in_ok-kind.front c.in_ok-kind.kind 5 c.args.bytes.now _ c.in_ok-kind.ensures.found c.in_ok-kind.ensures.size is) in grind (arith, h)
returns-in_err-segment-in-5-clause-only c x rest fits is mem = absurd (omega (arith, tag_of c.in_ok-kind.front c.in_ok-kind.kind _ c.args.bytes.now _ c.in_ok-kind.ensures.found c.in_ok-kind.ensures.size is))

pub returns-in_err-segment-in-6-clause-only : goal.returns-in_err-segment-in-6-clause-only
returns-in_err-segment-in-6-clause-only c (asked.Delete x) rest fits is mem =
    let h = c.take-in-6.ensures.only x rest fits.1 (untag c.in_ok-kind.front c.in_ok-kind.kind 6 c.args.bytes.now _ c.in_ok-kind.ensures.found c.in_ok-kind.ensures.size is) in grind (arith, h)
returns-in_err-segment-in-6-clause-only c x rest fits is mem = absurd (omega (arith, tag_of c.in_ok-kind.front c.in_ok-kind.kind _ c.args.bytes.now _ c.in_ok-kind.ensures.found c.in_ok-kind.ensures.size is))

pub returns-in_ok-addr-in-1-clause-only : goal.returns-in_ok-addr-in-1-clause-only
returns-in_ok-addr-in-1-clause-only c (asked.Node a p f) rest fits is mem =
    let h = c.take-in-1.ensures.only (a, (p, f)) rest fits.1 (untag c.in_ok-kind.front c.in_ok-kind.kind 1 c.args.bytes.now _ c.in_ok-kind.ensures.found c.in_ok-kind.ensures.size is) in
    let w = c.in_ok-addr-in-1 in
    let same = took c.take-in-1.result ((w.addr, (w.port, w.free)), w.size) _ w.was h in
    rw (ap (λ r. r.0.0) same, ap (λ r. r.0.1.0) same, ap (λ r. r.0.1.1) same, behind_tag c.in_ok-kind.front c.in_ok-kind.kind c.args.bytes.now w.size _ c.in_ok-kind.ensures.found c.in_ok-kind.ensures.size (ap (λ r. r.1) same)) refl
returns-in_ok-addr-in-1-clause-only c x rest fits is mem = absurd (omega (arith, tag_of c.in_ok-kind.front c.in_ok-kind.kind _ c.args.bytes.now _ c.in_ok-kind.ensures.found c.in_ok-kind.ensures.size is))

pub returns-in_ok-len-in-3-clause-only : goal.returns-in_ok-len-in-3-clause-only
returns-in_ok-len-in-3-clause-only c (asked.Begin x) rest fits is mem =
    let h = c.take-in-3.ensures.only x rest fits.1 (untag c.in_ok-kind.front c.in_ok-kind.kind 3 c.args.bytes.now _ c.in_ok-kind.ensures.found c.in_ok-kind.ensures.size is) in grind (arith, h)
returns-in_ok-len-in-3-clause-only c x rest fits is mem = absurd (omega (arith, tag_of c.in_ok-kind.front c.in_ok-kind.kind _ c.args.bytes.now _ c.in_ok-kind.ensures.found c.in_ok-kind.ensures.size is))

pub returns-in_ok-segment-in-4-clause-only : goal.returns-in_ok-segment-in-4-clause-only
returns-in_ok-segment-in-4-clause-only c (asked.Commit s xs) rest fits is mem =
    let h = c.take-in-4.ensures.only (s, xs) rest (fits.1.0, (fits.0, fits.1.1)) (untag c.in_ok-kind.front c.in_ok-kind.kind 4 c.args.bytes.now _ c.in_ok-kind.ensures.found c.in_ok-kind.ensures.size is) in
    let w = c.in_ok-segment-in-4 in
    let same = took c.take-in-4.result ((w.segment, w.indexes), w.size) _ w.was h in
    rw (ap (λ r. r.0.0) same, ap (λ r. r.0.1) same, behind_tag c.in_ok-kind.front c.in_ok-kind.kind c.args.bytes.now w.size _ c.in_ok-kind.ensures.found c.in_ok-kind.ensures.size (ap (λ r. r.1) same)) refl
returns-in_ok-segment-in-4-clause-only c x rest fits is mem = absurd (omega (arith, tag_of c.in_ok-kind.front c.in_ok-kind.kind _ c.args.bytes.now _ c.in_ok-kind.ensures.found c.in_ok-kind.ensures.size is))

pub returns-in_ok-segment-in-5-clause-only : goal.returns-in_ok-segment-in-5-clause-only
returns-in_ok-segment-in-5-clause-only c (asked.Get x) rest fits is mem =
    let h = c.take-in-5.ensures.only x rest fits.1 (untag c.in_ok-kind.front c.in_ok-kind.kind 5 c.args.bytes.now _ c.in_ok-kind.ensures.found c.in_ok-kind.ensures.size is) in grind (arith, h)
returns-in_ok-segment-in-5-clause-only c x rest fits is mem = absurd (omega (arith, tag_of c.in_ok-kind.front c.in_ok-kind.kind _ c.args.bytes.now _ c.in_ok-kind.ensures.found c.in_ok-kind.ensures.size is))

pub returns-in_ok-segment-in-6-clause-only : goal.returns-in_ok-segment-in-6-clause-only
returns-in_ok-segment-in-6-clause-only c (asked.Delete x) rest fits is mem =
    let h = c.take-in-6.ensures.only x rest fits.1 (untag c.in_ok-kind.front c.in_ok-kind.kind 6 c.args.bytes.now _ c.in_ok-kind.ensures.found c.in_ok-kind.ensures.size is) in grind (arith, h)
returns-in_ok-segment-in-6-clause-only c x rest fits is mem = absurd (omega (arith, tag_of c.in_ok-kind.front c.in_ok-kind.kind _ c.args.bytes.now _ c.in_ok-kind.ensures.found c.in_ok-kind.ensures.size is))
