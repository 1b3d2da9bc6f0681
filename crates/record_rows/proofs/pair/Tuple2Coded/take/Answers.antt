use Rattle.std.proofs.Common.{◌≡◌, ◌++◌, ◌∙◌, sym, ap, refl, length, arith, append_assoc, length-append}
use Rattle.std.specs.Prelude.{Err}
use Rattle.std.proofs.lemmas.List.{drop_at}
use Rattle.record_rows.proofs.Joins.{joined, to_end, took, refused}
use Rattle.record_rows.proofs.pair.Tuple2Coded.take.Goals as goal

pub returns-in_err-a-clause-only : goal.returns-in_err-a-clause-only
returns-in_err-a-clause-only g c x rest fits is mem =
    let f = g.A.Spelled.spelling in
    let h = g.B.Spelled.spelling in
    let e = c.take.ensures.only x.0 (h x.1 ++ rest) fits.0 (is ∙ append_assoc (f x.0) (h x.1) rest) in
    let told : c.from_residual.result ≡ Err c.in_err-a.field-0.0 = grind arith in
    refused c.take.result c.from_residual.result (x.0, length (f x.0)) c.in_err-a.field-0.0 c.in_err-a.was told e mem _

pub returns-in_err-b-clause-only : goal.returns-in_err-b-clause-only
returns-in_err-b-clause-only g c x rest fits is mem =
    let told : c.from_residual-in_err-b.result ≡ Err c.in_err-b.field-0.0 = grind arith in
    let f = g.A.Spelled.spelling in
    let h = g.B.Spelled.spelling in
    let e = c.take.ensures.only x.0 (h x.1 ++ rest) fits.0 (is ∙ append_assoc (f x.0) (h x.1) rest) in
    let a = took c.take.result (c.in_ok-a.a, c.in_ok-a.n) (x.0, length (f x.0)) c.in_ok-a.was e in
    let behind = to_end c.in_ok-a.n c.args.bytes.now ∙ rw (is, append_assoc) (drop_at (f x.0) (h x.1 ++ rest) c.in_ok-a.n (sym (ap (λ p. p.1) a))) in
    let e' = c.take-2.ensures.only x.1 rest fits.1 behind in
    refused c.take-2.result c.from_residual-in_err-b.result (x.1, length (h x.1)) c.in_err-b.field-0.0 c.in_err-b.was told e' mem _

pub returns-clause-found : goal.returns-clause-found
returns-clause-found g c = joined c.in_ok-a.n c.in_ok-b.m c.args.bytes.now (g.A.Spelled.spelling c.in_ok-a.a) (g.B.Spelled.spelling c.in_ok-b.b) c.in_ok-a.ensures.found (rw (sym (to_end c.in_ok-a.n c.args.bytes.now)) c.in_ok-b.ensures.found)

pub returns-clause-only : goal.returns-clause-only
returns-clause-only g c x rest fits is mem =
    let f = g.A.Spelled.spelling in
    let h = g.B.Spelled.spelling in
    let e = c.take.ensures.only x.0 (h x.1 ++ rest) fits.0 (is ∙ append_assoc (f x.0) (h x.1) rest) in
    let a = took c.take.result (c.in_ok-a.a, c.in_ok-a.n) (x.0, length (f x.0)) c.in_ok-a.was e in
    let behind = to_end c.in_ok-a.n c.args.bytes.now ∙ rw (is, append_assoc) (drop_at (f x.0) (h x.1 ++ rest) c.in_ok-a.n (sym (ap (λ p. p.1) a))) in
    let e' = c.take-2.ensures.only x.1 rest fits.1 behind in
    let b = took c.take-2.result (c.in_ok-b.b, c.in_ok-b.m) (x.1, length (h x.1)) c.in_ok-b.was e' in
    rw (ap (λ p. p.0) a, ap (λ p. p.1) a, ap (λ p. p.0) b, ap (λ p. p.1) b, length-append) refl
