use Rattle.std.proofs.Common.{◌≡◌, ◌++◌, ◌∙◌, ap, sym, refl, arith}
use Rattle.std.specs.Prelude.{Err, unwrap_or}
use Rattle.record_rows.proofs.Joins.{took, refused}
use Rattle.record_rows.proofs.made.take_made.Goals as goal

pub returns-in_err-fields-clause-only : goal.returns-in_err-fields-clause-only
returns-in_err-fields-clause-only g c x rest fits allows is mem =
    let told : c.from_residual.result ≡ Err c.in_err-fields.field-0.0 = grind arith in
    let e = c.take.ensures.only (g.T.Made.fields x) rest fits (is ∙ ap (λ l. l ++ rest) (sym (g.met.T.Made.spelled x))) in
    refused c.take.result c.from_residual.result _ c.in_err-fields.field-0.0 c.in_err-fields.was told e mem _

pub returns-in-Some-clause-found : goal.returns-in-Some-clause-found
returns-in-Some-clause-found g c =
    c.in_ok-fields.ensures.found ∙ ap g.T.Fields.Spelled.spelling (sym c.in-Some.ensures.fields) ∙ g.met.T.Made.spelled c.in-Some.x

pub returns-in-Some-clause-only : goal.returns-in-Some-clause-only
returns-in-Some-clause-only g c x rest fits allows is mem =
    let e = c.take.ensures.only (g.T.Made.fields x) rest fits (is ∙ ap (λ l. l ++ rest) (sym (g.met.T.Made.spelled x))) in
    let same = took c.take.result (c.in_ok-fields.fields, c.in_ok-fields.size) _ c.in_ok-fields.was e in
    let made = sym c.in-Some.is ∙ c.of.ensures.only x allows (sym (ap (λ r. r.0) same)) in
    rw (ap (λ o. unwrap_or o x) made, ap (λ r. r.1) same, g.met.T.Made.spelled x) refl

pub returns-in-None-clause-only : goal.returns-in-None-clause-only
returns-in-None-clause-only g c x rest fits allows is mem =
    let e = c.take.ensures.only (g.T.Made.fields x) rest fits (is ∙ ap (λ l. l ++ rest) (sym (g.met.T.Made.spelled x))) in
    let same = took c.take.result (c.in_ok-fields.fields, c.in_ok-fields.size) _ c.in_ok-fields.was e in
    let none = sym c.in-None.is ∙ c.of.ensures.only x allows (sym (ap (λ r. r.0) same)) in
    absurd (cc)
