use Rattle.std.proofs.Common.{refl, sym, ap, ◌∙◌}
use Rattle.sat_book.specs.Book.{origin_of}
use Rattle.sat_book.specs.declared.opening.Origin.{Origin}
use Rattle.sat_term.proofs.Whole.{closed_same, keeps_same, once_same, origin_same, pays_same, shown_same, spell_same, whole_from}
use Rattle.sat_term.proofs.serving.serve_term.Goals as goal

pub returns-clause-clauses : goal.returns-clause-clauses
returns-clause-clauses g c =
    let d = c.close-book.ensures in
    let a0 = c.work_all-pass.ensures in
    let same = origin_same c.in-Ok.made.0 (origin_of c.args.book) (origin_of c.close-book.result) c.in-Ok.made.1 c.work_all-pass.result.pass d.base a0.gathered.base_is c.in-Ok.ensures.first in
    whole_from g.A.RoundKit.tells g.B.RoundKit.tells g.C.RoundKit.tells c.args.keys.now c.args.term c.in-Ok.made.0 (origin_of c.args.book) c.in-Ok.made.1 c.work_all-pass.result.pass _ _ _ _ c.work_all-pass.result.log _ _ _ c.in-Ok.ensures.term c.in-Ok.ensures.first a0
    (c.close-keeper.ensures.opening ∙ ap (λ (o : Origin g.row.K.Denot). o.opening.rows) same) (c.close-keeper.ensures.history ∙ d.entries) refl refl refl refl d.lawful d.own d.full

pub returns-clause-faults : goal.returns-clause-faults
returns-clause-faults g c =
    let d = c.close-book.ensures in
    let a0 = c.work_all-pass.ensures in
    let same = origin_same c.in-Ok.made.0 (origin_of c.args.book) (origin_of c.close-book.result) c.in-Ok.made.1 c.work_all-pass.result.pass d.base a0.gathered.base_is c.in-Ok.ensures.first in
    shown_same c.args.book.opening c.close-book.result.opening _ c.close-book.result.history _ (ap (λ (o : Origin g.row.K.Denot). o.opening) same) (sym c.close-keeper.ensures.history) c.close-keeper.ensures.shown

pub returns-clause-spell : goal.returns-clause-spell
returns-clause-spell g c =
    let same = origin_same c.in-Ok.made.0 (origin_of c.args.book) (origin_of c.close-book.result) c.in-Ok.made.1 c.work_all-pass.result.pass c.close-book.ensures.base c.work_all-pass.ensures.gathered.base_is c.in-Ok.ensures.first in
    spell_same c.args.book.opening c.close-book.result.opening (ap (λ (o : Origin g.row.K.Denot). o.opening) same) c.close-keeper.ensures.spell

pub returns-clause-once : goal.returns-clause-once
returns-clause-once g c =
    let same = origin_same c.in-Ok.made.0 (origin_of c.args.book) (origin_of c.close-book.result) c.in-Ok.made.1 c.work_all-pass.result.pass c.close-book.ensures.base c.work_all-pass.ensures.gathered.base_is c.in-Ok.ensures.first in
    once_same c.args.book.opening c.close-book.result.opening _ c.close-book.result.history (ap (λ (o : Origin g.row.K.Denot). o.opening) same) (sym c.close-keeper.ensures.history) c.close-keeper.ensures.once

pub returns-clause-pays : goal.returns-clause-pays
returns-clause-pays g c =
    let same = origin_same c.in-Ok.made.0 (origin_of c.args.book) (origin_of c.close-book.result) c.in-Ok.made.1 c.work_all-pass.result.pass c.close-book.ensures.base c.work_all-pass.ensures.gathered.base_is c.in-Ok.ensures.first in
    pays_same c.args.book.opening c.close-book.result.opening _ c.close-book.result.history (ap (λ (o : Origin g.row.K.Denot). o.opening) same) (sym c.close-keeper.ensures.history) c.close-keeper.ensures.pays

pub returns-clause-closed : goal.returns-clause-closed
returns-clause-closed g c =
    let same = origin_same c.in-Ok.made.0 (origin_of c.args.book) (origin_of c.close-book.result) c.in-Ok.made.1 c.work_all-pass.result.pass c.close-book.ensures.base c.work_all-pass.ensures.gathered.base_is c.in-Ok.ensures.first in
    closed_same c.args.book.opening c.close-book.result.opening _ c.close-book.result.history (ap (λ (o : Origin g.row.K.Denot). o.opening) same) (sym c.close-keeper.ensures.history) c.close-keeper.ensures.closed

pub returns-clause-keeps : goal.returns-clause-keeps
returns-clause-keeps g c =
    let same = origin_same c.in-Ok.made.0 (origin_of c.args.book) (origin_of c.close-book.result) c.in-Ok.made.1 c.work_all-pass.result.pass c.close-book.ensures.base c.work_all-pass.ensures.gathered.base_is c.in-Ok.ensures.first in
    keeps_same g.K.Keeper.about (origin_of c.args.book) (origin_of c.close-book.result) _ c.close-book.result.history _ same (sym c.close-keeper.ensures.history) c.close-keeper.ensures.keeps
