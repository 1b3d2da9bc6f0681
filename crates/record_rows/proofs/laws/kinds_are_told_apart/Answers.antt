use Rattle.record_rows.specs.Laws.{IsToldApart}
use Rattle.record_rows.proofs.KindLemmas.{by_kind}
use Rattle.record_rows.proofs.laws.kinds_are_told_apart.Goals as goal

pub returns : goal.returns
returns c = by_kind IsToldApart
    c.kind_is_told_apart.ensures c.kind_is_told_apart-2.ensures c.kind_is_told_apart-3.ensures c.kind_is_told_apart-4.ensures
    c.kind_is_told_apart-5.ensures c.kind_is_told_apart-6.ensures c.kind_is_told_apart-7.ensures c.kind_is_told_apart-8.ensures
    c.kind_is_told_apart-9.ensures c.kind_is_told_apart-10.ensures c.kind_is_told_apart-11.ensures c.kind_is_told_apart-12.ensures
    c.kind_is_told_apart-13.ensures c.kind_is_told_apart-14.ensures c.kind_is_told_apart-15.ensures c.kind_is_told_apart-16.ensures
