use Rattle.std.proofs.Common.{refl, sym, ap, ◌∙◌, ◌≡◌}
use Rattle.sat_base.specs.declared.rows.Row.{Row}
use Rattle.record_kinds.specs.declared.rec.Rec.{Rec}
use Rattle.record_rows.specs.declared.version.Version.{Version}
use Rattle.record_rows.specs.declared.version.Version.TheVariants as versions
use Rattle.record_rows.specs.Fits.{Fits}
use Rattle.record_rows.specs.Spelling.{row_of}
use Rattle.record_rows.specs.Versions.{IsRecordIn, Implies}
use Rattle.record_rows.proofs.VersionLemmas.{one_record1, one_implied1}
use Rattle.record_rows.proofs.laws.versions_are_told_apart.Goals as goal

one_record : ((x y : Rec) → Fits x → Fits y → row_of x ≡ row_of y → x ≡ y) → (v : Version) (row : Row) (x y : Rec) → IsRecordIn v row x → IsRecordIn v row y → x ≡ y
one_record one versions.One row x y ix iy = one_record1 one row x y ix iy
one_record one versions.Two row x y ix iy = one x y ix.0 iy.0 (sym ix.1 ∙ iy.1)

one_implied : (v : Version) (row : Row) (x y : Rec) → Implies v row x → Implies v row y → x ≡ y
one_implied versions.One row x y ix iy = one_implied1 row x y ix iy
one_implied versions.Two row x y ix iy = absurd ix

pub returns-clause-holds : goal.returns-clause-holds
returns-clause-holds c = one_record (λ x y fx fy same. (c.kinds_are_told_apart.ensures x).one x y refl (sym (ap (λ (row : Row). row.kind) same)) fx fy same)

pub returns-clause-implies : goal.returns-clause-implies
returns-clause-implies c = one_implied
