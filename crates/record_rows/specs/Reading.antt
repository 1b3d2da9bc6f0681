-- What a row is read as.
use Rattle.std.specs.Prelude.{◌≡◌, ◌≢◌, ℕ, ◌<◌, ◌≤◌, ◌⊎◌, Result, Ok, Err, IfOk}
use Rattle.sat_base.specs.declared.kinds.TheConstants as kinds
use Rattle.sat_base.specs.declared.rows.Row.{Row}
use Rattle.record_kinds.specs.declared.rec.Rec.{Rec}
use Rattle.record_rows.specs.declared.kind.RowErr.{RowErr}
use Rattle.record_rows.specs.declared.kind.RowErr.TheVariants as no
use Rattle.record_kinds.specs.Kinds.{kind_of}
use Rattle.record_rows.specs.Spelling.{id_of, body_of, row_of}
use Rattle.record_rows.specs.Fits.{Fits}

-- the row is that of a record within the bounds
abbrev pub IsRowOf : Row → Rec → Type 0
IsRowOf row rec = Fits rec × (row ≡ row_of rec)

-- records have the kinds 1 to 16
abbrev pub IsKind : ℕ → Type 0
IsKind kind = (kinds.SETTINGS ≤ kind) × (kind ≤ kinds.TARIFF)

abbrev pub IsNoKind : ℕ → Type 0
IsNoKind kind = (kind < kinds.SETTINGS) ⊎ (kinds.TARIFF < kind)

-- some record of the row's kind has its id
abbrev pub HasId : Row → Type 0
HasId row = (rec : Rec) × Fits rec × (kind_of rec ≡ row.kind) × (id_of rec ≡ row.id)

-- no record of the row's kind has its id
abbrev pub HasNoId : Row → Type 0
HasNoId row = (rec : Rec) → Fits rec → kind_of rec ≡ row.kind → id_of rec ≢ row.id

-- no record of the row's kind has its body
abbrev pub HasNoBody : Row → Type 0
HasNoBody row = (rec : Rec) → Fits rec → kind_of rec ≡ row.kind → body_of rec ≢ row.body

-- a row of a kind is read as the record that it is the row of, and else refused by the first cause
pub record IsRead (row : Row) (result : Result Rec RowErr) : Type 0 where
  pub found : IfOk result (λ rec. Fits rec × (row ≡ row_of rec))
  pub only : (rec : Rec) → Fits rec → row ≡ row_of rec → result ≢ Err no.NoMemory → result ≡ Ok rec
  pub kind : result ≢ Err no.Kind
  pub no_id : result ≡ Err no.Id → HasNoId row
  pub id_refused : HasNoId row → (result ≡ Err no.Id) ⊎ (result ≡ Err no.NoMemory)
  pub no_body : result ≡ Err no.Body → HasId row × HasNoBody row
  pub body_refused : HasId row → HasNoBody row → (result ≡ Err no.Body) ⊎ (result ≡ Err no.NoMemory)
