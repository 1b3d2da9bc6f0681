-- What holds of every spelling, and of every kind of records.
use Rattle.std.specs.Prelude.{◌≡◌, ℕ, List, ◌++◌, length}
use Rattle.std.specs.Ordering.{nat_cmp}
use Rattle.std.specs.Cmp.Lexicographic.{slice_cmp}
use Rattle.record_kinds.specs.declared.rec.Rec.{Rec}
use Rattle.record_kinds.specs.Kinds.{kind_of}
use Rattle.record_rows.specs.Spelling.{id_of, body_of, row_of}
use Rattle.record_rows.specs.Fits.{Fits}
use Rattle.record_rows.specs.Ranks.{rank_of}
pub mod Apart
pub mod Order
pub mod Ids
pub mod Records
pub mod Requests
pub mod Kinds

-- where bytes begin with two spellings, both are of one value, and the same is left
pub record AreApart {A : Type 0} (spelling : A → List ℕ) (IsFit : A → Type 0) : Type 0 where
  pub one : (x y : A) (r s : List ℕ) → IsFit x → IsFit y → spelling x ++ r ≡ spelling y ++ s → (x ≡ y) × (r ≡ s)

-- all spellings have one length, and stand byte by byte as their ranks do
pub record StandByRank {A : Type 0} (spelling : A → List ℕ) (IsFit : A → Type 0) (rank : A → ℕ) : Type 0 where
  pub long : (x y : A) → length (spelling x) ≡ length (spelling y)
  pub order : (x y : A) → IsFit x → IsFit y → slice_cmp nat_cmp (spelling x) (spelling y) ≡ nat_cmp (rank x) (rank y)

-- the records of a kind are those of an id and a body, whose bounds are apart
pub record AreMade {I B : Type 0} (kind : ℕ) (made : I → B → Rec)
    (id : I → List ℕ) (IsId : I → Type 0) (rank : I → ℕ) (body : B → List ℕ) (IsBody : B → Type 0) : Type 0 where
  pub row : (i : I) (b : B) → row_of (made i b) ≡ record { kind = kind; id = id i; body = body b }
  pub ranked : (i : I) (b : B) → rank_of (made i b) ≡ rank i
  pub parted : (i : I) (b : B) → Fits (made i b) → IsId i × IsBody b
  pub joined : (i : I) (b : B) → IsId i → IsBody b → Fits (made i b)
  pub whole : (rec : Rec) → kind_of rec ≡ kind → (i : I) × (b : B) × (rec ≡ made i b)

-- what is told apart by bytes among the records of a kind
pub record IsToldApart (kind : ℕ) : Type 0 where
  -- a row is that of one record
  pub one : (x y : Rec) → kind_of x ≡ kind → kind_of y ≡ kind → Fits x → Fits y → row_of x ≡ row_of y → x ≡ y
  -- no spelling is a front of another
  pub ids : (x y : Rec) (r s : List ℕ) → kind_of x ≡ kind → kind_of y ≡ kind → Fits x → Fits y
      → id_of x ++ r ≡ id_of y ++ s → (id_of x ≡ id_of y) × (r ≡ s)
  pub bodies : (x y : Rec) (r s : List ℕ) → kind_of x ≡ kind → kind_of y ≡ kind → Fits x → Fits y
      → body_of x ++ r ≡ body_of y ++ s → (body_of x ≡ body_of y) × (r ≡ s)
  -- ids stand as the ranks do
  pub order : (x y : Rec) → kind_of x ≡ kind → kind_of y ≡ kind → Fits x → Fits y
      → slice_cmp nat_cmp (id_of x) (id_of y) ≡ nat_cmp (rank_of x) (rank_of y)
