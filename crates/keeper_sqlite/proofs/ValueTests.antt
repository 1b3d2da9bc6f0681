-- What the tests and the casts of the three data statements come to.
use Rattle.std.proofs.Common.{◌≡◌, ℕ, ℤ, pos, Bool, true, false, cond, ◌&&◌, ◌||◌, List, [], ◌∷◌, None, Some, refl, ap, ◌∙◌, is_eq, int_cmp}
use Rattle.std.specs.Ordering.{nat_cmp}
use Rattle.std.specs.Cmp.Lexicographic.{slice_cmp}
use Rattle.sqlite.specs.declared.types.Value.{Value}
use Rattle.sqlite.specs.declared.types.Value.TheVariants.{Null, Int, Blob}
use Rattle.sqlite.specs.Order.{value_cmp}
use Rattle.sqlite.specs.Ops.{unary, binary, is_true, from_truth}
use Rattle.sqlite.specs.Kind.TheVariants.{Integer}
use Rattle.sqlite.specs.Cast.{cast, cast_row}
use Rattle.sqlite_sql.specs.declared.ops.BinaryOp.TheVariants.{Compare}
use Rattle.sqlite_sql.specs.declared.ops.CompareOp.TheVariants.{Eq}
use Rattle.sqlite_value.specs.declared.keys.Collation.TheVariants.{Binary}
use Rattle.sqlite_value.specs.Keys.{first_key}
use Rattle.sqlite_value.proofs.OrderLemmas.{value_cmp-Int, value_cmp-Blob}
use Rattle.sqlite_rules.specs.Keys.{conflicts}
use Rattle.keeper_sqlite.specs.Table.{record_table, record_schema}
use Rattle.keeper_sqlite.specs.Records.{stored}

truth_is : (b : Bool) → is_true (from_truth (Some b)) ≡ b
truth_is true = refl
truth_is false = refl

pub eq_int : (m n : ℤ) → is_true (binary (Compare Eq Binary) (Int m) (Int n)) ≡ is_eq (int_cmp m n)
unfolding binary
eq_int m n = truth_is (is_eq (value_cmp (Int m) (Int n))) ∙ ap is_eq (value_cmp-Int m n)

pub eq_blob : (s t : List ℕ) → is_true (binary (Compare Eq Binary) (Blob s) (Blob t)) ≡ is_eq (slice_cmp nat_cmp s t)
unfolding binary
eq_blob s t = truth_is (is_eq (value_cmp (Blob s) (Blob t))) ∙ ap is_eq (value_cmp-Blob s t)

shape : (a b c : Bool) → ((true && (a && true)) || ((true && (true && (b && (c && true)))) || false)) ≡ (a || (b && c))
shape true b c = refl
shape false true true = refl
shape false true false = refl
shape false false c = refl

pub conflict_is : (at to : ℤ) (k l : ℕ) (i j b d : List ℕ)
    → conflicts None record_schema.indexes record_table (stored to l j d) (stored at k i b) ≡ (is_eq (int_cmp at to) || (is_eq (int_cmp (pos k) (pos l)) && is_eq (slice_cmp nat_cmp i j)))
unfolding first_key
conflict_is at to k l i j b d = rw (eq_int at to, eq_int (pos k) (pos l), eq_blob i j) (shape (is_eq (int_cmp at to)) (is_eq (int_cmp (pos k) (pos l))) (is_eq (slice_cmp nat_cmp i j)))

either : (b : Bool) (x : Value) → cond b x x ≡ x
either true x = refl
either false x = refl

pub cast_null : cast Integer Null ≡ Null
unfolding unary
cast_null = either _ Null

pub cast_int : (n : ℤ) → cast Integer (Int n) ≡ Int n
unfolding unary
cast_int n = either _ (Int n)

pub cast_again : (at : ℤ) (k : ℕ) (i b : List ℕ) → cast_row record_table (stored at k i b) ≡ stored at k i b
cast_again at k i b = rw (cast_int at, cast_int (pos k))

pub cast_source : (k : ℕ) (i b : List ℕ) → cast_row record_table (Null ∷ Int (pos k) ∷ Blob i ∷ Blob b ∷ []) ≡ Null ∷ Int (pos k) ∷ Blob i ∷ Blob b ∷ []
cast_source k i b = rw (cast_null, cast_int (pos k))
