-- What a reference to an element of a list leads to, if there is one.
use Rattle.std.proofs.Common.{◌≡◌, ℕ, List, length, Option, Some, None, Bor, option_copied, refl, sym}
use Rattle.std.specs.Prelude.{slice_get}
use Rattle.std.specs.Slice.{IsItemAt}
use Rattle.std.proofs.lemmas.Option.{slice_get_past, slice_get_read}

pub copied_at : {X : Type 0} (xs : List X) (i : ℕ) (item : Option (Bor X)) → IsItemAt xs i item → option_copied item ≡ slice_get xs i
copied_at xs i None is = sym (slice_get_past xs i is.3)
copied_at xs i (Some x) is = sym (slice_get_read xs (length xs) i x.now refl is.3.0 is.1)
