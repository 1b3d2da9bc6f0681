-- What a body reads as.
use Rattle.std.proofs.Common.{◌≡◌, ℕ, List, refl, ◌∙◌, ap, Bool, true, false, cond, Option, Some, None, IsUtf8}
use Rattle.std.specs.Str.{is_utf8}
use Rattle.std.proofs.lemmas.Str.{IsUtf8-from_is_utf8, is_utf8-from_IsUtf8}
use Rattle.serde_json.specs.Data.{Data}
use Rattle.serde_json.specs.Read.{read}
use Rattle.http_edge.specs.Fields.{reading}

pub reading_some : (body : List ℕ) (d : Data) → IsUtf8 body → read body ≡ Some d → reading body ≡ Some d
reading_some body d u e = ap (λ b. cond b (read body) None) (is_utf8-from_IsUtf8 body u) ∙ e

none_by : (b : Bool) (o : Option Data) → (b ≡ true → o ≡ None) → cond b o None ≡ None
none_by true o h = h refl
none_by false o h = refl

pub reading_none : (body : List ℕ) → (IsUtf8 body → read body ≡ None) → reading body ≡ None
reading_none body h = none_by (is_utf8 body) (read body) (λ e. h (IsUtf8-from_is_utf8 body e))
