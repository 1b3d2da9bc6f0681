-- Headers of a name, one after the other.
use Rattle.std.proofs.Common.{◌≡◌, ℕ, ◌+◌, ◌<◌, ◌↔◌, List, [], ◌∷◌, length, drop, map, refl, ap, arith, Bool, true, false, IsTrue, cond, Option, Some, None, add-one, get_or}
use Rattle.std.specs.Cmp.Lexicographic.{same_text, other_text}
use Rattle.std.specs.Str.{bytes_eq}
use Rattle.std.proofs.Math.Seq.{drop-cons}
use Rattle.httparse.specs.Spans.{header_bytes}
use Rattle.httparse.specs.declared.spans.HeaderSpan.{HeaderSpan}
use Rattle.http_parts.specs.Headers.{is_named, values_named, value_named}

decided : (b v : Bool) (xs ys : List ℕ) → (IsTrue b ↔ (xs ≡ ys)) → v ≡ bytes_eq xs ys → v ≡ b
decided true true xs ys h e = refl
decided true false xs ys h e = absurd (other_text xs ys e (h.0 refl))
decided false true xs ys h e = let no : IsTrue false = h.1 (same_text xs ys e) in cc
decided false false xs ys h e = refl

-- a test of two texts, as the function of the definitions
pub text_test : (b : Bool) (xs ys : List ℕ) → (IsTrue b ↔ (xs ≡ ys)) → bytes_eq xs ys ≡ b
text_test b xs ys h = decided b (bytes_eq xs ys) xs ys h refl

-- one header more
pub front_header : (buf : List ℕ) (hs : List HeaderSpan) (i : ℕ) (d : HeaderSpan) → i < length hs → map (header_bytes buf) (drop i hs) ≡ header_bytes buf (get_or hs i d) ∷ map (header_bytes buf) (drop (i + 1) hs)
front_header buf hs i d h = rw (add-one) (ap (map (header_bytes buf)) (drop-cons hs i d h))

-- what the loop reads past the last header
abbrev pub no_header : HeaderSpan
no_header = record { name = record { start = 0; end = 0 }; value = record { start = 0; end = 0 } }

pub count_yes : (name buf : List ℕ) (hs : List HeaderSpan) (i : ℕ) (d : HeaderSpan) → i < length hs → is_named name (header_bytes buf (get_or hs i d)) ≡ true
    → length (values_named name (map (header_bytes buf) (drop i hs))) ≡ 1 + length (values_named name (map (header_bytes buf) (drop (i + 1) hs)))
count_yes name buf hs i d h e = rw (front_header buf hs i d h, e) (omega arith)

pub count_no : (name buf : List ℕ) (hs : List HeaderSpan) (i : ℕ) (d : HeaderSpan) → i < length hs → is_named name (header_bytes buf (get_or hs i d)) ≡ false
    → length (values_named name (map (header_bytes buf) (drop i hs))) ≡ length (values_named name (map (header_bytes buf) (drop (i + 1) hs)))
count_no name buf hs i d h e = rw (front_header buf hs i d h, e) refl

pub first_yes : (name buf : List ℕ) (hs : List HeaderSpan) (i : ℕ) (d : HeaderSpan) → i < length hs → is_named name (header_bytes buf (get_or hs i d)) ≡ true
    → value_named name (map (header_bytes buf) (drop i hs)) ≡ Some (header_bytes buf (get_or hs i d)).1
first_yes name buf hs i d h e = rw (front_header buf hs i d h, e) refl

pub first_no : (name buf : List ℕ) (hs : List HeaderSpan) (i : ℕ) (d : HeaderSpan) → i < length hs → is_named name (header_bytes buf (get_or hs i d)) ≡ false
    → value_named name (map (header_bytes buf) (drop i hs)) ≡ value_named name (map (header_bytes buf) (drop (i + 1) hs))
first_no name buf hs i d h e = rw (front_header buf hs i d h, e) refl

-- ---- the first value, and all

abbrev pub first : List (List ℕ) → Option (List ℕ)
first [] = None
first (v ∷ vs) = Some v

first_step : (b : Bool) (v : List ℕ) (vs : List (List ℕ)) (o : Option (List ℕ)) → o ≡ first vs → cond b (Some v) o ≡ first (cond b (v ∷ vs) vs)
first_step true v vs o e = refl
first_step false v vs o e = e

-- the first header of a name has the first of their values
pub first_is : (name : List ℕ) (hs : List (List ℕ × List ℕ)) → value_named name hs ≡ first (values_named name hs)
first_is name [] = refl
first_is name (h ∷ hs) = first_step (is_named name h) h.1 (values_named name hs) (value_named name hs) (first_is name hs)
