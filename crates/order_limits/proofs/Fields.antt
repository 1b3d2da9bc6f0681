-- The fields of a limit are read where the bytes are a limit's, and only there.
use Rattle.std.proofs.Common.{◌≡◌, ℕ, zero, suc, ◌+◌, ◌^◌, ◌<◌, ◌≤◌, Bool, true, false, cond, List, [], ◌∷◌, ◌++◌, length, get_or, take, drop, Option, Some, None, Result, Ok, Err, refl, sym, ap, subst, ◌∙◌, arith, inl, inr, nat_eq}
use Rattle.std.specs.Int.{w32, w64, to_be_bytes}
use Rattle.std.proofs.lemmas.Bool.{cases_lt, eqb-true}
use Rattle.std.proofs.lemmas.List.{length-take, length-drop, get_or-drop, get_or-take, get_or_past, take_all, drop-drop}
use Rattle.std.proofs.Math.Seq.{take-add, drop-cons}
use Rattle.std.proofs.lemmas.Nat.{be_bytes_4, be_bytes_8, from_be_bytes-to_be_bytes_4, from_be_bytes-to_be_bytes_8}
use Rattle.std.proofs.lemmas.Option.{same_Some}
use Rattle.order_limits.specs.Part.{part}
use Rattle.order_limits.specs.declared.limit.Action.{Action}
use Rattle.order_limits.specs.declared.limit.Action.TheVariants.{Put, Get, GetAudit, GetRepair, PutRepair}
use Rattle.order_limits.specs.declared.limit.Limit.{Limit}
use Rattle.order_limits.specs.declared.read.OrderErr.{OrderErr}
use Rattle.order_limits.specs.declared.read.OrderErr.TheVariants as no
use Rattle.order_limits.specs.Order.{action_byte, action_of, limit_body, FitsLimit}
use Rattle.order_limits.specs.Read.{number_in, limit_in, with_action, fields_of}

abbrev pub IsBytes : List ℕ → Type 0
IsBytes bytes = (i : ℕ) → get_or bytes i 0 < 256

-- a test that was passed
pub test_ok : {A : Type 0} (b : Bool) (r : Result A OrderErr) (e : OrderErr) (y : A) → cond b r (Err e) ≡ Ok y → (b ≡ true) × (r ≡ Ok y)
test_ok true r e y h = (refl, h)
test_ok false r e y h = absurd cc

-- ---- parts

pub IsBytes-part : (at len : ℕ) (bytes : List ℕ) → IsBytes bytes → IsBytes (part at len bytes)
unfolding part
IsBytes-part at len bytes h i =
    elim (cases_lt i len) [
      | inl lt ↦ rw (get_or-take len (drop at bytes) i 0 lt, get_or-drop at bytes i 0) (h (at + i))
      | inr le ↦ rw (get_or_past (take len (drop at bytes)) i 0 (omega (arith, length-take len (drop at bytes)))) (omega arith)
    ]

pub length-part : (at len : ℕ) (bytes : List ℕ) → at + len ≤ length bytes → length (part at len bytes) ≡ len
unfolding part
length-part at len bytes le = omega (arith, length-take len (drop at bytes), length-drop at bytes)

-- two parts side by side are one
pub part-join : (at m n : ℕ) (bytes : List ℕ) → part at m bytes ++ part (at + m) n bytes ≡ part at (m + n) bytes
unfolding part
part-join at m n bytes = rw (take-add m n (drop at bytes), drop-drop m at bytes) refl

pub part-whole : (n : ℕ) (bytes : List ℕ) → length bytes ≡ n → part 0 n bytes ≡ bytes
unfolding part
part-whole n bytes h = take_all n bytes (omega arith)

pub part-one : (at : ℕ) (bytes : List ℕ) → at < length bytes → get_or bytes at 0 ∷ [] ≡ part at 1 bytes
unfolding part
part-one at bytes lt = rw (drop-cons bytes at 0 lt) refl

pub word_back : (at : ℕ) (bytes : List ℕ) → IsBytes bytes → at + 8 ≤ length bytes → to_be_bytes w64 (number_in w64 at bytes) ≡ part at 8 bytes
word_back at bytes fits le = be_bytes_8 (part at 8 bytes) _ (length-part at 8 bytes le) (IsBytes-part at 8 bytes fits) refl

pub half_back : (at : ℕ) (bytes : List ℕ) → IsBytes bytes → at + 4 ≤ length bytes → to_be_bytes w32 (number_in w32 at bytes) ≡ part at 4 bytes
half_back at bytes fits le = be_bytes_4 (part at 4 bytes) _ (length-part at 4 bytes le) (IsBytes-part at 4 bytes fits) refl

-- ---- small tools

abbrev done : Limit → Result Limit OrderErr
done x = Ok x

ok_is : (a b : Limit) → done a ≡ done b → a ≡ b
ok_is a b e = cc

ap2 : {p q x y : List ℕ} → p ≡ x → q ≡ y → p ++ q ≡ x ++ y
ap2 e f = rw (e, f) refl

nine : {a b c d e f g h i a' b' c' d' e' f' g' h' i' : List ℕ} → a ≡ a' → b ≡ b' → c ≡ c' → d ≡ d' → e ≡ e' → f ≡ f' → g ≡ g' → h ≡ h' → i ≡ i'
    → a ++ b ++ c ++ d ++ e ++ f ++ g ++ h ++ i ≡ a' ++ b' ++ c' ++ d' ++ e' ++ f' ++ g' ++ h' ++ i'
nine p1 p2 p3 p4 p5 p6 p7 p8 p9 = ap2 (ap2 (ap2 (ap2 (ap2 (ap2 (ap2 (ap2 p1 p2) p3) p4) p5) p6) p7) p8) p9

with_action_ok : (o : Option Action) (b : List ℕ) (l : Limit) → with_action o b ≡ Ok l → (a : Action) × (o ≡ Some a) × (limit_in a b ≡ l)
with_action_ok None b l e = absurd cc
with_action_ok (Some a) b l e = (a, refl, ok_is _ _ e)

abbrev limit_made : Action → ℕ → ℕ → ℕ → ℕ → ℕ → ℕ → ℕ → ℕ → Limit
limit_made a i s n g l t x c = record { action = a; serial = record { 0 = s }; node = record { 0 = n }; segment = record { 0 = g }; index = i; limit = l; issued = t; expires = x; customer = record { 0 = c } }

same_limit : (a : Action) (i : ℕ) {s n g l t x c s' n' g' l' t' x' c' : ℕ} → s ≡ s' → n ≡ n' → g ≡ g' → l ≡ l' → t ≡ t' → x ≡ x' → c ≡ c' → limit_made a i s n g l t x c ≡ limit_made a i s' n' g' l' t' x' c'
same_limit a i e1 e2 e3 e4 e5 e6 e7 = rw (e1, e2, e3, e4, e5, e6, e7) refl

-- ---- actions

pub action_back : (n : ℕ) (a : Action) → action_of n ≡ Some a → action_byte a ≡ n
action_back zero a e = absurd cc
action_back (suc zero) a e = ap action_byte (same_Some _ _ (sym e))
action_back (suc (suc zero)) a e = ap action_byte (same_Some _ _ (sym e))
action_back (suc (suc (suc zero))) a e = ap action_byte (same_Some _ _ (sym e))
action_back (suc (suc (suc (suc zero)))) a e = ap action_byte (same_Some _ _ (sym e))
action_back (suc (suc (suc (suc (suc zero))))) a e = ap action_byte (same_Some _ _ (sym e))
action_back (suc (suc (suc (suc (suc (suc n)))))) a e = absurd cc

action_again : (a : Action) → action_of (action_byte a) ≡ Some a
action_again Put = refl
action_again Get = refl
action_again GetAudit = refl
action_again GetRepair = refl
action_again PutRepair = refl

-- ---- fields

-- the limit at its places is written as it stands
body_of : (a : Action) (b : List ℕ) → IsBytes b → length b ≡ 51 → get_or b 0 0 ≡ 1 → get_or b 1 0 ≡ action_byte a → limit_body (limit_in a b) ≡ b
unfolding limit_body
body_of a b fits len v act =
    let two : 1 ∷ action_byte a ∷ [] ≡ part 0 2 b = rw (← v, ← act) (ap2 (part-one 0 b (omega arith)) (part-one 1 b (omega arith)) ∙ part-join 0 1 1 b) in
    let one : get_or b 22 0 ∷ [] ≡ part 22 1 b = part-one 22 b (omega arith) in
    let parts : part 0 2 b ++ part 2 8 b ++ part 10 4 b ++ part 14 8 b ++ part 22 1 b ++ part 23 8 b ++ part 31 8 b ++ part 39 8 b ++ part 47 4 b ≡ b =
    rw (part-join 0 2 8 b, part-join 0 10 4 b, part-join 0 14 8 b, part-join 0 22 1 b, part-join 0 23 8 b, part-join 0 31 8 b, part-join 0 39 8 b, part-join 0 47 4 b) (part-whole 51 b len) in
    nine two (word_back 2 b fits (omega arith)) (half_back 10 b fits (omega arith)) (word_back 14 b fits (omega arith)) one
    (word_back 23 b fits (omega arith)) (word_back 31 b fits (omega arith)) (word_back 39 b fits (omega arith)) (half_back 47 b fits (omega arith)) ∙ parts

pub fields_found : (b : List ℕ) (l : Limit) → IsBytes b → length b ≡ 51 → fields_of b ≡ Ok l → limit_body l ≡ b
unfolding fields_of
fields_found b l fits len e =
    let v = test_ok (nat_eq (get_or b 0 0) 1) (with_action (action_of (get_or b 1 0)) b) (no.Version (get_or b 0 0)) l e in
    let a = with_action_ok (action_of (get_or b 1 0)) b l v.1 in
    subst (λ x. limit_body x ≡ b) a.2 (body_of a.0 b fits len (eqb-true _ _ v.0) (sym (action_back _ _ a.1)))

pub fields_again : (l : Limit) → FitsLimit l → fields_of (limit_body l) ≡ Ok l
unfolding fields_of limit_body part
fields_again l f =
    rw (action_again l.action) (ap done (same_limit l.action l.index
    (from_be_bytes-to_be_bytes_8 l.serial.0 f.serial) (from_be_bytes-to_be_bytes_4 l.node.0 f.node) (from_be_bytes-to_be_bytes_8 l.segment.0 f.segment)
    (from_be_bytes-to_be_bytes_8 l.limit f.limit) (from_be_bytes-to_be_bytes_8 l.issued f.issued) (from_be_bytes-to_be_bytes_8 l.expires f.expires) (from_be_bytes-to_be_bytes_4 l.customer.0 f.customer)))

-- ---- ranges

pub number64_fits : (at : ℕ) (bytes : List ℕ) → IsBytes bytes → number_in w64 at bytes < 2 ^ 64
number64_fits at bytes fits =
    let each = IsBytes-part at 8 bytes fits in
    omega (arith, each 0, each 1, each 2, each 3, each 4, each 5, each 6, each 7)

number32_fits : (at : ℕ) (bytes : List ℕ) → IsBytes bytes → number_in w32 at bytes < 2 ^ 32
number32_fits at bytes fits =
    let each = IsBytes-part at 4 bytes fits in
    omega (arith, each 0, each 1, each 2, each 3)

-- the fields that are read fit their types
pub fields_fit : (b : List ℕ) (l : Limit) → IsBytes b → fields_of b ≡ Ok l → FitsLimit l
unfolding fields_of
fields_fit b l fits e =
    let v = test_ok (nat_eq (get_or b 0 0) 1) (with_action (action_of (get_or b 1 0)) b) (no.Version (get_or b 0 0)) l e in
    let a = with_action_ok (action_of (get_or b 1 0)) b l v.1 in
    subst FitsLimit a.2 (record {
      serial = number64_fits 2 b fits;
      node = number32_fits 10 b fits;
      segment = number64_fits 14 b fits;
      index = fits 22;
      limit = number64_fits 23 b fits;
      issued = number64_fits 31 b fits;
      expires = number64_fits 39 b fits;
      customer = number32_fits 47 b fits;
    })
