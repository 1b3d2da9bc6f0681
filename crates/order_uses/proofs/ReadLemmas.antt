-- A row is read as the use that it is of, and else as none.
use Rattle.std.proofs.Common.{◌≡◌, ℕ, zero, suc, ◌+◌, ◌^◌, ◌<◌, Bool, true, false, cond, ◌&&◌, nat_eq, List, [], ◌∷◌, ◌++◌, length, get_or, Option, Some, None, Result, Ok, Err, IfSome, refl, sym, ap, subst, ◌∙◌, arith, append_assoc, length-append}
use Rattle.std.specs.Prelude.{◌==◌, nat_le}
use Rattle.std.specs.Cmp.Lexicographic.{pointwise, same_text, nat_list_eq_equiv}
use Rattle.std.specs.Int.{w64, to_be_bytes, from_be_bytes}
use Rattle.std.proofs.lemmas.Bool.{and_parts, eqb-true, eq-eqb, leb-true, le-leb}
use Rattle.std.proofs.lemmas.Nat.{from_be_bytes-to_be_bytes_8}
use Rattle.std.proofs.lemmas.Option.{same_Some}
use Rattle.sat_base.specs.declared.rows.Row.{Row}
use Rattle.order_limits.specs.Part.{part}
use Rattle.order_limits.specs.Read.{number_in, offer_of}
use Rattle.order_limits.specs.declared.limit.Order.{Order}
use Rattle.order_limits.specs.declared.read.OrderErr.{OrderErr}
use Rattle.order_limits.proofs.Fields.{IsBytes, IsBytes-part, part-join, part-whole, part-one, word_back}
use Rattle.order_limits.proofs.Reading.{offer_fits, offer_long, part-first, part-second}
use Rattle.order_uses.specs.Opening.{HasSerial, IsUse}
use Rattle.order_uses.specs.Reading.{flag_in, use_made, use_flagged, use_in}
use Rattle.order_uses.specs.Rows.{flag, use_body, use_id, row_of_use}
use Rattle.order_uses.specs.Uses.{IsUnderKey}
use Rattle.order_uses.specs.declared.row.OrderUse.{OrderUse}

-- a test that was passed
if_then : {A : Type 0} (b : Bool) (x : Option A) (y : A) → cond b x None ≡ Some y → (b ≡ true) × (x ≡ Some y)
if_then true x y e = (refl, e)
if_then false x y e = absurd cc

-- ---- bodies

last_at : (xs : List ℕ) (y n : ℕ) → length xs ≡ n → get_or (xs ++ y ∷ []) n 0 ≡ y
last_at [] y zero h = refl
last_at [] y (suc n) h = absurd (omega (arith, h))
last_at (x ∷ xs) y zero h = absurd (omega (arith, h))
last_at (x ∷ xs) y (suc n) h = last_at xs y n (omega (arith, h))

module _ (order : List ℕ) (served : ℕ) (done : Bool) (long : length order ≡ 123) where
  length-front : length (order ++ to_be_bytes w64 served) ≡ 131
  length-front = omega (arith, length-append order (to_be_bytes w64 served))

  length-body : length (use_body order served done) ≡ 132
  unfolding use_body
  length-body = omega (arith, length-append (order ++ to_be_bytes w64 served) (flag done ∷ []), length-front)

  body-order : part 0 123 (use_body order served done) ≡ order
  unfolding use_body
  body-order = ap (part 0 123) (append_assoc order (to_be_bytes w64 served) (flag done ∷ [])) ∙ part-first order (to_be_bytes w64 served ++ flag done ∷ []) 123 long

  body-served : served < 2 ^ 64 → number_in w64 123 (use_body order served done) ≡ served
  unfolding use_body
  body-served fits = ap (from_be_bytes w64) (part-second order (to_be_bytes w64 served) (flag done ∷ []) 123 8 long refl) ∙ from_be_bytes-to_be_bytes_8 served fits

  body-flag : get_or (use_body order served done) 131 0 ≡ flag done
  unfolding use_body
  body-flag = last_at (order ++ to_be_bytes w64 served) (flag done) 131 length-front

-- a body of its length is that of its parts
body_back : (body : List ℕ) (done : Bool) → IsBytes body → length body ≡ 132 → flag done ≡ get_or body 131 0 → use_body (part 0 123 body) (number_in w64 123 body) done ≡ body
unfolding use_body
body_back body done fits len is =
    let word = word_back 123 body fits (omega arith) in
    let last : flag done ∷ [] ≡ part 131 1 body = ap (λ (n : ℕ). n ∷ []) is ∙ part-one 131 body (omega arith) in
    ap (λ (w : List ℕ). part 0 123 body ++ w ++ flag done ∷ []) word ∙ ap (λ (l : List ℕ). part 0 123 body ++ part 123 8 body ++ l) last
    ∙ ap (λ (l : List ℕ). l ++ part 131 1 body) (part-join 0 123 8 body) ∙ part-join 0 131 1 body ∙ part-whole 132 body len

flag_back : (n : ℕ) (done : Bool) → flag_in n ≡ Some done → flag done ≡ n
flag_back zero done e = ap flag (same_Some done false (sym e))
flag_back (suc zero) done e = ap flag (same_Some done true (sym e))
flag_back (suc (suc n)) done e = absurd cc

flag_again : (done : Bool) → flag_in (flag done) ≡ Some done
flag_again true = refl
flag_again false = refl

-- ---- what is read is a use

record IsReadAs (key id order : List ℕ) (served : ℕ) (done : Bool) (one : OrderUse) : Type 0 where
  under : IsUnderKey key one
  serial : HasSerial one
  id_is : id ≡ use_id one.serial.0
  order_is : order ≡ one.order
  served_is : served ≡ one.served
  done_is : done ≡ one.done

abbrev made_of : Order → List ℕ → ℕ → Bool → OrderUse
made_of offer order served done = record { serial = offer.limit.serial; order = order; served = served; done = done }

made_found : (key id order : List ℕ) (served : ℕ) (done : Bool) (r : Result Order OrderErr) (one : OrderUse) → IsBytes order → offer_of key order ≡ r → use_made id order served done r ≡ Some one
    → IsReadAs key id order served done one
made_found key id order served done (Ok offer) one fits is e =
    let t = if_then (pointwise nat_eq id (use_id offer.limit.serial.0) && nat_le served offer.amount && nat_le offer.amount offer.limit.limit) (Some (made_of offer order served done)) one e in
    let both = and_parts _ _ t.0 in
    let first = and_parts _ _ both.0 in
    let same : made_of offer order served done ≡ one = same_Some _ _ t.1 in
    subst (IsReadAs key id order served done) same (record {
      under = record { order = offer; offered = is; own = refl; served = leb-true _ _ first.1; within = leb-true _ _ both.1 };
      serial = (offer_fits key order offer fits is).limit_fits.serial;
      id_is = same_text _ _ (sym first.0);
      order_is = refl;
      served_is = refl;
      done_is = refl;
    })
made_found key id order served done (Err err) one fits is e = absurd cc

same_body : (o p : List ℕ) (s t : ℕ) (d f : Bool) → o ≡ p → s ≡ t → d ≡ f → use_body o s d ≡ use_body p t f
same_body o p s t d f e g h = rw (e, g, h) refl

abbrev row_made : ℕ → List ℕ → List ℕ → Row
row_made kind id body = record { kind = kind; id = id; body = body }

same_row : (k m : ℕ) (i j b c : List ℕ) → k ≡ m → i ≡ j → b ≡ c → row_made k i b ≡ row_made m j c
same_row k m i j b c e f g = rw (e, f, g) refl

abbrev Found : List ℕ → Row → OrderUse → Type 0
Found key row one = IsUnderKey key one × (row ≡ row_of_use one) × HasSerial one

flagged_found : (key : List ℕ) (row : Row) (one : OrderUse) → IsBytes row.body → row.kind ≡ 50 → length row.body ≡ 132
    → (f : Option Bool) → flag_in (get_or row.body 131 0) ≡ f → use_flagged key row f ≡ Some one → Found key row one
flagged_found key row one fits kind len (Some done) flagged e =
    let body = row.body in
    let read = made_found key row.id (part 0 123 body) (number_in w64 123 body) done (offer_of key (part 0 123 body)) one (IsBytes-part 0 123 body fits) refl e in
    let back = body_back body done fits len (flag_back _ done flagged) in
    let body_is : body ≡ use_body one.order one.served one.done = sym back ∙ same_body _ _ _ _ _ _ read.order_is read.served_is read.done_is in
    (read.under, same_row row.kind 50 row.id (use_id one.serial.0) body (use_body one.order one.served one.done) kind read.id_is body_is, read.serial)
flagged_found key row one fits kind len None flagged e = absurd cc

use_found : (key : List ℕ) (row : Row) (one : OrderUse) → IsBytes row.body → use_in key row ≡ Some one → Found key row one
unfolding use_in
use_found key row one fits e =
    let t = if_then (row.kind == 50 && length row.body == 132) (use_flagged key row (flag_in (get_or row.body 131 0))) one e in
    let both = and_parts _ _ t.0 in
    flagged_found key row one fits (eqb-true _ _ both.0) (eqb-true _ _ both.1) (flag_in (get_or row.body 131 0)) refl t.1

-- ---- and a use is read

use_again : (key : List ℕ) (one : OrderUse) → IsBytes (use_body one.order one.served one.done) → IsUnderKey key one → use_in key (row_of_use one) ≡ Some one
unfolding use_in
use_again key one fits under =
    let body = use_body one.order one.served one.done in
    let long : length one.order ≡ 123 = offer_long key one.order under.order under.offered in
    let first : part 0 123 body ≡ one.order = body-order one.order one.served one.done long in
    let bytes : IsBytes one.order = subst IsBytes first (IsBytes-part 0 123 body fits) in
    let offer = offer_fits key one.order under.order bytes under.offered in
    let small : one.served < 2 ^ 64 = omega (arith, under.served, offer.amount) in
    let served : number_in w64 123 body ≡ one.served = body-served one.order one.served one.done long small in
    let flagged : get_or body 131 0 ≡ flag one.done = body-flag one.order one.served one.done long in
    rw (eq-eqb _ _ (length-body one.order one.served one.done long), flagged, flag_again one.done, first, served, under.offered, under.own, nat_list_eq_equiv.refl (use_id one.serial.0), le-leb _ _ under.served, le-leb _ _ under.within) refl

pub if_found : (key : List ℕ) (row : Row) (r : Option OrderUse) → IsBytes row.body → r ≡ use_in key row → IfSome r (λ one. IsUnderKey key one × (row ≡ row_of_use one))
if_found key row (Some one) fits e = let found = use_found key row one fits (sym e) in (found.0, found.1)
if_found key row None fits e = tt

pub if_serial : (key : List ℕ) (row : Row) (r : Option OrderUse) → IsBytes row.body → r ≡ use_in key row → IfSome r HasSerial
if_serial key row (Some one) fits e = (use_found key row one fits (sym e)).2
if_serial key row None fits e = tt

pub if_none : (key : List ℕ) (row : Row) (r : Option OrderUse) → IsBytes row.body → r ≡ use_in key row → r ≡ None → IsUse key row → ⊥
if_none key row r fits e none (one, under, is) =
    let again : use_in key (row_of_use one) ≡ Some one = use_again key one (subst (λ (w : Row). IsBytes w.body) is fits) under in
    let gone : use_in key (row_of_use one) ≡ None = ap (use_in key) (sym is) ∙ sym e ∙ none in
    cc
