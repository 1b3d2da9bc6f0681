-- Limits and orders are read where the bytes are one, and only there.
use Rattle.std.proofs.Common.{◌≡◌, ℕ, List, ◌++◌, length, Result, Ok, Err, refl, sym, ap, subst, ◌∙◌, arith, nat_eq, append_assoc}
use Rattle.std.specs.Prelude.{IfOk}
use Rattle.std.specs.Cmp.Lexicographic.{pointwise, same_text, nat_list_eq_equiv}
use Rattle.std.specs.Int.{w64, to_be_bytes}
use Rattle.std.proofs.lemmas.Bool.{eqb-true, eq-eqb}
use Rattle.std.proofs.lemmas.Nat.{from_be_bytes-to_be_bytes_8}
use Rattle.std.proofs.lemmas.List.{length-append, take_at, drop_at, take_all}
use Rattle.order_limits.specs.Part.{part}
use Rattle.order_limits.specs.Hmac.{hmac}
use Rattle.order_limits.specs.Keys.{node_key, order_tag_of}
use Rattle.order_limits.specs.declared.limit.Limit.{Limit}
use Rattle.order_limits.specs.declared.limit.Order.{Order}
use Rattle.order_limits.specs.declared.read.OrderErr.{OrderErr}
use Rattle.order_limits.specs.declared.read.OrderErr.TheVariants as no
use Rattle.order_limits.specs.Order.{limit_body, limit_under, order_bytes, FitsLimit, FitsOrder, IsGoodLimit, IsGoodOrder, IsOffer}
use Rattle.order_limits.specs.Read.{number_in, fields_of, is_tag_of, limit_of, order_of, offer_of}
use Rattle.sat_base.specs.Results.{◌>>=◌}
use Rattle.order_limits.proofs.Pieces.{length-body, length-hmac, length-order_tag}
use Rattle.order_limits.proofs.Fields.{IsBytes, test_ok, fields_found, fields_fit, fields_again, number64_fits, IsBytes-part, length-part, part-join, part-whole, word_back}

pub bind_ok : {A B : Type 0} (r : Result A OrderErr) (f : A → Result B OrderErr) (y : B) → (r >>= f) ≡ Ok y → (x : A) × (r ≡ Ok x) × (f x ≡ Ok y)
bind_ok (Ok x) f y e = (x, refl, e)
bind_ok (Err d) f y e = absurd cc

abbrev done : {A : Type 0} → A → Result A OrderErr
done x = Ok x

ok_is : {A : Type 0} (a b : A) → done a ≡ done b → a ≡ b
ok_is a b e = cc

-- the first and the second piece, and a third
pub part-first : (a b : List ℕ) (n : ℕ) → length a ≡ n → part 0 n (a ++ b) ≡ a
unfolding part
part-first a b n h = take_at a b n h

pub part-second : (a b c : List ℕ) (n m : ℕ) → length a ≡ n → length b ≡ m → part n m (a ++ b ++ c) ≡ b
unfolding part
part-second a b c n m h k = rw (append_assoc a b c, drop_at a (b ++ c) n h) (take_at b c m k)

part-last : (a b : List ℕ) (n m : ℕ) → length a ≡ n → length b ≡ m → part n m (a ++ b) ≡ b
unfolding part
part-last a b n m h k = rw (drop_at a b n h) (take_all m b (omega arith))

-- ---- limits

limit_body_of : (key b : List ℕ) (l : Limit) → limit_body l ≡ part 0 51 b → part 51 32 b ≡ hmac key (part 0 51 b) → part 0 83 b ≡ limit_under key l
unfolding limit_under
limit_body_of key b l body tag = rw (body, ← tag) (sym (part-join 0 51 32 b))

pub limit_found : (key b : List ℕ) (l : Limit) → IsBytes b → limit_of key b ≡ Ok l → b ≡ limit_under key l
unfolding limit_of
limit_found key b l fits e =
    let t = test_ok (nat_eq (length b) 83) _ (no.Length (length b)) l e in
    let len : length b ≡ 83 = eqb-true _ _ t.0 in
    let f = bind_ok (fields_of (part 0 51 b)) _ l t.1 in
    let g = test_ok (is_tag_of (part 51 32 b) key (part 0 51 b)) (Ok f.0) no.LimitTag l f.2 in
    let body = fields_found (part 0 51 b) f.0 (IsBytes-part 0 51 b fits) (length-part 0 51 b (omega arith)) f.1 in
    rw (← ok_is _ _ g.1) (sym (part-whole 83 b len) ∙ limit_body_of key b f.0 body (same_text _ _ (sym g.0)))

pub limit_again : (key : List ℕ) (l : Limit) → FitsLimit l → limit_of key (limit_under key l) ≡ Ok l
unfolding limit_of limit_under
limit_again key l fits =
    let body : part 0 51 (limit_body l ++ hmac key (limit_body l)) ≡ limit_body l = part-first _ _ 51 (length-body l) in
    let tag : part 51 32 (limit_body l ++ hmac key (limit_body l)) ≡ hmac key (limit_body l) = part-last _ _ 51 32 (length-body l) (length-hmac key (limit_body l)) in
    let len : length (limit_body l ++ hmac key (limit_body l)) ≡ 83 = omega (arith, length-append (limit_body l) (hmac key (limit_body l)), length-body l, length-hmac key (limit_body l)) in
    rw (eq-eqb _ _ len, body, fields_again l fits, tag, nat_list_eq_equiv.refl (hmac key (limit_body l))) refl

-- ---- orders

abbrev order_made : Limit → ℕ → Order
order_made l n = record { limit = l; amount = n }

whole_order : (secret b : List ℕ) (l : Limit) → IsBytes b → length b ≡ 123 → part 0 83 b ≡ limit_under (node_key secret l.node) l → part 91 32 b ≡ order_tag_of secret l.serial l.node (number_in w64 83 b) → b ≡ order_bytes secret (order_made l (number_in w64 83 b))
unfolding order_bytes
whole_order secret b l fits len front tag =
    rw (← front, word_back 83 b fits (omega arith), ← tag) (sym (part-whole 123 b len) ∙ sym (ap (λ x. x ++ part 91 32 b) (part-join 0 83 8 b) ∙ part-join 0 91 32 b))

pub order_found : (secret b : List ℕ) (o : Order) → IsBytes b → order_of secret b ≡ Ok o → b ≡ order_bytes secret o
unfolding order_of
order_found secret b o fits e =
    let t = test_ok (nat_eq (length b) 123) _ (no.Length (length b)) o e in
    let len : length b ≡ 123 = eqb-true _ _ t.0 in
    let f = bind_ok (fields_of (part 0 51 b)) _ o t.1 in
    let l = f.0 in
    let g = test_ok (is_tag_of (part 51 32 b) (node_key secret l.node) (part 0 51 b)) _ no.LimitTag o f.2 in
    let h = test_ok (pointwise nat_eq (part 91 32 b) (order_tag_of secret l.serial l.node (number_in w64 83 b))) (Ok (order_made l (number_in w64 83 b))) no.OrderTag o g.1 in
    let body = fields_found (part 0 51 b) l (IsBytes-part 0 51 b fits) (length-part 0 51 b (omega arith)) f.1 in
    let front = limit_body_of (node_key secret l.node) b l body (same_text _ _ (sym g.0)) in
    rw (← ok_is _ _ h.1) (whole_order secret b l fits len front (same_text _ _ (sym h.0)))

-- the four parts of an order
record Parts (secret : List ℕ) (o : Order) (b : List ℕ) : Type 0 where
  len : length b ≡ 123
  body : part 0 51 b ≡ limit_body o.limit
  tag : part 51 32 b ≡ hmac (node_key secret o.limit.node) (limit_body o.limit)
  amount : part 83 8 b ≡ to_be_bytes w64 o.amount
  last : part 91 32 b ≡ order_tag_of secret o.limit.serial o.limit.node o.amount

parts_of : (secret : List ℕ) (o : Order) → Parts secret o (order_bytes secret o)
unfolding order_bytes limit_under
parts_of secret o =
    let body = limit_body o.limit in
    let tag = hmac (node_key secret o.limit.node) (limit_body o.limit) in
    let word = to_be_bytes w64 o.amount in
    let last = order_tag_of secret o.limit.serial o.limit.node o.amount in
    let l1 : length body ≡ 51 = length-body o.limit in
    let l2 : length tag ≡ 32 = length-hmac _ _ in
    let l4 : length last ≡ 32 = length-order_tag secret o.limit.serial o.limit.node o.amount in
    let l12 : length (body ++ tag) ≡ 83 = omega (arith, length-append body tag) in
    let l123 : length (body ++ tag ++ word) ≡ 91 = omega (arith, length-append (body ++ tag) word) in
    record {
      len = omega (arith, length-append (body ++ tag ++ word) last);
      body = rw (append_assoc (body ++ tag) word last, append_assoc body tag (word ++ last)) (part-first body (tag ++ (word ++ last)) 51 l1);
      tag = rw (append_assoc (body ++ tag) word last) (part-second body tag (word ++ last) 51 32 l1 l2);
      amount = part-second (body ++ tag) word last 83 8 l12 refl;
      last = part-last (body ++ tag ++ word) last 91 32 l123 l4;
    }

pub order_again : (secret : List ℕ) (o : Order) → FitsOrder o → order_of secret (order_bytes secret o) ≡ Ok o
unfolding order_of
order_again secret o fits =
    let p = parts_of secret o in
    let n : number_in w64 83 (order_bytes secret o) ≡ o.amount = rw p.amount (from_be_bytes-to_be_bytes_8 o.amount fits.amount) in
    rw (eq-eqb _ _ p.len, p.body, fields_again o.limit fits.limit_fits, p.tag, nat_list_eq_equiv.refl (hmac (node_key secret o.limit.node) (limit_body o.limit)), n, p.last, nat_list_eq_equiv.refl (order_tag_of secret o.limit.serial o.limit.node o.amount)) refl

-- ---- offers: orders whose own tag isn't looked at

whole_offer : (key b : List ℕ) (l : Limit) → IsBytes b → length b ≡ 123 → part 0 83 b ≡ limit_under key l → b ≡ limit_under key l ++ to_be_bytes w64 (number_in w64 83 b) ++ part 91 32 b
whole_offer key b l fits len front =
    rw (← front, word_back 83 b fits (omega arith)) (sym (part-whole 123 b len) ∙ sym (ap (λ x. x ++ part 91 32 b) (part-join 0 83 8 b) ∙ part-join 0 91 32 b))

offer_found : (key b : List ℕ) (o : Order) → IsBytes b → FitsOrder o → offer_of key b ≡ Ok o → IsOffer key b o
unfolding offer_of
offer_found key b o bytes fits e =
    let t = test_ok (nat_eq (length b) 123) _ (no.Length (length b)) o e in
    let len : length b ≡ 123 = eqb-true _ _ t.0 in
    let f = bind_ok (fields_of (part 0 51 b)) _ o t.1 in
    let l = f.0 in
    let g = test_ok (is_tag_of (part 51 32 b) key (part 0 51 b)) (Ok (order_made l (number_in w64 83 b))) no.LimitTag o f.2 in
    let body = fields_found (part 0 51 b) l (IsBytes-part 0 51 b bytes) (length-part 0 51 b (omega arith)) f.1 in
    let front = limit_body_of key b l body (same_text _ _ (sym g.0)) in
    let made : order_made l (number_in w64 83 b) ≡ o = ok_is _ _ g.1 in
    record {
      fits = fits;
      tag = part 91 32 b;
      sized = length-part 91 32 b (omega arith);
      written = subst (λ (x : Order). b ≡ limit_under key x.limit ++ to_be_bytes w64 x.amount ++ part 91 32 b) made (whole_offer key b l bytes len front);
    }

-- what an offer's bytes have
pub offer_long : (key b : List ℕ) (o : Order) → offer_of key b ≡ Ok o → length b ≡ 123
unfolding offer_of
offer_long key b o e = eqb-true _ _ (test_ok (nat_eq (length b) 123) _ (no.Length (length b)) o e).0

pub offer_fits : (key b : List ℕ) (o : Order) → IsBytes b → offer_of key b ≡ Ok o → FitsOrder o
unfolding offer_of
offer_fits key b o bytes e =
    let t = test_ok (nat_eq (length b) 123) _ (no.Length (length b)) o e in
    let f = bind_ok (fields_of (part 0 51 b)) _ o t.1 in
    let l = f.0 in
    let g = test_ok (is_tag_of (part 51 32 b) key (part 0 51 b)) (Ok (order_made l (number_in w64 83 b))) no.LimitTag o f.2 in
    let made : order_made l (number_in w64 83 b) ≡ o = ok_is _ _ g.1 in
    subst FitsOrder made (record { limit_fits = fields_fit (part 0 51 b) l (IsBytes-part 0 51 b bytes) f.1; amount = number64_fits 83 b bytes })

offer_bytes : List ℕ → Order → List ℕ → List ℕ
offer_bytes key o last = limit_under key o.limit ++ to_be_bytes w64 o.amount ++ last

-- the parts of an offer that are looked at
record OfferParts (key : List ℕ) (o : Order) (b : List ℕ) : Type 0 where
  len : length b ≡ 123
  body : part 0 51 b ≡ limit_body o.limit
  tag : part 51 32 b ≡ hmac key (limit_body o.limit)
  amount : part 83 8 b ≡ to_be_bytes w64 o.amount

offer_parts : (key last : List ℕ) (o : Order) → length last ≡ 32 → OfferParts key o (offer_bytes key o last)
unfolding offer_bytes limit_under
offer_parts key last o long =
    let body = limit_body o.limit in
    let tag = hmac key (limit_body o.limit) in
    let word = to_be_bytes w64 o.amount in
    let l1 : length body ≡ 51 = length-body o.limit in
    let l2 : length tag ≡ 32 = length-hmac _ _ in
    let l12 : length (body ++ tag) ≡ 83 = omega (arith, length-append body tag) in
    let l123 : length (body ++ tag ++ word) ≡ 91 = omega (arith, length-append (body ++ tag) word) in
    record {
      len = omega (arith, length-append (body ++ tag ++ word) last);
      body = rw (append_assoc (body ++ tag) word last, append_assoc body tag (word ++ last)) (part-first body (tag ++ (word ++ last)) 51 l1);
      tag = rw (append_assoc (body ++ tag) word last) (part-second body tag (word ++ last) 51 32 l1 l2);
      amount = part-second (body ++ tag) word last 83 8 l12 refl;
    }

offer_again : (key last : List ℕ) (o : Order) → length last ≡ 32 → FitsOrder o → offer_of key (offer_bytes key o last) ≡ Ok o
unfolding offer_of
offer_again key last o long fits =
    let p = offer_parts key last o long in
    let n : number_in w64 83 (offer_bytes key o last) ≡ o.amount = rw p.amount (from_be_bytes-to_be_bytes_8 o.amount fits.amount) in
    rw (eq-eqb _ _ p.len, p.body, fields_again o.limit fits.limit_fits, p.tag, nat_list_eq_equiv.refl (hmac key (limit_body o.limit)), n) refl

-- ---- what a call answers

pub if_limit : (key b : List ℕ) (r : Result Limit OrderErr) → IsBytes b → r ≡ limit_of key b → IfOk r FitsLimit → IfOk r (λ l. IsGoodLimit key b l)
if_limit key b (Ok l) bytes e fits = record { fits = fits; written = limit_found key b l bytes (sym e) }
if_limit key b (Err d) bytes e fits = tt

pub if_order : (secret b : List ℕ) (r : Result Order OrderErr) → IsBytes b → r ≡ order_of secret b → IfOk r FitsOrder → IfOk r (λ o. IsGoodOrder secret b o)
if_order secret b (Ok o) bytes e fits = record { fits = fits; written = order_found secret b o bytes (sym e) }
if_order secret b (Err d) bytes e fits = tt

pub limit_read : (key b : List ℕ) (l : Limit) → IsGoodLimit key b l → limit_of key b ≡ Ok l
limit_read key b l good = ap (limit_of key) good.written ∙ limit_again key l good.fits

pub order_read : (secret b : List ℕ) (o : Order) → IsGoodOrder secret b o → order_of secret b ≡ Ok o
order_read secret b o good = ap (order_of secret) good.written ∙ order_again secret o good.fits

pub if_offer : (key b : List ℕ) (r : Result Order OrderErr) → IsBytes b → r ≡ offer_of key b → IfOk r FitsOrder → IfOk r (λ o. IsOffer key b o)
if_offer key b (Ok o) bytes e fits = offer_found key b o bytes fits (sym e)
if_offer key b (Err d) bytes e fits = tt

pub offer_read : (key b : List ℕ) (o : Order) → IsOffer key b o → offer_of key b ≡ Ok o
unfolding offer_bytes
offer_read key b o offer = ap (offer_of key) offer.written ∙ offer_again key offer.tag o offer.sized offer.fits
