-- Pieces written one behind the other.
use Rattle.std.proofs.Common.{◌≡◌, ◌+◌, ◌-◌, ◌++◌, List, ℕ, length, take, drop, replicate, sym, ap, ◌∙◌, arith, refl, zero-add}
use Rattle.sat_base.specs.declared.ids.NodeId.{NodeId}
use Rattle.sat_base.specs.declared.ids.Serial.{Serial}
use Rattle.order_limits.specs.Hmac.{hmac}
use Rattle.order_limits.specs.Keys.{order_tag_of}
use Rattle.order_limits.specs.Order.{limit_body, limit_under}
use Rattle.order_limits.specs.declared.limit.Limit.{Limit}
use Rattle.sha2.proofs.Facts256.{length-sha256}
use Rattle.std.proofs.lemmas.List.{take-append-drop, drop-replicate, take_all, length-append}

-- what stands in front grows by a piece
pub grown : (out now piece p q : List ℕ) (at len : ℕ) → take (at + length piece) now ≡ take at out ++ piece → take at out ≡ p → piece ≡ q → length q ≡ len → take (at + len) now ≡ p ++ q
grown out now piece p q at len wrote was is long =
    let size : length piece ≡ len = ap length is ∙ long in
    rw (← size) (wrote ∙ rw (was, is) refl)

-- what a piece at the front leaves of zeros
pub filled : (now key : List ℕ) (n : ℕ) → take (0 + length key) now ≡ key → drop (0 + length key) now ≡ drop (0 + length key) (replicate n 0) → now ≡ key ++ replicate (n - length key) 0
filled now key n front rest =
    let e = zero-add (length key) in
    let a : take (length key) now ≡ key = rw e at front in
    let b : drop (length key) now ≡ replicate (n - length key) 0 = (rw e at rest) ∙ drop-replicate (length key) n 0 in
    sym (take-append-drop (length key) now) ∙ rw (a, b) refl

-- the front is all of it
pub all_of : (now p : List ℕ) (n : ℕ) → length now ≡ n → take n now ≡ p → now ≡ p
all_of now p n long front = sym (take_all n now (omega arith)) ∙ front

pub length-hmac : (key text : List ℕ) → length (hmac key text) ≡ 32
unfolding hmac
length-hmac key text = length-sha256 _

pub length-order_tag : (secret : List ℕ) (serial : Serial) (node : NodeId) (amount : ℕ) → length (order_tag_of secret serial node amount) ≡ 32
unfolding order_tag_of
length-order_tag secret serial node amount = length-hmac _ _

pub length-body : (l : Limit) → length (limit_body l) ≡ 51
unfolding limit_body
length-body l = refl

pub length-limit : (key : List ℕ) (l : Limit) → length (limit_under key l) ≡ 83
unfolding limit_under
length-limit key l = omega (arith, length-append (limit_body l) (hmac key (limit_body l)), length-body l, length-hmac key (limit_body l))
