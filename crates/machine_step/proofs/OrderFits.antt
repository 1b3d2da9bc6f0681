-- An order that is read of bytes is a good one, with fields within their types.
use Rattle.std.proofs.Common.{◌≡◌, ℕ, ◌<◌, ◌^◌, List, Option, Some, None, Result, Ok, length, slice_index, nat_eq, subst, arith}
use Rattle.std.specs.Cmp.Lexicographic.{pointwise}
use Rattle.std.specs.Int.{w32, w64, from_be_bytes}
use Rattle.order_limits.specs.Order.{FitsLimit, FitsOrder, IsGoodOrder, action_of}
use Rattle.order_limits.specs.Part.{part}
use Rattle.order_limits.specs.Keys.{node_key, order_tag_of}
use Rattle.order_limits.specs.Read.{number_in, limit_in, with_action, is_tag_of, fields_of, order_of}
use Rattle.order_limits.specs.declared.limit.Action.{Action}
use Rattle.order_limits.specs.declared.limit.Limit.{Limit}
use Rattle.order_limits.specs.declared.limit.Order.{Order}
use Rattle.order_limits.specs.declared.read.OrderErr.{OrderErr}
use Rattle.order_limits.specs.declared.read.OrderErr.TheVariants as bad
use Rattle.order_limits.proofs.Fields.{IsBytes, IsBytes-part, test_ok}
use Rattle.order_limits.proofs.Reading.{order_found, bind_ok}

below_32 : (bytes : List ℕ) → IsBytes bytes → from_be_bytes w32 bytes < 2 ^ 32
below_32 bytes fits = omega (arith, fits 0, fits 1, fits 2, fits 3)

below_64 : (bytes : List ℕ) → IsBytes bytes → from_be_bytes w64 bytes < 2 ^ 64
below_64 bytes fits = omega (arith, fits 0, fits 1, fits 2, fits 3, fits 4, fits 5, fits 6, fits 7)

abbrev read : Limit → Result Limit OrderErr
read l = Ok l

limit_is : (a b : Limit) → read a ≡ read b → a ≡ b
limit_is a b e = cc

abbrev pub read_order : Order → Result Order OrderErr
read_order o = Ok o

pub order_is : (a b : Order) → read_order a ≡ read_order b → a ≡ b
order_is a b e = cc

-- the fields of bytes are within their types
fields_fit : (bytes : List ℕ) (l : Limit) → IsBytes bytes → fields_of bytes ≡ Ok l → FitsLimit l
unfolding fields_of
fields_fit bytes l fits e = go (action_of (slice_index bytes 1)) (test_ok (nat_eq (slice_index bytes 0) 1) _ (bad.Version (slice_index bytes 0)) l e).1
  where
    go : (action : Option Action) → with_action action bytes ≡ Ok l → FitsLimit l
    go None e = absurd cc
    go (Some action) e = subst FitsLimit (limit_is (limit_in action bytes) l e) (record {
      serial = below_64 (part 2 8 bytes) (IsBytes-part 2 8 bytes fits);
      node = below_32 (part 10 4 bytes) (IsBytes-part 10 4 bytes fits);
      segment = below_64 (part 14 8 bytes) (IsBytes-part 14 8 bytes fits);
      index = omega (arith, fits 22);
      limit = below_64 (part 23 8 bytes) (IsBytes-part 23 8 bytes fits);
      issued = below_64 (part 31 8 bytes) (IsBytes-part 31 8 bytes fits);
      expires = below_64 (part 39 8 bytes) (IsBytes-part 39 8 bytes fits);
      customer = below_32 (part 47 4 bytes) (IsBytes-part 47 4 bytes fits);
    })

pub order_fits : (secret bytes : List ℕ) (o : Order) → IsBytes bytes → order_of secret bytes ≡ Ok o → FitsOrder o
unfolding order_of
order_fits secret bytes o fits e =
    let length_is = test_ok (nat_eq (length bytes) 123) _ (bad.Length (length bytes)) o e in
    let limit = bind_ok (fields_of (part 0 51 bytes)) _ o length_is.1 in
    let tagged = test_ok (is_tag_of (part 51 32 bytes) (node_key secret limit.0.node) (part 0 51 bytes)) _ bad.LimitTag o limit.2 in
    let signed = test_ok (pointwise nat_eq (part 91 32 bytes) (order_tag_of secret limit.0.serial limit.0.node (number_in w64 83 bytes)))
    (Ok (record { limit = limit.0; amount = number_in w64 83 bytes })) bad.OrderTag o tagged.1 in
    subst FitsOrder (order_is (record { limit = limit.0; amount = number_in w64 83 bytes }) o signed.1) (record {
      limit_fits = fields_fit (part 0 51 bytes) limit.0 (IsBytes-part 0 51 bytes fits) limit.1;
      amount = below_64 (part 83 8 bytes) (IsBytes-part 83 8 bytes fits);
    })

pub good_of : (secret bytes : List ℕ) (o : Order) → IsBytes bytes → order_of secret bytes ≡ Ok o → IsGoodOrder secret bytes o
good_of secret bytes o fits e = record { fits = order_fits secret bytes o fits e; written = order_found secret bytes o fits e }
