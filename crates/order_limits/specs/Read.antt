-- Reading limits and orders, with the first refusal that holds.
use Rattle.std.specs.Prelude.{Bool, ℕ, List, length, slice_index, Option, Some, None, Result, Ok, Err, ◌==◌, if◌then◌else◌, nat_eq}
use Rattle.std.specs.Cmp.Lexicographic.{pointwise}
use Rattle.std.specs.Int.{Width, w32, w64, byte_len, from_be_bytes}
use Rattle.sat_base.specs.Results.{◌>>=◌}
use Rattle.order_limits.specs.Part.{part}
use Rattle.order_limits.specs.Hmac.{hmac}
use Rattle.order_limits.specs.Keys.{node_key, order_tag_of}
use Rattle.order_limits.specs.Order.{action_of}
use Rattle.order_limits.specs.declared.limit.Action.{Action}
use Rattle.order_limits.specs.declared.limit.Limit.{Limit}
use Rattle.order_limits.specs.declared.limit.Order.{Order}
use Rattle.order_limits.specs.declared.read.OrderErr.{OrderErr}
use Rattle.order_limits.specs.declared.read.OrderErr.TheVariants as no

-- the number at a place
abbrev pub number_in : Width → ℕ → List ℕ → ℕ
number_in w at bytes = from_be_bytes w (part at (byte_len w) bytes)

-- the limit whose fields stand at their places
abbrev pub limit_in : Action → List ℕ → Limit
limit_in action bytes = record {
  action = action;
  serial = record { 0 = number_in w64 2 bytes };
  node = record { 0 = number_in w32 10 bytes };
  segment = record { 0 = number_in w64 14 bytes };
  index = slice_index bytes 22;
  limit = number_in w64 23 bytes;
  issued = number_in w64 31 bytes;
  expires = number_in w64 39 bytes;
  customer = record { 0 = number_in w32 47 bytes };
}

abbrev pub with_action : Option Action → List ℕ → Result Limit OrderErr
with_action None bytes = Err (no.Action (slice_index bytes 1))
with_action (Some action) bytes = Ok (limit_in action bytes)

-- the fields of a limit, whatever its tag
unfoldable pub fields_of : List ℕ → Result Limit OrderErr
fields_of bytes =
    if slice_index bytes 0 == 1 then with_action (action_of (slice_index bytes 1)) bytes
    else Err (no.Version (slice_index bytes 0))

abbrev pub is_tag_of : List ℕ → List ℕ → List ℕ → Bool
is_tag_of tag key text = pointwise nat_eq tag (hmac key text)

-- the limit that the bytes are, under the node's key
unfoldable pub limit_of : List ℕ → List ℕ → Result Limit OrderErr
limit_of key bytes =
    if length bytes == 83 then (fields_of (part 0 51 bytes) >>= λ l.
    if is_tag_of (part 51 32 bytes) key (part 0 51 bytes) then Ok l else Err no.LimitTag)
    else Err (no.Length (length bytes))

-- the order that the bytes are
unfoldable pub order_of : List ℕ → List ℕ → Result Order OrderErr
order_of secret bytes =
    if length bytes == 123 then (fields_of (part 0 51 bytes) >>= λ l.
    if is_tag_of (part 51 32 bytes) (node_key secret l.node) (part 0 51 bytes) then
    (if pointwise nat_eq (part 91 32 bytes) (order_tag_of secret l.serial l.node (number_in w64 83 bytes))
    then Ok (record { limit = l; amount = number_in w64 83 bytes }) else Err no.OrderTag)
    else Err no.LimitTag)
    else Err (no.Length (length bytes))

-- the order that the bytes are for the node of the key, whatever the order's own tag
unfoldable pub offer_of : List ℕ → List ℕ → Result Order OrderErr
offer_of key bytes =
    if length bytes == 123 then (fields_of (part 0 51 bytes) >>= λ l.
    if is_tag_of (part 51 32 bytes) key (part 0 51 bytes)
    then Ok (record { limit = l; amount = number_in w64 83 bytes }) else Err no.LimitTag)
    else Err (no.Length (length bytes))
