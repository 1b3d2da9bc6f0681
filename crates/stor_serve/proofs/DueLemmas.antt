-- The order that is due is that of the row whose serial its bytes name.
use Rattle.std.proofs.Common.{◌≡◌, ℕ, List, length, take, drop, Option, Some, None, Result, Ok, IsSome, refl, sym, ap, subst, ◌∙◌, arith, slice_index}
use Rattle.std.specs.Prelude.{nat_eq}
use Rattle.std.specs.Int.{from_be_bytes, w64}
use Rattle.std.proofs.Math.Seq.{take-add}
use Rattle.std.proofs.lemmas.List.{drop-take}
use Rattle.sat_base.specs.declared.ids.Serial.{Serial}
use Rattle.order_limits.specs.Order.{action_of}
use Rattle.order_limits.specs.Part.{part}
use Rattle.order_limits.specs.Read.{fields_of, is_tag_of, number_in, offer_of, with_action}
use Rattle.order_limits.specs.declared.limit.Action.{Action}
use Rattle.order_limits.specs.declared.limit.Limit.{Limit}
use Rattle.order_limits.specs.declared.limit.Order.{Order}
use Rattle.order_limits.specs.declared.read.OrderErr.{OrderErr}
use Rattle.order_limits.specs.declared.read.OrderErr.TheVariants as no
use Rattle.order_limits.proofs.Fields.{length-part, test_ok}
use Rattle.order_limits.proofs.Reading.{bind_ok, offer_long, part-first}
use Rattle.order_uses.specs.Due.{due_of}
use Rattle.order_uses.specs.Uses.{AreUses, IsUnderKey, use_at}
use Rattle.order_uses.specs.declared.row.OrderUse.{OrderUse}
use Rattle.order_uses.proofs.CallLemmas.{offered}
use Rattle.order_uses.proofs.TakeLemmas.{each_found}
use Rattle.stor_serve.specs.Offering.{serial_in}

-- ---- the serial of a limit

with_serial : (found : Option Action) (b : List ℕ) (l : Limit) → with_action found b ≡ Ok l → l.serial ≡ record { 0 = number_in w64 2 b }
with_serial None b l e = absurd cc
with_serial (Some action) b l e = cc

fields_serial : (b : List ℕ) (l : Limit) → fields_of b ≡ Ok l → l.serial ≡ record { 0 = number_in w64 2 b }
unfolding fields_of
fields_serial b l e = with_serial (action_of (slice_index b 1)) b l (test_ok (nat_eq (slice_index b 0) 1) _ (no.Version (slice_index b 0)) l e).1

-- eight bytes at the third place, of the first 51 or of all
front_part : (b : List ℕ) → length b ≡ 123 → part 2 8 (part 0 51 b) ≡ part 2 8 b
unfolding part
front_part b len =
    ap (take 8) (drop-take 2 49 b ∙ take-add 8 41 (drop 2 b)) ∙ part-first (take 8 (drop 2 b)) (take 41 (drop 8 (drop 2 b))) 8 (length-part 2 8 b (omega (arith, len)))

abbrev read_as : Order → Result Order OrderErr
read_as o = Ok o

made_serial : (a b : Order) → read_as a ≡ read_as b → a.limit.serial ≡ b.limit.serial
made_serial a b e = cc

pub offer_serial : (key b : List ℕ) (o : Order) → offer_of key b ≡ Ok o → o.limit.serial ≡ serial_in b
unfolding offer_of
offer_serial key b o e =
    let t = test_ok (nat_eq (length b) 123) _ (no.Length (length b)) o e in
    let f = bind_ok (fields_of (part 0 51 b)) _ o t.1 in
    let l = f.0 in
    let g = test_ok (is_tag_of (part 51 32 b) key (part 0 51 b)) (read_as (record { limit = l; amount = number_in w64 83 b })) no.LimitTag o f.2 in
    sym (made_serial (record { limit = l; amount = number_in w64 83 b }) o g.1) ∙ fields_serial (part 0 51 b) l f.1
    ∙ ap (λ (bytes : List ℕ). record { 0 = from_be_bytes w64 bytes }) (front_part b (offer_long key b o e))

-- ---- what is due

some_row : (found : Option OrderUse) (row : OrderUse) → found ≡ Some row → IsSome found
some_row None row e = absurd cc
some_row (Some one) row e = refl

pub due_kept : (key : List ℕ) (rows : List OrderUse) (now : ℕ) (order : List ℕ) → AreUses key rows → due_of key rows now ≡ Some order → IsSome (use_at rows (serial_in order))
due_kept key rows now order are due =
    let found = offered key rows now order are.rising due in
    let row = found.0 in
    let under = each_found (IsUnderKey key) rows row.serial.0 row are.each found.1 in
    let named : row.serial ≡ serial_in order = sym under.own ∙ offer_serial key row.order under.order under.offered ∙ ap serial_in found.2 in
    some_row (use_at rows (serial_in order)) row (subst (λ (serial : Serial). use_at rows serial ≡ Some row) named found.1)
