use Rattle.std.proofs.Common.{[], ◌∷◌, ap, refl}
use Rattle.std.specs.Int.{w32, w64, to_be_bytes}
use Rattle.order_limits.specs.Order.{action_byte, limit_body}
use Rattle.order_limits.proofs.Pieces.{grown}
use Rattle.order_limits.proofs.limit.Limit.write_body.Goals as goal

pub returns : goal.returns
unfolding limit_body
returns c =
    let l = c.args.self.now in
    let o1 = c.write_at.new.out in
    let o2 = c.write_at-2.new.out in
    let o3 = c.write_at-3.new.out in
    let o4 = c.write_at-4.new.out in
    let o5 = c.write_at-5.new.out in
    let o6 = c.write_at-6.new.out in
    let o7 = c.write_at-7.new.out in
    let o8 = c.write_at-8.new.out in
    let o9 = c.write_at-9.new.out in
    let s1 = grown c.args.out.now o1 (1 ∷ c.byte.result ∷ []) [] (1 ∷ action_byte l.action ∷ []) 0 2 c.write_at.ensures.front refl (ap (λ b. 1 ∷ b ∷ []) c.byte.ensures) refl in
    let s2 = grown o1 o2 c.to_be_bytes.result _ (to_be_bytes w64 l.serial.0) 2 8 c.write_at-2.ensures.front s1 c.to_be_bytes.ensures refl in
    let s3 = grown o2 o3 c.to_be_bytes-2.result _ (to_be_bytes w32 l.node.0) 10 4 c.write_at-3.ensures.front s2 c.to_be_bytes-2.ensures refl in
    let s4 = grown o3 o4 c.to_be_bytes-3.result _ (to_be_bytes w64 l.segment.0) 14 8 c.write_at-4.ensures.front s3 c.to_be_bytes-3.ensures refl in
    let s5 = grown o4 o5 (l.index ∷ []) _ (l.index ∷ []) 22 1 c.write_at-5.ensures.front s4 refl refl in
    let s6 = grown o5 o6 c.to_be_bytes-4.result _ (to_be_bytes w64 l.limit) 23 8 c.write_at-6.ensures.front s5 c.to_be_bytes-4.ensures refl in
    let s7 = grown o6 o7 c.to_be_bytes-5.result _ (to_be_bytes w64 l.issued) 31 8 c.write_at-7.ensures.front s6 c.to_be_bytes-5.ensures refl in
    let s8 = grown o7 o8 c.to_be_bytes-6.result _ (to_be_bytes w64 l.expires) 39 8 c.write_at-8.ensures.front s7 c.to_be_bytes-6.ensures refl in
    grown o8 o9 c.to_be_bytes-7.result _ (to_be_bytes w32 l.customer.0) 47 4 c.write_at-9.ensures.front s8 c.to_be_bytes-7.ensures refl
