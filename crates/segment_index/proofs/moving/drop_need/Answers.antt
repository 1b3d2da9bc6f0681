use Rattle.std.proofs.Common.{◌≡◌, ℕ, ◌<◌, ◌^◌, true, subst, arith}
use Rattle.segment_index.specs.Keys.{is_key}
use Rattle.segment_index.proofs.Moves.{rank_high, rank_low}
use Rattle.segment_index.proofs.moving.drop_need.Goals as goal

pub returns-then-not-is_key-clause-room : goal.returns-then-not-is_key-clause-room
returns-then-not-is_key-clause-room c healthy other low keep had =
    let id : c.args.id < 2 ^ 64 = omega arith in
    c.remove.ensures.others _ had (λ e.
    let same : healthy ≡ c.in-Some.high = rank_high (record { high = healthy; low = other }) (record { high = c.in-Some.high; low = c.args.id }) low id e in
    let here : other ≡ c.args.id = rank_low (record { high = healthy; low = other }) (record { high = c.in-Some.high; low = c.args.id }) low id e in
    let stays : is_key c.args.stay c.in-Some.high ≡ true = subst (λ (n : ℕ). is_key c.args.stay n ≡ true) same (keep here) in
    cc stays)
