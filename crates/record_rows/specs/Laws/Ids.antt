-- Ids, moments, months and hours by their numbers.
use Rattle.std.proofs.Common.{◌≤◌, arith}
use Rattle.sat_base.specs.Moments.{IsMoment}
use Rattle.sat_base.specs.declared.limits.TheConstants as limits
use Rattle.sat_base.specs.declared.ids.NodeId.{NodeId}
use Rattle.sat_base.specs.declared.ids.CustomerId.{CustomerId}
use Rattle.sat_base.specs.declared.ids.SegId.{SegId}
use Rattle.sat_base.specs.declared.ids.Serial.{Serial}
use Rattle.sat_base.specs.declared.month.Month.{Month}
use Rattle.sat_base.specs.declared.month.Hour.{Hour}
use Rattle.sat_base.specs.Limits.{IsMonthWithin}
use Rattle.record_rows.specs.Numbers.{be32, be64, IsU32, IsU64}
use Rattle.record_rows.specs.Laws.{AreApart, StandByRank}
use Rattle.record_rows.specs.Laws.Apart.{made_apart, be32_apart, be64_apart}
use Rattle.record_rows.specs.Laws.Order.{number_order, be32_order, be64_order}

pub node_apart : AreApart (λ (id : NodeId). be32 id.0) (λ id. IsU32 id.0)
node_apart = made_apart (λ (id : NodeId). id.0) (λ id. IsU32 id.0) be32_apart (λ id fits. fits) (λ x y same. grind arith)

pub node_order : StandByRank (λ (id : NodeId). be32 id.0) (λ id. IsU32 id.0) (λ id. id.0)
node_order = number_order (λ (id : NodeId). id.0) (λ id. IsU32 id.0) (λ id fits. fits) be32_order

pub customer_apart : AreApart (λ (id : CustomerId). be32 id.0) (λ id. IsU32 id.0)
customer_apart = made_apart (λ (id : CustomerId). id.0) (λ id. IsU32 id.0) be32_apart (λ id fits. fits) (λ x y same. grind arith)

pub customer_order : StandByRank (λ (id : CustomerId). be32 id.0) (λ id. IsU32 id.0) (λ id. id.0)
customer_order = number_order (λ (id : CustomerId). id.0) (λ id. IsU32 id.0) (λ id fits. fits) be32_order

pub segment_apart : AreApart (λ (id : SegId). be64 id.0) (λ id. IsU64 id.0)
segment_apart = made_apart (λ (id : SegId). id.0) (λ id. IsU64 id.0) be64_apart (λ id fits. fits) (λ x y same. grind arith)

pub segment_order : StandByRank (λ (id : SegId). be64 id.0) (λ id. IsU64 id.0) (λ id. id.0)
segment_order = number_order (λ (id : SegId). id.0) (λ id. IsU64 id.0) (λ id fits. fits) be64_order

pub serial_apart : AreApart (λ (id : Serial). be64 id.0) (λ id. IsU64 id.0)
serial_apart = made_apart (λ (id : Serial). id.0) (λ id. IsU64 id.0) be64_apart (λ id fits. fits) (λ x y same. grind arith)

pub serial_order : StandByRank (λ (id : Serial). be64 id.0) (λ id. IsU64 id.0) (λ id. id.0)
serial_order = number_order (λ (id : Serial). id.0) (λ id. IsU64 id.0) (λ id fits. fits) be64_order

pub moment_apart : AreApart be64 IsMoment
moment_apart = made_apart (λ moment. moment) IsMoment be64_apart (λ moment fits. omega arith) (λ x y same. same)

narrow_month : (month : Month) → IsMonthWithin month.0 → IsU32 month.0
narrow_month month fits = omega (arith, fits.1)

pub month_apart : AreApart (λ (month : Month). be32 month.0) (λ month. IsMonthWithin month.0)
month_apart = made_apart (λ (month : Month). month.0) (λ month. IsMonthWithin month.0) be32_apart narrow_month (λ x y same. grind arith)

pub month_order : StandByRank (λ (month : Month). be32 month.0) (λ month. IsMonthWithin month.0) (λ month. month.0)
month_order = number_order (λ (month : Month). month.0) (λ month. IsMonthWithin month.0) narrow_month be32_order

narrow_hour : (hour : Hour) → hour.0 ≤ limits.LAST_HOUR → IsU64 hour.0
narrow_hour hour fits = omega (arith, fits)

pub hour_apart : AreApart (λ (hour : Hour). be64 hour.0) (λ hour. hour.0 ≤ limits.LAST_HOUR)
hour_apart = made_apart (λ (hour : Hour). hour.0) (λ hour. hour.0 ≤ limits.LAST_HOUR) be64_apart narrow_hour (λ x y same. grind arith)

pub hour_order : StandByRank (λ (hour : Hour). be64 hour.0) (λ hour. hour.0 ≤ limits.LAST_HOUR) (λ hour. hour.0)
hour_order = number_order (λ (hour : Hour). hour.0) (λ hour. hour.0 ≤ limits.LAST_HOUR) narrow_hour be64_order
