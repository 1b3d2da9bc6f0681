-- The limits that are given at a moment for several places.
use Rattle.std.specs.Prelude.{ℕ, ◌+◌}
use Rattle.sat_base.specs.declared.records.At.{At}
use Rattle.order_limits.specs.declared.grant.TheConstants.{LIFE}
use Rattle.order_limits.specs.declared.grant.Grant.{Grant}
use Rattle.order_limits.specs.declared.limit.Limit.{Limit}

-- when a limit that was given at this moment expires
abbrev pub expiry_of : ℕ → ℕ
expiry_of issued = issued + LIFE

-- the limit at a place
abbrev pub limit_at : Grant → At → Limit
limit_at grant place = record {
  action = grant.action;
  serial = grant.serial;
  node = place.node;
  segment = grant.segment;
  index = place.index;
  limit = grant.limit;
  issued = grant.issued;
  expires = expiry_of grant.issued;
  customer = grant.customer;
}
