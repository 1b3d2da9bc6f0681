-- The ranks of the records here.
use Rattle.std.specs.Prelude.{ℕ}
use Rattle.sat_base.specs.declared.records.Containment.{Containment}
use Rattle.sat_base.specs.declared.settings.Customer.{Customer}
use Rattle.sat_base.specs.declared.requests.Kept.{Kept}
use Rattle.sat_base.specs.declared.rates.Tariff.{Tariff}

-- a containment stands by its node
abbrev pub containment_rank : Containment → ℕ
containment_rank containment = containment.node.0

-- a customer by its id
abbrev pub customer_rank : Customer → ℕ
customer_rank customer = customer.id.0

-- a kept request by its caller
abbrev pub kept_rank : Kept → ℕ
kept_rank kept = kept.caller.0

-- a tariff by the month that it begins in
abbrev pub tariff_rank : Tariff → ℕ
tariff_rank tariff = tariff.from.0
