-- The bounds of wishes, beside those of their types.
use Rattle.sat_base.specs.Limits.{AreRatesWithin, IsMonthWithin}
use Rattle.http_edge.specs.declared.demand.Demand.{Demand}
use Rattle.http_edge.specs.declared.demand.Demand.TheVariants as demands
use Rattle.http_edge.specs.declared.routes.Route.{Route}
use Rattle.http_edge.specs.declared.routes.Route.TheVariants as routes
use Rattle.machine_calls.specs.declared.wish.Wish.{Wish}
use Rattle.machine_calls.specs.declared.wish.Wish.TheVariants.{Statement, CloseMonth, SetRates}

-- months and rates are such as records have
abbrev pub IsWishWithin : Wish → Type 0
IsWishWithin (Statement node month) = IsMonthWithin month.0
IsWishWithin (CloseMonth month) = IsMonthWithin month.0
IsWishWithin (SetRates month rates) = IsMonthWithin month.0 × AreRatesWithin rates
IsWishWithin _ = Unit {0}

abbrev pub IsRouteWithin : Route → Type 0
IsRouteWithin (routes.Statement node month) = IsMonthWithin month.0
IsRouteWithin _ = Unit {0}

abbrev pub IsDemandWithin : Demand → Type 0
IsDemandWithin (demands.Statement node month) = IsMonthWithin month.0
IsDemandWithin (demands.Body route size) = IsRouteWithin route
IsDemandWithin (demands.Refused error) = Unit {0}
