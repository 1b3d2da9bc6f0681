-- The order that is due is offered once, and finished where that settles it.
use Rattle.std.specs.Prelude.{◌≡◌, ℕ, List, Option, Some, None, Result}
use Rattle.std.specs.Int.{w64}
use Rattle.sat_base.specs.Keeper.{KeeperView}
use Rattle.sat_base.specs.Outside.{CountsExactly, with_end}
use Rattle.sat_base.specs.declared.ids.Serial.{Serial}
use Rattle.order_limits.specs.Read.{number_in}
use Rattle.order_uses.specs.Due.{due_of}
use Rattle.order_uses.specs.Uses.{use_at}
use Rattle.order_uses.specs.View.{Finishes, UsesView}
use Rattle.order_uses.specs.declared.opening.UsesErr.{UsesErr}
use Rattle.stor_base.specs.Offers.{has_failed, offers_made}
use Rattle.stor_base.specs.declared.settler.Offered.{Offered}
use Rattle.stor_base.specs.declared.settler.Offered.TheVariants as offered
use Rattle.stor_serve.specs.Views.{SettlerView}

-- an order was offered, and answered
pub record Offers (order : List ℕ) (answer : Offered) (old new : SettlerView) : Type 0 where
  pub told : new.offers ≡ with_end old.offers (offers_made order answer)
  pub faults : CountsExactly (has_failed answer) old.faults new.faults

-- the serial that an order's bytes name
abbrev pub serial_in : List ℕ → Serial
serial_in order = record { 0 = number_in w64 2 order }

module _ {K : Type 0} (about : K → KeeperView) where
  -- the row of the order is finished, whatever its keeper answers, exactly where the offer was answered by Done
  abbrev pub Settles : Offered → List ℕ → UsesView K → UsesView K → Type 0
  Settles offered.Done order old new = (result : Result (Unit {0}) UsesErr) × Finishes about (use_at old.rows (serial_in order)) old result new
  Settles offered.Later order old new = new ≡ old
  Settles offered.Failed order old new = new ≡ old
  Settles offered.NoMemory order old new = new ≡ old

  -- the order that is due, if there is one, was offered
  abbrev pub OffersIf : Option (List ℕ) → UsesView K → UsesView K → SettlerView → SettlerView → Type 0
  OffersIf None old new settler settler' = (new ≡ old) × (settler' ≡ settler)
  OffersIf (Some order) old new settler settler' = (answer : Offered) × Offers order answer settler settler' × Settles answer order old new

  abbrev pub OffersAt : ℕ → UsesView K → UsesView K → SettlerView → SettlerView → Type 0
  OffersAt now old = OffersIf (due_of old.key old.rows now) old
