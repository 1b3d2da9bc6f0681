-- What adding a customer changes fits.
use Rattle.std.proofs.Common.{◌≡◌, ◌<◌, ◌≤◌, ◌^◌, true, false, length, refl, arith}
use Rattle.std.specs.Prelude.{nat_le, ◌==◌}
use Rattle.std.proofs.lemmas.Bool.Decides.{nat_tests}
use Rattle.std.proofs.lemmas.Bool.{and_from}
use Rattle.sat_base.specs.declared.requests.Asked.TheVariants as asks
use Rattle.machine_calls.specs.declared.asking.Asking.{Asking}
use Rattle.machine_calls.specs.declared.refusal.Refusal.TheVariants as refusals
use Rattle.machine_calls.specs.declared.refusal.TableName.TheVariants as names
use Rattle.machine_step.specs.Tables.{Tables}
use Rattle.machine_step.specs.Bounds.{IsValid}
use Rattle.machine_step.proofs.Outcomes.{unless-P, of_caller-P}
use Rattle.machine_step.proofs.Fits.{After, still, fitting_apart, timed_fit}
use Rattle.machine_step.specs.Calls.AddCustomer.{customer_added, add_customer}

module _ (t : Tables) (v : IsValid t) (asking : Asking) (le : t.marks.time ≤ asking.time) (lt : asking.time < 2 ^ 36) (own : (asking.caller.0 == 0) ≡ true) where
  fit_customer_added : nat_le t.setup.caps.customers (length t.customers) ≡ false → After t (customer_added t asking)
  fit_customer_added room =
      let below : length t.customers < t.setup.caps.customers = grind (arith, nat_tests, room) in
      fitting_apart t v (customer_added t asking) refl
      (timed_fit t v asking.time le lt, (record { id = omega arith; room = below; added = omega arith }, (record { sound = and_from _ _ own refl; within = (tt, tt) }, tt)))

  pub fit_add_customer : After t (add_customer t asking)
  fit_add_customer =
      of_caller-P (After t) (still t v) t asking asks.Customer _
      (unless-P (After t) (still t v) (nat_le t.setup.caps.customers (length t.customers)) (refusals.TableFull names.Customers) _ (λ room.
      fit_customer_added room))
