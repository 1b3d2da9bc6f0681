-- Which answer comes.
use Rattle.std.proofs.Common.{◌↔◌, Bool, true, false, IsTrue, refl}
use Rattle.stor_base.specs.Offers.{FailsNext, IsChosen, Settling, WaitsNext, answer_by}

pub chosen_by : (settler : Settling) (fails waits : Bool) → (IsTrue fails ↔ FailsNext settler) → (IsTrue waits ↔ WaitsNext settler)
    → IsChosen settler (answer_by fails waits)
chosen_by settler true waits f w = f.0 refl
chosen_by settler false true f w = (λ h. let e = f.1 h in cc, w.0 refl)
chosen_by settler false false f w = (λ h. let e = f.1 h in cc, λ h. let e = w.1 h in cc)
