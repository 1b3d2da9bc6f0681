-- What is written to a link.
use Rattle.std.proofs.Common.{◌≡◌, ℕ, List, Bool, sym, subst}
use Rattle.sat_base.specs.Outside.{About}
use Rattle.sat_base.specs.Streams.{Wrote}

-- bytes were written, which are those of an answer
pub said_wrote : (bytes text : List ℕ) (whole sent : Bool) (old new : About) → bytes ≡ text → sent ≡ whole → Wrote bytes whole old new → Wrote text sent old new
said_wrote bytes text whole sent old new same is wrote = subst (λ (b : Bool). Wrote text b old new) (sym is) (subst (λ (l : List ℕ). Wrote l whole old new) same wrote)
