-- What comes of asking a silent node again.
use Rattle.std.specs.Prelude.{ℕ, List, if◌then◌else◌}
use Rattle.std.specs.Str.{bytes_eq}
use Rattle.sha2.specs.Sha256.{sha256}
use Rattle.sat_base.specs.declared.nodes.Fetched.{Fetched}
use Rattle.sat_base.specs.declared.nodes.Fetched.TheVariants as fetches
use Rattle.audit_core.specs.declared.rechecking.Checked.{Checked}
use Rattle.audit_core.specs.declared.rechecking.Checked.TheVariants.{Pass, Fail, Silent}

-- a share passes by its digest; a piece that is missing fails
abbrev pub checked : List ℕ → Fetched → Checked
checked expect (fetches.Share bytes) = if bytes_eq (sha256 bytes) expect then Pass else Fail
checked expect fetches.Missing = Fail
checked expect fetches.NoAnswer = Silent
checked expect fetches.NoMemory = Silent
