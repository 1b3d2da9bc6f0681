-- Where orders that wait for their expiry stand, and those that may be due.
use Rattle.std.specs.Prelude.{ℕ, ◌+◌, ◌*◌, ◌^◌}
use Rattle.order_uses.specs.declared.expiry.Expiry.{Expiry}
use Rattle.order_uses.specs.declared.expiry.Candidate.{Candidate}

-- by the moment, and by serial within one
unfoldable pub expiry_place : ℕ → ℕ → ℕ
expiry_place expires serial = expires * 2 ^ 64 + serial

abbrev pub expiry_rank : Expiry → ℕ
expiry_rank expiry = expiry_place expiry.expires expiry.serial

abbrev pub candidate_rank : Candidate → ℕ
candidate_rank candidate = candidate.serial
