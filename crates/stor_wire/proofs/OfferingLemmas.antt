-- What an offer comes to, from what was sent and read.
use Rattle.std.proofs.Common.{◌≡◌, ℕ, List, length, refl, sym, ◌∙◌, ap, arith, Option, Some, None, Result, Ok, Err}
use Rattle.std.proofs.lemmas.List.{append-nil}
use Rattle.std.proofs.Math.Seq.{take-length}
use Rattle.sat_base.specs.Outside.{with_end}
use Rattle.stor_wire.specs.Offering.{IsOffered, SentFor, WroteSome, settle_text}
use Rattle.stor_wire.specs.Settlements.{SettledBy, offered_of}
use Rattle.stor_wire.specs.declared.settle.Account.{Account}
use Rattle.stor_wire.specs.declared.settled.SettleErr.{SettleErr}
use Rattle.stor_wire.specs.declared.settled.SettleErr.TheVariants.{Fault, NotWhole, NoMemory}
use Rattle.stor_wire.specs.declared.settled.Settlement.{Settlement}
use Rattle.stor_wire.specs.declared.settled.Settlement.TheVariants.{Done, Later}

pub offered_by : (all : List ℕ) (result : Result Settlement SettleErr) → SettledBy all result → IsOffered all (offered_of result)
offered_by all (Ok Done) said = said
offered_by all (Ok Later) said = said
offered_by all (Err Fault) said = tt
offered_by all (Err NotWhole) said = tt
offered_by all (Err NoMemory) said = tt

wrote_all : (bytes : List ℕ) (old new : Option (List ℕ)) → new ≡ with_end old bytes → WroteSome bytes old new
wrote_all bytes old new whole = (length bytes, omega arith, whole ∙ ap (λ l. with_end old l) (sym (take-length bytes)))

pub wrote_none : (bytes : List ℕ) (old : Option (List ℕ)) → WroteSome bytes old old
wrote_none bytes None = (0, omega arith, refl)
wrote_none bytes (Some before) = (0, omega arith, ap Some (sym (append-nil before)))

pub sent_whole : (account : Account) (order : List ℕ) (result : Result Settlement SettleErr) (old new : Option (List ℕ)) → new ≡ with_end old (settle_text account order)
    → SentFor account order (offered_of result) old new
sent_whole account order (Ok Done) old new whole = whole
sent_whole account order (Ok Later) old new whole = whole
sent_whole account order (Err Fault) old new whole = wrote_all (settle_text account order) old new whole
sent_whole account order (Err NotWhole) old new whole = wrote_all (settle_text account order) old new whole
sent_whole account order (Err NoMemory) old new whole = wrote_all (settle_text account order) old new whole
