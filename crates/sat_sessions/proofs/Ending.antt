-- What a session came to holds over each history that begins with its own.
use Rattle.std.proofs.Common.{◌≡◌, ℕ, List, Bool, ap, subst}
use Rattle.sat_base.specs.Outside.{About, CountsExactly}
use Rattle.turnstile.specs.History.{StartsWith}
use Rattle.desk_runs.proofs.Entering.{at_later}
use Rattle.sat_book.specs.Legal.{E}
use Rattle.std.specs.Prelude.{Option}
use Rattle.sat_sessions.specs.Listening.{Told, failed_to_draw}
use Rattle.sat_sessions.specs.Serves.{StopsAt}
use Rattle.sat_sessions.specs.Sessions.{Connects, Ends, is_words_fault}
use Rattle.sat_sessions.specs.declared.listening.Listened.{Listened}
use Rattle.sat_sessions.specs.declared.speaking.Said.{Said}
use Rattle.sat_sessions.specs.declared.told.SessionEnd.{SessionEnd}
use Rattle.sat_sessions.specs.declared.told.SessionEnd.TheVariants as ends

ends_later : (term : ℕ) (h h' : List E) (end : SessionEnd) (heard : Listened) (said : Option Said) → StartsWith h' h → Ends term h end heard said → Ends term h' end heard said
ends_later term h h' (ends.Entered place sent) heard said t c = (c.0, at_later h h' place c.0 t c.1, c.2, c.3)
ends_later term h h' (ends.Edge error sent) heard said t c = c
ends_later term h h' ends.ReadFault heard said t c = c
ends_later term h h' (ends.WordsFault sent) heard said t c = c
ends_later term h h' (ends.TermFull ticket sent) heard said t c = c

pub connects_later : (secret : List ℕ) (term : ℕ) (told : Told) (about after : About) (h h' : List E) (end : SessionEnd) → StartsWith h' h → Connects secret term told about after h end → Connects secret term told about after h' end
connects_later secret term told about after h h' end t c = record {
  heard = c.heard;
  hears = c.hears;
  bytes = c.bytes;
  few = c.few;
  listened = c.listened;
  took = c.took;
  drew = c.drew;
  said = c.said;
  ended = ends_later term h h' end c.heard c.said t c.ended;
  text = c.text;
  is_text = c.is_text;
  wrote = c.wrote;
}

pub stops_later : (end : SessionEnd) (h h' : List E) → StartsWith h' h → StopsAt end h → StopsAt end h'
stops_later (ends.Entered place sent) h h' t c = (c.0, at_later h h' place c.0 t c.1, c.2)
stops_later (ends.Edge error sent) h h' t c = c
stops_later ends.ReadFault h h' t c = c
stops_later (ends.WordsFault sent) h h' t c = c
stops_later (ends.TermFull ticket sent) h h' t c = c

failed_as : (term : ℕ) (h : List E) (end : SessionEnd) (heard : Listened) (said : Option Said) → Ends term h end heard said → failed_to_draw heard ≡ is_words_fault end
failed_as term h (ends.Entered place sent) heard said c = ap failed_to_draw c.2
failed_as term h (ends.Edge error sent) heard said c = ap failed_to_draw c.0
failed_as term h ends.ReadFault heard said c = ap failed_to_draw c.0
failed_as term h (ends.WordsFault sent) heard said c = ap failed_to_draw c.0
failed_as term h (ends.TermFull ticket sent) heard said c = ap failed_to_draw c.1

-- a session ends by a want of words just where one was counted
pub words_counted : (secret : List ℕ) (term : ℕ) (told : Told) (about after : About) (h : List E) (end : SessionEnd) → Connects secret term told about after h end → CountsExactly (is_words_fault end) told.faults told.faults_after
words_counted secret term told about after h end c = subst (λ (b : Bool). CountsExactly b told.faults told.faults_after) (failed_as term h end c.heard c.said c.ended) c.drew
