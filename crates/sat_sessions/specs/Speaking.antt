-- What a connection is told.
use Rattle.std.specs.Prelude.{◌≡◌, ℕ, true, List, ◌⊎◌, codes}
use Rattle.machine_calls.specs.Replies.{is_sayable}
use Rattle.http_parts.specs.Messages.{message}
use Rattle.http_edge.specs.Answers.{error_data, answer_text, edge_text}
use Rattle.http_edge.specs.declared.errors.EdgeErr.TheVariants.{NoMemory}
use Rattle.std.specs.Prelude.{Result, Ok, Err}
use Rattle.sat_base.specs.declared.no_memory.NoMemory.{NoMemory as NoRoom}
use Rattle.sat_sessions.specs.declared.speaking.Said.{Said}
use Rattle.sat_sessions.specs.declared.speaking.Said.TheVariants as said

abbrev pub words_text : List ℕ
words_text = message 503 (error_data (codes "words"))

abbrev pub term_text : List ℕ
term_text = message 503 (error_data (codes "term"))

-- a text tells what is said; where it would take memory, the answer that memory runs out may stand in its place
abbrev pub Tells : List ℕ → Said → List ℕ → Type 0
Tells secret (said.Reply reply) text = (text ≡ answer_text secret reply) ⊎ (text ≡ edge_text NoMemory)
Tells secret (said.Edge error) text = (text ≡ edge_text error) ⊎ (text ≡ edge_text NoMemory)
Tells secret said.Words text = text ≡ words_text
Tells secret said.Term text = text ≡ term_text

-- a reply is one that callers are told
abbrev pub IsSayable : Said → Type 0
IsSayable (said.Reply reply) = is_sayable reply ≡ true
IsSayable _ = Unit {0}

-- the text that is sent for an answer that takes memory
abbrev pub IsAnswer : Result (List ℕ) NoRoom → List ℕ → Type 0
IsAnswer (Ok text) sent = sent ≡ text
IsAnswer (Err none) sent = sent ≡ edge_text NoMemory
