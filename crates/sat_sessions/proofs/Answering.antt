-- How what was heard is answered, put together.
use Rattle.std.proofs.Common.{◌≡◌, ℕ, ◌≤◌, List, [], ◌∷◌, length, Bool, true, false, Some, None, refl, sym, ◌∙◌, subst, arith}
use mathlib.Core.Bool.{or-false}
use Rattle.sat_base.specs.Outside.{About, CountsExactly}
use Rattle.sat_base.specs.Streams.{Took, Wrote}
use Rattle.sat_base.proofs.Told.{with_end-none}
use Rattle.sat_base.proofs.Transfers.{keeps_all_input}
use Rattle.turnstile.specs.Entry.{entry_of}
use Rattle.turnstile.specs.Known.{Enters, with_mark}
use Rattle.desk_runs.specs.Entered.{At}
use Rattle.desk_runs.proofs.Entering.{entered_none, entered_one, entered_full, marked_full, stands}
use Rattle.http_edge.specs.Requests.{MayRead, max_request}
use Rattle.http_edge.specs.declared.errors.EdgeErr.{EdgeErr}
use Rattle.machine_calls.specs.declared.call.Call.{Call}
use Rattle.machine_calls.specs.declared.reply.Reply.{Reply}
use Rattle.sat_book.specs.Book.{AreOf}
use Rattle.sat_book.specs.Legal.{E}
use Rattle.sat_sessions.specs.Listening.{Told, Hears, failed_to_draw, failed_to_read}
use Rattle.sat_sessions.specs.Serves.{Answers, IfStops, Serves, StopsAt}
use Rattle.sat_sessions.specs.Sessions.{V, stops_at}
use Rattle.sat_sessions.specs.Speaking.{Tells}
use Rattle.sat_sessions.specs.declared.listening.Listened.{Listened}
use Rattle.sat_sessions.specs.declared.listening.Listened.TheVariants as listens
use Rattle.sat_sessions.specs.declared.speaking.Said.{Said}
use Rattle.sat_sessions.specs.declared.speaking.Said.TheVariants as says
use Rattle.sat_sessions.specs.declared.told.SessionEnd.{SessionEnd}
use Rattle.sat_sessions.specs.declared.told.SessionEnd.TheVariants as ends
use Rattle.sat_sessions.proofs.Drawing.{draws_heard}

-- the text of what is said was sent
abbrev pub Speaks : List ℕ → Said → Bool → About → About → Type 0
Speaks secret said sent listened after = (text : List ℕ) × Tells secret said text × Wrote text sent listened after

stops_if : (stops : Bool) (end : SessionEnd) (history : List E) → (stops ≡ true → StopsAt end history) → IfStops stops end history
stops_if true end history f = f refl
stops_if false end history f = tt

pub answers_entered : {K : Type 0} (secret : List ℕ) (k : V K) (call : Call) (reply : Reply) (place : ℕ) (k' : V K) (listened after : About) (sent stops : Bool) → Enters AreOf k call reply place k' → stops ≡ stops_at reply → Speaks secret (says.Reply reply) sent listened after
    → Answers secret k (listens.Call call) listened after (ends.Entered place sent) stops k'
answers_entered secret k call reply place k' listened after sent stops d is spoke =
    let e : E = entry_of place k.number call reply in
    let stand : At k'.seen place e = stands AreOf k call reply place k' d in
    record {
      new = e ∷ [];
      entered = entered_one AreOf k call reply place k' d;
      named = refl;
      is_of = refl;
      full = λ q. absurd (cc);
      lawful = d.just;
      stopped = stops_if stops (ends.Entered place sent) k'.seen (λ q. (e, stand, sym is ∙ q));
      stops_are = or-false (stops_at reply) ∙ sym is;
      said = Some (says.Reply reply);
      ended = (e, stand, refl, refl);
      text = spoke.0;
      is_text = spoke.1;
      wrote = spoke.2;
    }

pub answers_full : {K : Type 0} (secret : List ℕ) (k : V K) (call : Call) (ticket : ℕ) (k' : V K) (listened after : About) (sent : Bool) → (k' ≡ with_mark k ticket) × (k.desk.term ≤ ticket) → Speaks secret says.Term sent listened after
    → Answers secret k (listens.Call call) listened after (ends.TermFull ticket sent) false k'
answers_full secret k call ticket k' listened after sent full spoke = record {
  new = [];
  entered = entered_full k ticket k' full.0;
  named = refl;
  is_of = tt;
  full = λ q. marked_full k ticket k' full.0;
  lawful = tt;
  stopped = tt;
  stops_are = refl;
  said = Some says.Term;
  ended = (call, refl, full.1, refl);
  text = spoke.0;
  is_text = spoke.1;
  wrote = spoke.2;
}

pub answers_edge : {K : Type 0} (secret : List ℕ) (k : V K) (error : EdgeErr) (listened after : About) (sent : Bool) → Speaks secret (says.Edge error) sent listened after → Answers secret k (listens.Edge error) listened after (ends.Edge error sent) false k
answers_edge secret k error listened after sent spoke = record {
  new = [];
  entered = entered_none k;
  named = refl;
  is_of = tt;
  full = λ q. absurd (cc);
  lawful = tt;
  stopped = tt;
  stops_are = refl;
  said = Some (says.Edge error);
  ended = (refl, refl);
  text = spoke.0;
  is_text = spoke.1;
  wrote = spoke.2;
}

pub answers_wordless : {K : Type 0} (secret : List ℕ) (k : V K) (listened after : About) (sent : Bool) → Speaks secret says.Words sent listened after → Answers secret k listens.WordsFault listened after (ends.WordsFault sent) false k
answers_wordless secret k listened after sent spoke = record {
  new = [];
  entered = entered_none k;
  named = refl;
  is_of = tt;
  full = λ q. absurd (cc);
  lawful = tt;
  stopped = tt;
  stops_are = refl;
  said = Some says.Words;
  ended = (refl, refl);
  text = spoke.0;
  is_text = spoke.1;
  wrote = spoke.2;
}

wrote_none : (o : About) → Wrote [] true o o
wrote_none o = record { all = λ t. sym (with_end-none o.written); some = (0, omega arith, sym (with_end-none o.written)); faults = refl; input = keeps_all_input o }

pub answers_unread : {K : Type 0} (secret : List ℕ) (k : V K) (listened : About) → Answers secret k listens.ReadFault listened listened ends.ReadFault false k
answers_unread secret k listened = record {
  new = [];
  entered = entered_none k;
  named = refl;
  is_of = tt;
  full = λ q. absurd (cc);
  lawful = tt;
  stopped = tt;
  stops_are = refl;
  said = None;
  ended = (refl, refl);
  text = [];
  is_text = refl;
  wrote = wrote_none listened;
}

-- what is told of a session that entered nothing
pub answers_as : {K : Type 0} (secret : List ℕ) (k : V K) (heard heard0 : Listened) (listened after : About) (k' : V K) (end' : SessionEnd) (stops : Bool) (k0 : V K) (end0 : SessionEnd) → heard ≡ heard0 → (k' ≡ k0) × (end' ≡ end0) × (stops ≡ false)
    → Answers secret k heard0 listened after end0 false k0 → Answers secret k heard listened after end' stops k'
answers_as {K} secret k heard heard0 listened after k' end' stops k0 end0 is same a =
    subst (λ (z : V K × SessionEnd × Bool × Listened). Answers secret k z.3 listened after z.1 z.2 z.0) (λ i. (sym same.0 i, sym same.1 i, sym same.2 i, sym is i)) a

-- a session is listening, and then an answer
pub serves_heard : {K : Type 0} (secret : List ℕ) (k : V K) (told : Told) (about listened after : About) (heard : Listened) (end : SessionEnd) (stops : Bool) (k' : V K) → Hears secret about.left told heard
    → (bytes : List ℕ) × Took (MayRead secret) bytes 1 (failed_to_read heard) about listened × (length bytes ≤ max_request)
    → CountsExactly (failed_to_draw heard) told.faults told.faults_after → Answers secret k heard listened after end stops k' → Serves secret k told about after end stops k'
serves_heard secret k told about listened after heard end stops k' hears took drew a = record {
  new = a.new;
  entered = a.entered;
  named = a.named;
  full = a.full;
  lawful = a.lawful;
  connects = record {
    heard = heard;
    hears = hears;
    bytes = took.0;
    few = took.2;
    listened = listened;
    took = took.1;
    drew = drew;
    said = a.said;
    ended = a.ended;
    text = a.text;
    is_text = a.is_text;
    wrote = a.wrote;
  };
  draws = draws_heard secret about.left told heard a.new hears a.is_of;
  stops_are = a.stops_are;
}
