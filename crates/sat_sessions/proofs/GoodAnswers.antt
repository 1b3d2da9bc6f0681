-- Good requests are answered.
use Rattle.std.proofs.Common.{◌≡◌, ◌≢◌, ℕ, List, Bool, true, false, not, Option, Some, None, Ok, Err, refl, sym, ap, ◌∙◌, subst, arith, ◌⊎◌, inl, inr}
use Rattle.std.specs.Prelude.{IfSome, Result}
use Rattle.std.proofs.lemmas.Bool.{not-false}
use Rattle.httparse.specs.Grammar.{RequestHead}
use Rattle.sat_base.specs.Outside.{About, CountsExactly, raised, with_end}
use Rattle.machine_calls.specs.Replies.{is_lost}
use Rattle.machine_calls.specs.declared.reply.Reply.{Reply}
use Rattle.machine_calls.specs.declared.reply.Reply.TheVariants as replies
use Rattle.machine_step.specs.Tables.{Tables}
use Rattle.machine_step.specs.Step.{step}
use Rattle.http_parts.specs.Heads.{HasHead}
use Rattle.http_edge.specs.Answers.{answer_text, edge_text, reply_status}
use Rattle.http_edge.specs.Requests.{Says, headed}
use Rattle.http_edge.specs.declared.errors.EdgeErr.{EdgeErr}
use Rattle.http_edge.specs.declared.errors.EdgeErr.TheVariants as edges
use Rattle.machine_calls.specs.declared.wish.Wish.{Wish}
use Rattle.sat_book.specs.Legal.{E, IsHistory}
use Rattle.sat_book.specs.Book.{AreOf, start_of}
use Rattle.sat_book.specs.declared.opening.Origin.{Origin}
use Rattle.sat_sessions.specs.Good.{GoodAreAnswered, IsAnswered, IsDone, IsGood, Quiet, is_refused, is_store_fault, tables_at}
use Rattle.sat_sessions.specs.Listening.{Told, Hears, failed_to_draw, failed_to_read}
use Rattle.sat_sessions.specs.Serves.{IfEntered}
use Rattle.sat_sessions.specs.Sessions.{Connects, Ends, IsText, sent_of}
use Rattle.sat_sessions.specs.Speaking.{Tells}
use Rattle.sat_sessions.specs.declared.listening.Listened.{Listened}
use Rattle.sat_sessions.specs.declared.listening.Listened.TheVariants as listens
use Rattle.sat_sessions.specs.declared.speaking.Said.{Said}
use Rattle.sat_sessions.specs.declared.speaking.Said.TheVariants as says
use Rattle.sat_sessions.specs.declared.told.SessionEnd.{SessionEnd}
use Rattle.sat_sessions.specs.declared.told.SessionEnd.TheVariants as ends
use Rattle.sat_sessions.proofs.Legality.{right_at}
use Rattle.sat_sessions.proofs.Stopping.{still_runs}
use Rattle.machine_step.proofs.StepLemmas.{reply_of_case}

-- ---- counts

not_counted : (failed : Bool) (old new : ℕ) → Quiet old new → CountsExactly failed old new → failed ≡ false
not_counted true old new quiet c = let a = quiet.0 in let b = quiet.1 in let r : new ≡ raised old = c.1 in absurd (omega arith)
not_counted false old new quiet c = refl

-- ---- replies

-- a reply that is lost, and no fault of the store, is running out of memory
lost_memory : (r : Reply) → is_lost r ≡ true → is_store_fault r ≡ false → r ≡ replies.NoMemory
lost_memory r lost kept = elim r as (λ v. is_lost v ≡ true → is_store_fault v ≡ false → v ≡ replies.NoMemory) [
  | replies.StoreFault before after ↦ λ p q. absurd (cc)
  | replies.NoMemory ↦ λ p q. refl
  | _ ↦ λ p q. absurd (cc)
] lost kept

status_made : (r : Reply) → is_lost r ≡ false → is_refused r ≡ false → reply_status r ≡ 200
status_made r made kept = elim r as (λ v. is_lost v ≡ false → is_refused v ≡ false → reply_status v ≡ 200) [
  | replies.Refused cause ↦ λ p q. absurd (cc)
  | replies.StoreFault before after ↦ λ p q. absurd (cc)
  | replies.NoMemory ↦ λ p q. absurd (cc)
  | _ ↦ λ p q. refl
] made kept

done_text : (secret : List ℕ) (r s : Reply) (text : List ℕ) → (is_lost r ≡ false → r ≡ s) → is_store_fault r ≡ false → is_refused s ≡ false → Tells secret (says.Reply r) text
    → ((text ≡ answer_text secret s) × (reply_status s ≡ 200)) ⊎ (text ≡ edge_text edges.NoMemory)
done_text secret r s text right kept rules (inr memory) = inr memory
done_text secret r s text right kept rules (inl is) = go (is_lost r) refl
  where
    go : (b : Bool) → is_lost r ≡ b → ((text ≡ answer_text secret s) × (reply_status s ≡ 200)) ⊎ (text ≡ edge_text edges.NoMemory)
    go true lost = inr (is ∙ ap (answer_text secret) (lost_memory r lost kept))
    go false made = let same : r ≡ s = right made in inl (is ∙ ap (answer_text secret) same, status_made s (ap is_lost (sym same) ∙ made) rules)

-- ---- errors of the edge

is_memory : (e : EdgeErr) → (e ≡ edges.NoMemory) ⊎ (e ≢ edges.NoMemory)
is_memory edges.Head = inr (λ q. absurd (cc))
is_memory edges.Short = inr (λ q. absurd (cc))
is_memory edges.HeadSize = inr (λ q. absurd (cc))
is_memory edges.NoRoute = inr (λ q. absurd (cc))
is_memory edges.BadMethod = inr (λ q. absurd (cc))
is_memory edges.Key = inr (λ q. absurd (cc))
is_memory edges.Transfer = inr (λ q. absurd (cc))
is_memory edges.NoLength = inr (λ q. absurd (cc))
is_memory edges.BadLength = inr (λ q. absurd (cc))
is_memory edges.BodySize = inr (λ q. absurd (cc))
is_memory edges.ShortBody = inr (λ q. absurd (cc))
is_memory edges.Json = inr (λ q. absurd (cc))
is_memory (edges.Field place) = inr (λ q. absurd (cc))
is_memory edges.NoMemory = inl refl

-- behind a whole head the bytes say one thing
abbrev pub HeadsSayOne : Type 0
HeadsSayOne = (secret bytes : List ℕ) (h : RequestHead) (rest : List ℕ) (a b : Result Wish EdgeErr) → HasHead bytes h rest → Says secret bytes a → Says secret bytes b → a ≡ b

-- bytes that say a wish say no error
no_error : HeadsSayOne → (secret bytes : List ℕ) (wish : Wish) (error : EdgeErr) → Says secret bytes (Ok wish) → Says secret bytes (Err error) → ⊥
no_error one secret bytes wish error (headed h rest said at behind) other = let same = one secret bytes h rest (Ok wish) (Err error) at (headed h rest said at behind) other in absurd (cc)

edge_text_of : HeadsSayOne → (secret all : List ℕ) (wish : Wish) (left : Option (List ℕ)) (told : Told) (error : EdgeErr) (text : List ℕ) → left ≡ Some all → Says secret all (Ok wish) → Hears secret left told (listens.Edge error) → Tells secret (says.Edge error) text → text ≡ edge_text edges.NoMemory
edge_text_of one secret all wish left told error text is_left wished hears (inr memory) = memory
edge_text_of one secret all wish left told error text is_left wished hears (inl is) = elim (is_memory error) [
  | inl same ↦ is ∙ ap edge_text same
  | inr other ↦ absurd (no_error one secret all wish error wished (hears.1 other all is_left))
]

-- ---- a session

module _ (one : HeadsSayOne) (secret : List ℕ) (start : Tables) (count term : ℕ) (told : Told) (about after : About) (h : List E) where
  is_done : (end : SessionEnd) → IfEntered end (IsHistory start count h) → Connects secret term told about after h end → IsGood secret start told about after h end → (text : List ℕ) (said : Option Said) → IsText secret said text → (heard : Listened) → Hears secret about.left told heard
      → failed_to_read heard ≡ false → failed_to_draw heard ≡ false → Ends term h end heard said → IsDone secret start h end text
  is_done (ends.Entered place sent) lawful c g text said is_text heard hears read drew ended =
      let e : E = ended.0 in
      let ob = g.obeys place sent e refl ended.1 in
      let right = right_at start count h place e lawful ended.1 in
      let running = still_runs start h place g.begun lawful.legal ob.running in (
        e,
        ended.1,
        done_text secret e.reply (step (tables_at start h place) e.call).reply text right.answer ob.kept (ap is_refused (reply_of_case (tables_at start h place) e.call running) ∙ ob.rules)
            (subst (λ (s : Option Said). IsText secret s text) ended.3 is_text),
      )
  is_done (ends.Edge error sent) lawful c g text said is_text heard hears read drew ended =
      edge_text_of one secret g.all g.wish about.left told error text g.left g.says (subst (λ (l : Listened). Hears secret about.left told l) ended.0 hears) (subst (λ (s : Option Said). IsText secret s text) ended.1 is_text)
  is_done ends.ReadFault lawful c g text said is_text heard hears read drew ended = let no : failed_to_read listens.ReadFault ≡ false = ap failed_to_read (sym ended.0) ∙ read in absurd (cc)
  is_done (ends.WordsFault sent) lawful c g text said is_text heard hears read drew ended = let no : failed_to_draw listens.WordsFault ≡ false = ap failed_to_draw (sym ended.0) ∙ drew in absurd (cc)
  is_done (ends.TermFull ticket sent) lawful c g text said is_text heard hears read drew ended = let no = g.below in absurd (cc)

  -- a good request is answered, whole
  pub good_answered : (end : SessionEnd) → IfEntered end (IsHistory start count h) → Connects secret term told about after h end → IsGood secret start told about after h end → IsAnswered secret start about after h end
  good_answered end lawful c g =
      let same_reads : after.read_faults ≡ c.listened.read_faults = c.wrote.input.read_faults in
      let read : failed_to_read c.heard ≡ false = not_counted (failed_to_read c.heard) about.read_faults c.listened.read_faults (g.reads.0, sym same_reads ∙ g.reads.1) c.took.faults in
      let drew : failed_to_draw c.heard ≡ false = not_counted (failed_to_draw c.heard) told.faults told.faults_after g.draws c.drew in
      let counted : CountsExactly (not (sent_of end)) about.write_faults after.write_faults = subst (λ (n : ℕ). CountsExactly (not (sent_of end)) n after.write_faults) c.took.output.write_faults c.wrote.faults in
      let whole : sent_of end ≡ true = not-false (sent_of end) (not_counted (not (sent_of end)) about.write_faults after.write_faults g.writes counted) in
      record {
        text = c.text;
        is_done = is_done end lawful c g c.text c.said c.is_text c.heard c.hears read drew c.ended;
        written = c.wrote.all whole ∙ ap (λ (o : Option (List ℕ)). with_end o c.text) c.took.output.written;
      }

-- of a session whose pass knows the book's opening
pub good_session : {K : Type 0} → GoodAreAnswered → (secret : List ℕ) (base : Option (Origin K)) (term : ℕ) (told : Told) (about after : About) (seen : List E) (end : SessionEnd) → IfEntered end (AreOf base seen) → Connects secret term told about after seen end
    → IfSome base (λ origin. IsGood secret (start_of origin.opening) told about after seen end → IsAnswered secret (start_of origin.opening) about after seen end)
good_session law secret None term told about after seen end lawful connects = tt
good_session law secret (Some origin) term told about after seen end lawful connects = λ good. law secret (start_of origin.opening) origin.opening.faults term told about after seen end lawful connects good
