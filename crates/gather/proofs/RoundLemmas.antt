-- What the asks of a round come to.
use Rattle.std.proofs.Common.{◌≡◌, ℕ, ◌<◌, List, [], ◌∷◌, length, get_or, Option, Some, None, Result, Ok, Err, IfOk, IsSomeAnd, count_by, sym, subst}
use Rattle.std.specs.List.{AllZip}
use Rattle.std.specs.declared.vec.Vec.{Vec}
use Rattle.std.specs.declared.alloc.Global.{Global}
use Rattle.std.proofs.lemmas.Slice.Zip.{AllZip-long}
use Rattle.sat_base.specs.declared.nodes.Ask.{Ask}
use Rattle.sat_base.specs.declared.nodes.Fetched.{Fetched}
use Rattle.sat_base.specs.Nodes.{Fetches, FetchesWithin, FetchesAll, is_out_of_memory}
use Rattle.tokio.specs.Timers.{timeout_future}
use Rattle.tokio.specs.declared.time.timeout.Timeout.{Timeout}
use Rattle.node_wire.specs.Answers.{IsHeardFetch}
use Rattle.node_wire.specs.declared.head.Question.{Question}
use Rattle.node_wire.specs.declared.head.Question.TheVariants.{Fetch}
use Rattle.node_wire.specs.declared.reading.Outcome.{Outcome}
use Rattle.node_wire.specs.declared.reading.Reading.{Reading}
use Rattle.node_wire.specs.Readings.{ComesTo, IsAbout}
use Rattle.node_wire.proofs.AnswerLemmas.{fetched_heard, heard_short}
use Rattle.gather.specs.declared.asking.Asking.{Asking}
use Rattle.gather.specs.declared.asking.Step.{Step}
use Rattle.gather.specs.declared.timed.Timed.{Timed}
use Rattle.gather.specs.Asks.{CanAsk, MayCome}
use Rattle.gather.specs.Counting.{HeardAll}
use Rattle.gather.specs.Gathered.{GivesEach}
use Rattle.gather.specs.Rounds.{CanHear, Comes, FetchComes, FetchesFor, HeardAt, MayHear, Starts, TakenFrom}
use Rattle.gather.proofs.Zips.{zip_so, zip_through, zip_gives, zip_all}

about_can : (question : Question) (inner : Option (Step × Reading)) → IsSomeAnd inner (λ i. IsAbout question i.1) → CanAsk inner
about_can question None h = absurd h
about_can question (Some i) h = h.0

about_comes : (question : Question) (inner : Option (Step × Reading)) (answer : Outcome × Reading) → IsSomeAnd inner (λ i. IsAbout question i.1) → MayCome inner answer → ComesTo question answer.0 answer.1
about_comes question None answer h m = absurd h
about_comes question (Some i) answer h m = subst (λ q. ComesTo q answer.0 answer.1) h.1 m

module _ {R : Type 0} where
  -- an ask that was begun may be polled
  starts_can : (question : Question) (t : Timed (Timeout Asking) R) → Starts question t.future → CanHear t
  starts_can question t h = about_can question (timeout_future t.future).inner h

  pub fetches_can : (asked : List Ask) (parts : List (Timed (Timeout Asking) R)) → AllZip FetchesFor asked parts → (k : ℕ) (d : Timed (Timeout Asking) R) → k < length parts → CanHear (get_or parts k d)
  fetches_can asked parts h = zip_all FetchesFor CanHear (λ ask t. starts_can (Fetch ask.len) t) asked parts h

  -- and comes to what the bytes of an answer say
  starts_comes : (question : Question) (t : Timed (Timeout Asking) R) (heard : HeardAt) → Starts question t.future → MayHear t heard → Comes question heard.0
  starts_comes question t (Ok answer, moment) h m = about_comes question (timeout_future t.future).inner answer h m
  starts_comes question t (Err elapsed, moment) h m = tt

  pub fetches_come : (asked : List Ask) (parts : List (Timed (Timeout Asking) R)) (heard : List HeardAt) → AllZip FetchesFor asked parts → GivesEach MayHear parts heard → AllZip FetchComes asked heard
  fetches_come asked parts heard h g = zip_gives FetchesFor MayHear FetchComes (λ ask t one. starts_comes (Fetch ask.len) t one) asked parts heard h g

taken_heard : (ask : Ask) (heard : HeardAt) (fetched : Fetched) → FetchComes ask heard → TakenFrom heard fetched → IsHeardFetch ask fetched
taken_heard ask (Err elapsed, moment) fetched comes taken = subst (IsHeardFetch ask) (sym taken) tt
taken_heard ask (Ok answer, moment) fetched comes taken = fetched_heard ask answer.0 answer.1 fetched comes (taken comes.holds)

pub all_heard : (asked : List Ask) (heard : List HeardAt) (answers : List Fetched) → AllZip FetchComes asked heard → AllZip TakenFrom heard answers → AllZip IsHeardFetch asked answers
all_heard asked heard answers h k = zip_through FetchComes TakenFrom IsHeardFetch taken_heard asked heard answers h k

pub heard_all : {E : Type 0} (asked : List Ask) (heard : List HeardAt) (result : Result (Vec Fetched Global) E) → AllZip FetchComes asked heard
    → IfOk result (λ answers. AllZip TakenFrom heard answers.items) → IfOk result (λ answers. count_by is_out_of_memory answers.items ≡ 0) → IfOk result (λ answers. HeardAll asked answers.items)
heard_all asked heard (Ok answers) comes taken none = record { each = all_heard asked heard answers.items comes taken; none = none }
heard_all asked heard (Err e) comes taken none = tt

-- what the bytes of answers say, as nodes answer it
pub fetches_all : (asked : List Ask) (answers : List Fetched) → HeardAll asked answers → FetchesAll None asked answers
fetches_all asked answers h = record {
  each = zip_so IsHeardFetch (Fetches None) (λ ask fetched x. tt) asked answers h.each;
  within = zip_so IsHeardFetch FetchesWithin heard_short asked answers h.each;
  none_wanting = h.none;
}

-- one answer
pub one_heard : (ask : Ask) (answers : List Fetched) (fetched : Fetched) → answers ≡ fetched ∷ [] → HeardAll (ask ∷ []) answers → IsHeardFetch ask fetched
one_heard ask answers fetched e h = (subst (HeardAll (ask ∷ [])) e h).each.0

pub one_long : (ask : Ask) (answers : List Fetched) → HeardAll (ask ∷ []) answers → length answers ≡ 1
one_long ask answers h = AllZip-long IsHeardFetch (ask ∷ []) answers h.each
