-- One entry more of a history.
use Rattle.std.proofs.Common.{◌≡◌, ℕ, suc, zero, ◌+◌, List, [], ◌∷◌, ◌++◌, length, Some, refl, sym, ap, subst, ◌∙◌, arith}
use Rattle.std.specs.Prelude.{map, slice_get}
use Rattle.machine_calls.specs.declared.call.Call.{Call}
use Rattle.machine_step.specs.Bounds.{IsValid}
use Rattle.machine_step.specs.Step.{IsByScheme, IsWellFormed}
use Rattle.machine_step.specs.Tables.{Setup, Tables}
use Rattle.machine_history.specs.History.{Said, IsRight, IsLegal, replay, taken}
use Rattle.machine_history.specs.Orders.{AreOfBytes, HasBytes}
use Rattle.machine_history.proofs.HistoryLemmas.{follows_all}
use Rattle.sat_book.specs.Legal.{E, said_of, replayed, IsFault, AreFaults, shown, last_shown, IsHistory}

pub replay-one : (t : Tables) (said : List Said) (one : Said) → replay t (said ++ one ∷ []) ≡ taken (replay t said) one
replay-one t [] one = refl
replay-one t (first ∷ rest) one = replay-one (taken t first) rest one

pub said-one : (history : List E) (e : E) → map said_of (history ++ e ∷ []) ≡ map said_of history ++ said_of e ∷ []
said-one [] e = refl
said-one (first ∷ rest) e = ap (λ (l : List Said). said_of first ∷ l) (said-one rest e)

pub replayed-one : (t : Tables) (history : List E) (e : E) → replayed t (history ++ e ∷ []) ≡ taken (replayed t history) (said_of e)
replayed-one t history e = ap (replay t) (said-one history e) ∙ replay-one t (map said_of history) (said_of e)

legal-one : (t : Tables) (said : List Said) (one : Said) → IsLegal t said → IsRight (replay t said) one → IsLegal t (said ++ one ∷ [])
legal-one t [] one legal right = (right, tt)
legal-one t (first ∷ rest) one legal right = (legal.0, legal-one (taken t first) rest one legal.1 right)

faults-one : (t : Tables) (last : ℕ) (history : List E) (e : E) → AreFaults t last history → IsFault (replayed t history) (last_shown last history) e.call e.reply → AreFaults t last (history ++ e ∷ [])
faults-one t last [] e faults fault = (fault, tt)
faults-one t last (first ∷ rest) e faults fault = (faults.0, faults-one (taken t (said_of first)) (shown last first.reply) rest e faults.1 fault)

pub shown-one : (last : ℕ) (history : List E) (e : E) → last_shown last (history ++ e ∷ []) ≡ shown (last_shown last history) e.reply
shown-one last [] e = refl
shown-one last (first ∷ rest) e = shown-one (shown last first.reply) rest e

-- what an entry of the longer list is: one of the list, or the last one
places-one : (n : ℕ) (history : List E) (e : E) → ((i : ℕ) (x : E) → slice_get history i ≡ Some x → x.place ≡ n + i) → e.place ≡ n + length history
    → (i : ℕ) (x : E) → slice_get (history ++ e ∷ []) i ≡ Some x → x.place ≡ n + i
places-one n [] e places here zero x at = let same : e ≡ x = cc in ap (λ (y : E). y.place) (sym same) ∙ here
places-one n [] e places here (suc i) x at = cc
places-one n (first ∷ rest) e places here zero x at = places zero x at
places-one n (first ∷ rest) e places here (suc i) x at =
    let less : (j : ℕ) → (n + 1) + j ≡ n + suc j = λ j. omega arith in
    places-one (n + 1) rest e (λ j y got. places (suc j) y got ∙ sym (less j)) (here ∙ sym (less (length rest))) i x at ∙ less i

pub history-nil : (t : Tables) (count : ℕ) → IsHistory t count []
history-nil t count = record { places = λ i e at. cc; legal = tt; bytes = λ i said at. cc; faults = tt }

bytes-one : (h : List Said) (said : Said) → AreOfBytes h → HasBytes said.call → AreOfBytes (h ++ said ∷ [])
bytes-one [] said bytes own zero x at = let same : said ≡ x = cc in subst (λ (s : Said). HasBytes s.call) same own
bytes-one [] said bytes own (suc i) x at = cc
bytes-one (first ∷ rest) said bytes own zero x at = bytes zero x at
bytes-one (first ∷ rest) said bytes own (suc i) x at = bytes-one rest said (λ j y got. bytes (suc j) y got) own i x at

pub history-one : (t : Tables) (count : ℕ) (history : List E) (e : E) → IsHistory t count history → e.place ≡ length history
    → IsRight (replayed t history) (said_of e) → HasBytes e.call → IsFault (replayed t history) (last_shown count history) e.call e.reply
    → IsHistory t count (history ++ e ∷ [])
history-one t count history e lawful place right own fault =
    let zero_less : (i : ℕ) → 0 + i ≡ i = λ i. omega arith in
    record {
      places = λ i x at. places-one 0 history e (λ j y got. lawful.places j y got ∙ sym (zero_less j)) (place ∙ sym (zero_less (length history))) i x at ∙ zero_less i;
      legal = subst (IsLegal t) (sym (said-one history e)) (legal-one t (map said_of history) (said_of e) lawful.legal right);
      bytes = subst AreOfBytes (sym (said-one history e)) (bytes-one (map said_of history) (said_of e) lawful.bytes own);
      faults = faults-one t count history e lawful.faults fault;
    }

-- a call that is well formed where a history begins is so behind it, since no step changes what a store is set up with
pub formed-behind : (start now : Tables) (count : ℕ) (history : List E) (call : Call) → IsValid start → IsHistory start count history → now ≡ replayed start history → IsWellFormed start call → IsWellFormed now call
formed-behind start now count history call v lawful is well =
    let setup : (replayed start history).setup ≡ start.setup = (follows_all (map said_of history) start v lawful.legal).grows.setup in
    record {
      formed = well.formed;
      scheme = subst (λ (s : Setup). IsByScheme s call) (sym (ap (λ (t : Tables). t.setup) is ∙ setup)) well.scheme;
    }
