-- What a head asks, from what was found of its parts.
use Rattle.std.proofs.Common.{◌≡◌, ℕ, List, map, codes, refl, sym, ◌∙◌, ap, true, false, Some, Result, Ok, Err}
use Rattle.std.proofs.lemmas.Option.{same_Some}
use Rattle.std.specs.Result.{IsErrAnd}
use Rattle.httparse.specs.Grammar.{RequestHead}
use Rattle.httparse.specs.Spans.{name_and_value}
use Rattle.order_uses.specs.declared.take.Wanted.{Wanted}
use Rattle.stor_wire.specs.Requests.{Demands, FoundBy, IsFetch, IsPut, IsWantedAs, max_piece}
use Rattle.stor_wire.specs.Values.{Fields, length_named, number_named}
use Rattle.stor_wire.specs.declared.demand.Demand.TheVariants.{Range, Body}
use Rattle.stor_wire.specs.declared.request.ReadErr.{ReadErr}
use Rattle.stor_wire.specs.declared.request.ReadErr.TheVariants.{Fault, Head, NoMemory}
use Rattle.stor_wire.proofs.AskLemmas.{methods_apart}

-- ---- a piece under an order, as part of what is asked

pub fetch_err : (target : List ℕ) (hs : Fields) (len : ℕ) (e : ReadErr) → number_named (codes "x-length") max_piece hs ≡ Some len
    → FoundBy (IsWantedAs false len target hs) (Err e) → FoundBy (λ (found : Wanted × ℕ). IsFetch target hs found.0 found.1) (Err e)
fetch_err target hs len Head is none = λ found x. none found.0 (record { named = x.named; put_is = x.fetches; len_is = same_Some _ _ (sym x.len ∙ is) })
fetch_err target hs len Fault is none = none
fetch_err target hs len NoMemory is none = tt

pub put_found : (target : List ℕ) (hs : Fields) (len : ℕ) (result : Result Wanted ReadErr) → length_named max_piece hs ≡ Some len
    → FoundBy (IsWantedAs true len target hs) result → FoundBy (IsPut target hs) result
put_found target hs len (Ok wanted) is x = record { named = x.named; puts = x.put_is; len = is ∙ ap Some (sym x.len_is) }
put_found target hs len (Err Head) is none = λ wanted x. none wanted (record { named = x.named; put_is = x.puts; len_is = same_Some _ _ (sym x.len ∙ is) })
put_found target hs len (Err Fault) is none = none
put_found target hs len (Err NoMemory) is none = tt

-- ---- what is asked, as the head's

pub range_err : (h : RequestHead) (target : List ℕ) (hs : Fields) (e : ReadErr) → h.method ≡ codes "GET" → target ≡ h.target → hs ≡ map name_and_value h.fields
    → FoundBy (λ (found : Wanted × ℕ). IsFetch target hs found.0 found.1) (Err e) → FoundBy (Demands h) (Err e)
range_err h target hs Head get path fields none = λ demand.
    elim demand as (λ d. Demands h d → ⊥) [
      | Range wanted offset ↦ λ x. none (wanted, offset) (rw (path, fields) x.1)
      | Body wanted ↦ λ x. methods_apart h.method get x.0
    ]
range_err h target hs Fault get path fields none = none
range_err h target hs NoMemory get path fields none = tt

pub body_err : (h : RequestHead) (target : List ℕ) (hs : Fields) (e : ReadErr) → h.method ≡ codes "PUT" → target ≡ h.target → hs ≡ map name_and_value h.fields
    → FoundBy (IsPut target hs) (Err e) → FoundBy (Demands h) (Err e)
body_err h target hs Head put path fields none = λ demand.
    elim demand as (λ d. Demands h d → ⊥) [
      | Range wanted offset ↦ λ x. methods_apart h.method x.0 put
      | Body wanted ↦ λ x. none wanted (rw (path, fields) x.1)
    ]
body_err h target hs Fault put path fields none = none
body_err h target hs NoMemory put path fields none = tt

-- ---- an error that is passed up

pub passed_up : {A : Type 0} (r : Result A ReadErr) (e : ReadErr) → IsErrAnd r (λ f. f ≡ e) → r ≡ Err e
passed_up (Ok x) e is = absurd is
passed_up (Err f) e is = rw is refl
