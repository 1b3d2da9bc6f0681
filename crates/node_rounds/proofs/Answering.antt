-- What a call that was entered is answered: a plan that can be asked.
use Rattle.std.proofs.Common.{◌≡◌, ℕ, ◌<◌, ◌^◌, List, [], ◌∷◌, ◌++◌, length, Bool, true, false, Option, Some, None, refl, sym, ap, ◌∙◌, subst}
use Rattle.std.specs.Prelude.{IsSomeAnd, map}
use mathlib.Core.List.{map-append}
use Rattle.sat_base.specs.declared.scheme.Scheme.{Scheme}
use Rattle.sat_base.specs.declared.settings.Settings.{Settings}
use Rattle.turnstile.specs.Entry.{entry_of}
use Rattle.turnstile.specs.Known.{Enters}
use Rattle.machine_calls.specs.declared.call.Call.{Call}
use Rattle.machine_calls.specs.declared.reply.Reply.{Reply}
use Rattle.machine_calls.specs.declared.reply.Reply.TheVariants as replies
use Rattle.machine_step.specs.Bounds.{IsValid}
use Rattle.machine_step.specs.Step.{IsSchemeOf}
use Rattle.machine_step.specs.Tables.{Setup, Tables, setup_of}
use Rattle.machine_history.specs.History.{IsLegal, IsRight, Said, replay}
use Rattle.machine_history.proofs.HistoryLemmas.{follows_all, legal-append}
use Rattle.sat_book.specs.Book.{AreOf, start_of}
use Rattle.sat_book.specs.Legal.{E, replayed, said_of}
use Rattle.sat_book.specs.declared.opening.Opening.{Opening}
use Rattle.sat_book.specs.declared.opening.Origin.{Origin}
use Rattle.sat_sessions.specs.Sessions.{V}
use Rattle.askable_plans.proofs.Audits.{audit_askable, recheck_askable}
use Rattle.askable_plans.proofs.Moves.{move_askable}
use Rattle.askable_plans.proofs.Repairs.{repair_askable}
use Rattle.node_rounds.specs.Askable.{IsAskable, IsStoreOf}
use Rattle.node_rounds.specs.Upkeep.{is_plan_of, plan_call}
use Rattle.node_rounds.specs.declared.upkeep.Upkeep.{Upkeep}
use Rattle.node_rounds.specs.declared.upkeep.Upkeep.TheVariants as kinds

-- of a book without entries the tables are those that it was opened over
pub store_of : (opening : Opening) (history : List E) (tables core : Tables) (settings : Settings) (secret : List ℕ) → history ≡ [] → tables ≡ replayed (start_of opening) history → core ≡ tables → IsValid core
    → setup_of settings ≡ core.setup → secret ≡ settings.secret → IsStoreOf opening secret settings.scheme
store_of opening history tables core settings secret none replay same valid setup is =
    let start : core ≡ start_of opening = same ∙ replay ∙ ap (replayed (start_of opening)) none in
    let own : setup_of settings ≡ (start_of opening).setup = setup ∙ ap (λ (t : Tables). t.setup) start in
    record {
      valid = subst IsValid start valid;
      secret_is = is ∙ ap (λ (s : Setup). s.secret) own;
      scheme_is = subst (λ (s : Setup). IsSchemeOf s settings.scheme) own (record { k = refl; m = refl; o = refl; n = refl; share = refl });
    }

-- a call was answered by its step from some valid tables of the store, or the step was lost
pub record IsAnswered (scheme : Scheme) (call : Call) (reply : Reply) : Type 0 where
  pub tables : Tables
  pub valid : IsValid tables
  pub scheme_is : IsSchemeOf tables.setup scheme
  pub right : IsRight tables (record { call = call; reply = reply })

abbrev pub OfStore : {K : Type 0} → Option (Origin K) → List ℕ → Scheme → Type 0
OfStore base secret scheme = IsSomeAnd base (λ origin. IsStoreOf origin.opening secret scheme)

answered_in : {K : Type 0} (base : Option (Origin K)) (secret : List ℕ) (scheme : Scheme) (history : List E) (e : E) → AreOf base (history ++ e ∷ []) → OfStore base secret scheme → IsAnswered scheme e.call e.reply
answered_in None secret scheme history e lawful own = absurd lawful
answered_in (Some origin) secret scheme history e lawful own =
    let start = start_of origin.opening in
    let legal : IsLegal start (map said_of history ++ said_of e ∷ []) = subst (IsLegal start) (map-append said_of history (e ∷ [])) lawful.legal in
    let parts = legal-append (map said_of history) (said_of e ∷ []) start legal in
    let follows = follows_all (map said_of history) start own.valid parts.0 in
    record {
      tables = replayed start history;
      valid = follows.valid;
      scheme_is = subst (λ (s : Setup). IsSchemeOf s scheme) (sym follows.grows.setup) own.scheme_is;
      right = parts.1.0;
    }

pub answered : {K : Type 0} (k : V K) (call : Call) (reply : Reply) (place : ℕ) (k' : V K) (secret : List ℕ) (scheme : Scheme) → Enters AreOf k call reply place k' → OfStore k.base secret scheme → IsAnswered scheme call reply
answered k call reply place k' secret scheme d own =
    answered_in k.base secret scheme d.history (entry_of place k.number call reply) (subst (λ (l : List E). AreOf k.base l) d.seen_is d.just) own

-- a plan that is answered can be asked
pub askable : (kind : Upkeep) (now : ℕ) (words : List ℕ) (reply : Reply) (scheme : Scheme) → now < 2 ^ 36 → IsAnswered scheme (plan_call kind now words) reply → is_plan_of kind reply ≡ true → IsAskable scheme reply
askable kinds.Recheck now words (replies.RecheckPlanned plan place) scheme timely a is = recheck_askable a.tables now plan place a.valid (sym (a.right.answer refl))
askable kinds.Audit now words (replies.AuditPlanned plan places) scheme timely a is = audit_askable a.tables scheme now words plan places a.valid a.scheme_is (sym (a.right.answer refl))
askable kinds.Repair now words (replies.RepairPlanned plan sources targets) scheme timely a is =
    repair_askable a.tables scheme now words plan sources targets a.valid timely a.scheme_is (sym (a.right.answer refl))
askable kinds.Exit now words (replies.ExitPlanned plan sources target) scheme timely a is = move_askable a.tables scheme now words plan sources target a.valid a.scheme_is (sym (a.right.answer refl))
askable _ now words _ scheme timely a is = absurd (cc)
