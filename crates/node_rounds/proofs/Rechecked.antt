-- What a recheck says of what its node holds.
use Rattle.std.proofs.Common.{◌≡◌, ℕ, Bool, true, false, List, Option, Some, refl, sym, ap, ◌∙◌, subst, inl, inr}
use Rattle.std.specs.Prelude.{if◌then◌else◌}
use Rattle.std.specs.Str.{bytes_eq}
use Rattle.std.proofs.lemmas.Slice.Eq.{bytes_eq-Decides}
use Rattle.sha2.specs.Sha256.{sha256}
use Rattle.sat_base.specs.declared.nodes.Ask.{Ask}
use Rattle.sat_base.specs.declared.nodes.Fetched.{Fetched}
use Rattle.sat_base.specs.declared.nodes.Fetched.TheVariants as fetches
use Rattle.sat_base.specs.declared.nodes.Held.{Held}
use Rattle.sat_base.specs.declared.requests.Place.{Place}
use Rattle.sat_base.specs.declared.scheme.Scheme.{Scheme}
use Rattle.sat_base.specs.Nodes.{Fetches, asked_of, is_unanswered, range_of}
use Rattle.sat_base.specs.Outside.{CountsExactly, raised}
use Rattle.audit_core.specs.declared.rechecking.Checked.{Checked}
use Rattle.audit_core.specs.declared.rechecking.Checked.TheVariants as checks
use Rattle.audit_core.specs.declared.rechecking.RecheckPlan.{RecheckPlan}
use Rattle.audit_core.specs.Heard.{is_out_of_memory}
use Rattle.audit_core.specs.Recheck.{checked}
use Rattle.node_asks.specs.Asks.{recheck_ask}
use Rattle.node_rounds.specs.Asked.{IsRechecked}
use Rattle.node_rounds.specs.Clauses.{SaysOfHeld}
use Rattle.node_rounds.specs.declared.kit.NodesView.{NodesView}
use Rattle.sat_base.proofs.TextLemmas.{map_some}

says : (pieces : List Held) (ask : Ask) (expect : List ℕ) (fetched : Fetched) → is_out_of_memory fetched ≡ false → Fetches (Some pieces) ask fetched → SaysOfHeld pieces ask expect (checked expect fetched)
says pieces ask expect (fetches.Share bytes) given told = go (bytes_eq (sha256 bytes) expect) refl
  where
    there : (whole : List ℕ) × (asked_of pieces ask ≡ Some whole) × (range_of ask whole ≡ bytes)
    there = map_some (range_of ask) (asked_of pieces ask) bytes told

    go : (b : Bool) → bytes_eq (sha256 bytes) expect ≡ b → SaysOfHeld pieces ask expect (if b then checks.Pass else checks.Fail)
    go true is = (there.0, there.1, ap sha256 there.2 ∙ (bytes_eq-Decides (sha256 bytes) expect).0 is)
    go false is = inr (there.0, there.1, λ same. let yes' : bytes_eq (sha256 bytes) expect ≡ true = (bytes_eq-Decides (sha256 bytes) expect).1 (ap sha256 (sym there.2) ∙ same) in absurd (cc))
says pieces ask expect fetches.Missing given told = inl told
says pieces ask expect fetches.NoAnswer given told = tt
says pieces ask expect fetches.NoMemory given told = absurd (cc)

pub says_of_held : (secret : List ℕ) (scheme : Scheme) (plan : RecheckPlan) (place : Place) (old : NodesView) (found : Checked) (new : NodesView) (pieces : List Held) → IsRechecked secret scheme plan place old found new → old.held ≡ Some pieces
    → SaysOfHeld pieces (recheck_ask secret scheme plan place) plan.expect found
says_of_held secret scheme plan place old found new pieces is told =
    let ask = recheck_ask secret scheme plan place in
    subst (SaysOfHeld pieces ask plan.expect) (sym is.found_is)
    (says pieces ask plan.expect is.fetched is.given (subst (λ (o : Option (List Held)). Fetches o ask is.fetched) told is.told))

rose : (expect : List ℕ) (fetched : Fetched) (old new : ℕ) → is_out_of_memory fetched ≡ false → CountsExactly (is_unanswered fetched) old new → checked expect fetched ≡ checks.Silent → new ≡ raised old
rose expect (fetches.Share bytes) old new given counts silent = go (bytes_eq (sha256 bytes) expect) silent
  where
    go : (b : Bool) → (if b then checks.Pass else checks.Fail) ≡ checks.Silent → new ≡ raised old
    go true is = absurd (cc)
    go false is = absurd (cc)
rose expect fetches.Missing old new given counts silent = absurd (cc)
rose expect fetches.NoAnswer old new given counts silent = counts.1
rose expect fetches.NoMemory old new given counts silent = absurd (cc)

pub silent_rose : (secret : List ℕ) (scheme : Scheme) (plan : RecheckPlan) (place : Place) (old : NodesView) (found : Checked) (new : NodesView) → IsRechecked secret scheme plan place old found new → found ≡ checks.Silent → new.faults ≡ raised old.faults
silent_rose secret scheme plan place old found new is silent = rose plan.expect is.fetched old.faults new.faults is.given is.counted (sym is.found_is ∙ silent)
