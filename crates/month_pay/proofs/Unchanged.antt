-- The rule is kept where what the closed months were paid by stays the same.
use Rattle.std.proofs.Common.{◌≡◌, ℕ, ◌<◌, Bool, true, false, not, List, Option, Some, None, refl, sym, ap, subst, ◌∙◌, arith}
use Rattle.std.specs.Prelude.{◌==◌, ◌||◌}
use Rattle.std.specs.List.{list_all}
use Rattle.std.proofs.lemmas.Bool.Decides.{nat_tests}
use Rattle.std.proofs.lemmas.Bool.{and_parts, and_from}
use Rattle.node_registry.specs.declared.node.Node.{Node}
use Rattle.node_registry.specs.Registry.{node_at}
use Rattle.tally_payout.specs.declared.amounts.Statement.{Statement}
use Rattle.node_registry.specs.Standing.{is_disqualified}
use Rattle.month_pay.specs.Ledger.{Ledger, has_joined, stated}
use Rattle.month_pay.specs.Rule.{same_statement, follows, is_sound_statement}
use Rattle.month_pay.specs.Keeping.{Covers, RuleHolds, IsSameNode, StaysAs, SamePay}
use Rattle.month_pay.proofs.ListFacts.{all-weaker}

-- a test that weakens
either : (a b c : Bool) → (b ≡ true → c ≡ true) → (not a || b) ≡ true → (not a || c) ≡ true
either true b c so h = so h
either false b c so h = refl

module _ (old new : Ledger) (same : SamePay old new) where
  stated-same : (month : ℕ) (node node' : Node) (gone : Bool) → month < old.next → IsSameNode node node' → stated new month node' gone ≡ stated old month node gone
  unfolding stated
  stated-same month node node' gone lt is =
      let settled = same.settled node.id month lt in
      let tallied = same.tallied node.id month lt in
      let left = same.left node.id month lt in
      let rates = same.rates month lt in
      rw (is.id, is.joined, settled, tallied, left, same.statements, rates) refl

  joined-same : (month : ℕ) (node node' : Node) → IsSameNode node node' → has_joined month node ≡ true → has_joined month node' ≡ true
  unfolding has_joined
  joined-same month node node' is h = rw is.joined h

  follows-same : (s : Statement) (found found' : Option Node) → s.month.0 < old.next → ((node : Node) → found ≡ Some node → StaysAs node found') → follows old s found ≡ true → follows new s found' ≡ true
  unfolding follows
  follows-same s None found' lt stays h = cc
  follows-same s (Some node) None lt stays h = absurd (stays node refl)
  follows-same s (Some node) (Some node') lt stays h =
      let is = stays node refl in
      let first = and_parts _ _ h in
      let second = and_parts _ _ first.1 in
      and_from _ _ (joined-same s.month.0 node node' is first.0)
      (and_from _ _ (either (s.percent == 100) (is_disqualified node.status) (is_disqualified node'.status) is.gone second.0)
      (ap (same_statement s) (stated-same s.month.0 node node' (s.percent == 100) lt is) ∙ second.1))

  sound-same : (s : Statement) → is_sound_statement old s ≡ true → is_sound_statement new s ≡ true
  sound-same s h =
      let parts = and_parts _ _ h in
      let closed = parts.0 in
      let lt : s.month.0 < old.next = grind (arith, nat_tests, closed) in
      and_from _ _ (rw (same.first, same.next) closed) (follows-same s (node_at old.nodes s.node) (node_at new.nodes s.node) lt (λ node at. same.nodes s.node node at) parts.1)

  pub same_keeps : (cap : ℕ) → RuleHolds cap old → RuleHolds cap new
  same_keeps cap h = record {
    few = rw same.statements h.few;
    all = subst (λ (rows : List Statement). list_all (is_sound_statement new) rows ≡ true) (sym same.statements) (all-weaker (is_sound_statement old) (is_sound_statement new) sound-same old.statements h.all);
    due = λ month le lt. subst (λ (rows : List Statement). Covers rows month new.nodes) (sym same.statements) (same.joins old.statements month (rw same.next at lt) (h.due month (rw same.first at le) (rw same.next at lt)));
  }
