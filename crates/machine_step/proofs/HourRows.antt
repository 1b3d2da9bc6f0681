-- The rows of an hour that is tallied: their order, and the rule that they keep.
use Rattle.std.proofs.Common.{◌≡◌, ℕ, ◌+◌, ◌*◌, ◌<◌, ◌^◌, Bool, true, false, not, List, [], ◌∷◌, Option, Some, None, is_some, refl, ap, arith}
use Rattle.std.specs.Prelude.{if◌then◌else◌, nat_lt, nat_le, ◌==◌, map, filter}
use Rattle.std.specs.List.{list_all}
use Rattle.std.proofs.lemmas.Bool.Decides.{nat_tests}
use Rattle.std.proofs.lemmas.Bool.{and_parts, and_from}
use Rattle.sat_base.specs.declared.settings.Marks.{Marks}
use Rattle.rows.specs.Rows.{AllAbove, IsRising}
use Rattle.rows.proofs.Found.{rank-found}
use Rattle.node_registry.specs.declared.node.Node.{Node}
use Rattle.node_registry.specs.Registry.{node_rank, node_at}
use Rattle.tally_payout.specs.declared.amounts.Tally.{Tally}
use Rattle.tally_payout.specs.Ranks.{tally_rank}
use Rattle.month_pay.specs.Keeping.{AreNodes}
use Rattle.machine_step.specs.Tables.{Tables}
use Rattle.machine_step.specs.Stored.{stored_bytes}
use Rattle.machine_step.specs.Calls.TallyHour.{tally_of}
use Rattle.machine_step.specs.Rules.{is_known, is_sound_tally}
use Rattle.machine_step.specs.Bounds.{Each, IsValid}
use Rattle.machine_step.proofs.RowLemmas.{each-found}
use Rattle.machine_step.proofs.MarkLemmas.{are_nodes}
use Rattle.machine_step.proofs.StoredMost.{stored-most}

module _ (t : Tables) (v : IsValid t) where
  pub nodes_are : AreNodes t.nodes
  nodes_are = are_nodes t.setup t.marks t.nodes v.bounds.setup.caps.nodes.1 v.rules.nodes

  module _ (hour : ℕ) where
    abbrev pub hour_of : List Node → List Tally
    hour_of nodes = filter (λ tally. not (tally.bytes == 0)) (map (tally_of t hour) nodes)

    pub hours : (nodes : List Node) → Each (λ tally. tally.hour.0 ≡ hour) (hour_of nodes)
    hours [] = tt
    hours (node ∷ rest) = go (not (stored_bytes t.setup t.segments node == 0)) (hours rest)
      where
        go : (b : Bool) → Each (λ tally. tally.hour.0 ≡ hour) (hour_of rest) → Each (λ tally. tally.hour.0 ≡ hour) (if b then tally_of t hour node ∷ hour_of rest else hour_of rest)
        go true later = (refl, later)
        go false later = later

    pub hour-above : (nodes : List Node) (n : ℕ) → AllAbove node_rank n nodes → AllAbove tally_rank (hour * 2 ^ 32 + n) (hour_of nodes)
    hour-above [] n above = tt
    hour-above (node ∷ rest) n above = go (not (stored_bytes t.setup t.segments node == 0)) (hour-above rest n above.1)
      where
        go : (b : Bool) → AllAbove tally_rank (hour * 2 ^ 32 + n) (hour_of rest) → AllAbove tally_rank (hour * 2 ^ 32 + n) (if b then tally_of t hour node ∷ hour_of rest else hour_of rest)
        go true later = (omega (arith, above.0), later)
        go false later = later

    pub hour-rise : (nodes : List Node) → IsRising node_rank nodes → IsRising tally_rank (hour_of nodes)
    hour-rise [] rising = tt
    hour-rise (node ∷ rest) rising = go (not (stored_bytes t.setup t.segments node == 0)) (hour-rise rest rising.1)
      where
        go : (b : Bool) → IsRising tally_rank (hour_of rest) → IsRising tally_rank (if b then tally_of t hour node ∷ hour_of rest else hour_of rest)
        go true later = (hour-above rest node.id.0 rising.0, later)
        go false later = later

    pub hour-sound : (marks : Marks) (nodes : List Node) → hour < marks.hour.0 → Each (λ node. node_at t.nodes node.id ≡ Some node) nodes → list_all (is_sound_tally marks t.nodes) (hour_of nodes) ≡ true
    hour-sound marks [] lt each = refl
    hour-sound marks (node ∷ rest) lt each = go (stored_bytes t.setup t.segments node == 0) refl (hour-sound marks rest lt each.1)
      where
        go : (b : Bool) → (stored_bytes t.setup t.segments node == 0) ≡ b → list_all (is_sound_tally marks t.nodes) (hour_of rest) ≡ true → list_all (is_sound_tally marks t.nodes) (if not b then tally_of t hour node ∷ hour_of rest else hour_of rest) ≡ true
        go true e later = later
        go false e later =
            let some : nat_le 1 (stored_bytes t.setup t.segments node) ≡ true = grind (arith, nat_tests, e) in
            let bound = stored-most t v node in
            let most : nat_le (stored_bytes t.setup t.segments node) (2 ^ 44) ≡ true = grind (arith, nat_tests, bound) in
            let early : nat_lt hour marks.hour.0 ≡ true = grind (arith, nat_tests, lt) in
            and_from _ _ (and_from _ _ (ap is_some each.0) (and_from _ _ early (and_from _ _ some most))) later

  pub tally-low : (row : Tally) → is_sound_tally t.marks t.nodes row ≡ true → (row.hour.0 < t.marks.hour.0) × (row.node.0 < 2 ^ 32)
  tally-low row sound =
      let parts = and_parts (is_known t.nodes row.node) _ sound in
      let more = and_parts (nat_lt row.hour.0 t.marks.hour.0) _ parts.1 in
      let early = more.0 in
      (grind (arith, nat_tests, early), go (node_at t.nodes row.node) refl parts.0)
    where
      go : (found : Option Node) → node_at t.nodes row.node ≡ found → is_some found ≡ true → row.node.0 < 2 ^ 32
      go None at h = cc
      go (Some node) at h =
          let same : node.id.0 ≡ row.node.0 = rank-found node_rank t.nodes row.node.0 node at in
          let low : node.id.0 < 2 ^ 32 = each-found node_rank (λ (x : Node). x.id.0 < 2 ^ 32) t.nodes row.node.0 node (nodes_are).low at in
          omega arith
