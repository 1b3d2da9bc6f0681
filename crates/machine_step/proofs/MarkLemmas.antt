-- What marks and nodes that keep their rules say of months, hours and the order of nodes.
use Rattle.std.proofs.Common.{◌≡◌, ℕ, suc, ◌+◌, ◌/◌, ◌<◌, ◌≤◌, ◌^◌, true, List, [], ◌∷◌, None, sym, ◌∙◌, arith}
use Rattle.std.specs.Prelude.{nat_le}
use Rattle.std.proofs.lemmas.Bool.Decides.{nat_tests}
use Rattle.std.proofs.lemmas.Bool.{and_parts}
use Rattle.sat_base.specs.declared.settings.Marks.{Marks}
use Rattle.rows.specs.Rows.{Each, AllAbove, IsRising}
use Rattle.node_registry.specs.declared.node.Node.{Node}
use Rattle.node_registry.specs.Registry.{node_rank}
use Rattle.month_pay.specs.Months.{month_at}
use Rattle.month_pay.specs.Keeping.{AreNodes}
use Rattle.month_pay.proofs.MonthFacts.{month_mono, begun_is}
use Rattle.machine_step.specs.Tables.{Setup}
use Rattle.machine_step.specs.Rules.{first_bad, has_begun, are_sound_marks, breaks_node}

-- the next month to close has begun at each later moment
pub month-open : (setup : Setup) (marks : Marks) (time : ℕ) → marks.time ≤ time → are_sound_marks setup marks ≡ true → marks.month.0 ≤ month_at time
month-open setup marks time le sound =
    let first = and_parts (nat_le setup.first_month marks.month.0) _ sound in
    let second = and_parts (has_begun marks.month.0 marks.time) _ first.1 in
    let begun : nat_le marks.month.0 (month_at marks.time) ≡ true = sym (begun_is marks.month.0 marks.time) ∙ second.0 in
    let now : marks.month.0 ≤ month_at marks.time = grind (arith, nat_tests, begun) in
    omega (arith, now, month_mono marks.time time le)

pub month-first : (setup : Setup) (marks : Marks) → are_sound_marks setup marks ≡ true → setup.first_month ≤ marks.month.0
month-first setup marks sound = let first = (and_parts (nat_le setup.first_month marks.month.0) _ sound).0 in grind (arith, nat_tests, first)

-- the least hour to tally is at most the next one, at each later moment
pub hour-most : (setup : Setup) (marks : Marks) (time : ℕ) → marks.time ≤ time → are_sound_marks setup marks ≡ true → marks.hour.0 ≤ time / 3600 + 1
hour-most setup marks time le sound =
    let first = and_parts (nat_le setup.first_month marks.month.0) _ sound in
    let second = and_parts (has_begun marks.month.0 marks.time) _ first.1 in
    let third = (and_parts (nat_le marks.hour.0 (marks.time / 3600 + 1)) _ second.1).0 in
    let more : marks.time / 3600 ≤ time / 3600 = omega arith in
    grind (arith, nat_tests, third, more)

module _ (setup : Setup) (marks : Marks) where
  nodes-above : (rows : List Node) (i n : ℕ) → n ≤ i → first_bad (breaks_node setup marks) i rows ≡ None → AllAbove node_rank n rows
  nodes-above [] i n le h = tt
  nodes-above (first ∷ rows) i n le h =
      let rest : first_bad (breaks_node setup marks) (suc i) rows ≡ None = grind (arith, nat_tests, h) in
      let here : first.id.0 ≡ suc i = grind (arith, nat_tests, h) in
      (omega (arith, here), nodes-above rows (suc i) n (omega arith) rest)

  nodes-rise : (rows : List Node) (i : ℕ) → first_bad (breaks_node setup marks) i rows ≡ None → IsRising node_rank rows
  nodes-rise [] i h = tt
  nodes-rise (first ∷ rows) i h =
      let rest : first_bad (breaks_node setup marks) (suc i) rows ≡ None = grind (arith, nat_tests, h) in
      let here : first.id.0 ≡ suc i = grind (arith, nat_tests, h) in
      (nodes-above rows (suc i) first.id.0 (omega (arith, here)) rest, nodes-rise rows (suc i) rest)

  nodes-low : (rows : List Node) (i : ℕ) → setup.caps.nodes ≤ 65536 → first_bad (breaks_node setup marks) i rows ≡ None → Each (λ node. node.id.0 < 2 ^ 32) rows
  nodes-low [] i few h = tt
  nodes-low (first ∷ rows) i few h =
      let rest : first_bad (breaks_node setup marks) (suc i) rows ≡ None = grind (arith, nat_tests, h) in
      let here : first.id.0 ≡ suc i = grind (arith, nat_tests, h) in
      let within : i < setup.caps.nodes = grind (arith, nat_tests, h) in
      (omega (arith, here, within, few), nodes-low rows (suc i) few rest)

  pub are_nodes : (rows : List Node) → setup.caps.nodes ≤ 65536 → first_bad (breaks_node setup marks) 0 rows ≡ None → AreNodes rows
  are_nodes rows few h = record { rising = nodes-rise rows 0 h; some = nodes-above rows 0 0 (omega arith) h; low = nodes-low rows 0 few h }
