-- The answers of a round, and how those without one are counted.
use Rattle.std.specs.Prelude.{◌≡◌, ℕ, ◌+◌, ◌-◌, ◌^◌, List, count_by, min}
use Rattle.std.specs.List.{AllZip}
use Rattle.sat_base.specs.declared.nodes.Ask.{Ask}
use Rattle.sat_base.specs.declared.nodes.Fetched.{Fetched}
use Rattle.sat_base.specs.Nodes.{is_out_of_memory}
use Rattle.node_wire.specs.Answers.{IsHeardFetch}

-- an answer to each ask, in order: what the bytes of some answer say, and none for lack of memory
pub record HeardAll (asked : List Ask) (answers : List Fetched) : Type 0 where
  pub each : AllZip IsHeardFetch asked answers
  pub none : count_by is_out_of_memory answers ≡ 0

-- so many more, up to the end of a u64
abbrev pub raised_by : ℕ → ℕ → ℕ
raised_by n count = min (count + n) (2 ^ 64 - 1)
