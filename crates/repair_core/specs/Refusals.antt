-- Why stripes weren't rebuilt.
use Rattle.std.specs.Prelude.{ℕ, List}
use Rattle.sat_base.specs.declared.items.Share.{Share}
use Rattle.repair_core.specs.declared.rebuilt.RebuildErr.{RebuildErr}
use Rattle.repair_core.specs.declared.rebuilt.RebuildErr.TheVariants.{Few, Unclear, NoMemory}
use Rattle.repair_core.specs.Stripes.{IsUnclear}

-- where enough pieces came: for lack of memory, or as this stripe is the first that none is near
abbrev pub IsRefusal : ℕ → ℕ → ℕ → List Share → RebuildErr → Type 0
IsRefusal k size count pieces (Few answered) = ⊥
IsRefusal k size count pieces (Unclear s) = IsUnclear k size count pieces s
IsRefusal k size count pieces NoMemory = Unit {0}
