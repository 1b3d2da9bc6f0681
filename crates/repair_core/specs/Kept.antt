-- What the windows of a rebuilding leave as it is.
use Rattle.std.specs.Prelude.{◌≡◌, ℕ, List}
use Rattle.repair_core.specs.Progress.{Progress}

-- the scheme's numbers, the stripes in all and the sources are these
pub record IsKept (k size n count : ℕ) (sources : List ℕ) (now : Progress) : Type 0 where
  pub k_is : now.k ≡ k
  pub size_is : now.size ≡ size
  pub n_is : now.n ≡ n
  pub count_is : now.count ≡ count
  pub sources_are : now.sources ≡ sources
