use Rattle.std.specs.Prelude.{◌≤◌, ℕ, ℤ, All, List, Option, unwrap_or, bytes_eq, unsigned_abs}
use Rattle.std.specs.List.{IsDistinct}
use Rattle.std.specs.Map.{keys_of, lookup}
use Rattle.gsi_word.specs.Names.{same_pair}
use Rattle.th_units.specs.Limits.{max_len}
use Rattle.th_tables.specs.Limits.{max_weight}

-- the rows of the benchmarks: each name and its height in units of 10 nm
abbrev pub BenchmarkRows : Type 0
BenchmarkRows = List (List ℕ × ℤ)

-- the rows of the weights: each station and target, and the weight of their observations
abbrev pub WeightRows : Type 0
WeightRows = List ((List ℕ × List ℕ) × ℕ)

-- the height of a benchmark; none for any other name
abbrev pub height_of : BenchmarkRows → List ℕ → Option ℤ
height_of benchmarks name = lookup (bytes_eq name) benchmarks

-- the weight listed for a station and a target, in this order; 1 if none is listed
abbrev pub weight_of : WeightRows → List ℕ → List ℕ → ℕ
weight_of weights station target = unwrap_or (lookup (same_pair (station, target)) weights) 1

-- a weight that an observation may have: from 1 to 1,000
abbrev pub IsWeight : ℕ → Type 0
IsWeight weight = (1 ≤ weight) × (weight ≤ max_weight)

-- rows that a table of benchmarks may have: each name has one row, and each height is at most 10 km in size
pub record AreBenchmarks (rows : BenchmarkRows) : Type 0 where
  pub distinct : IsDistinct bytes_eq (keys_of rows)
  pub heights : All (λ row. unsigned_abs row.1 ≤ max_len) rows

-- rows that a table of weights may have: each station and target have one row
pub record AreWeights (rows : WeightRows) : Type 0 where
  pub distinct : IsDistinct same_pair (keys_of rows)
  pub weights : All (λ row. IsWeight row.1) rows
