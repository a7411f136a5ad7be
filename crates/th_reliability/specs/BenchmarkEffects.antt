-- What a wrong height of a benchmark does: it is a mistake that all observations with an end there share.
use Rattle.std.specs.Prelude.{◌≡◌, ◌≢◌, ℕ, ◌≤◌, Bool, true, false, List, Option, Some, None, IsSome, count_by, length}
use Rattle.th_tables.specs.Rows.{BenchmarkRows, height_of}
use Rattle.th_network.specs.Networks.{Survey}
use Rattle.th_reliability.specs.Benchmarks.{has_end}
use Rattle.th_reliability.specs.Blunders.{weight_in}
use Rattle.th_reliability.specs.Cuts.{cut}
use Rattle.th_reliability.specs.Effects.{IsEffect}
use Rattle.th_reliability.specs.declared.benchmarks.BenchmarkEffect.{BenchmarkEffect}
use Rattle.th_reliability.specs.declared.effects.Effect.{Effect}

-- the benchmark is in the set, and no other one is
pub record IsOwnSet (benchmarks : BenchmarkRows) (point : List ℕ) (inside : List ℕ → Bool) : Type 0 where
  pub holds : inside point ≡ true
  pub others : (name : List ℕ) → name ≢ point → IsSome (height_of benchmarks name) → inside name ≡ false

-- the strength of a benchmark: the least cut between it and all others
pub record IsBenchmarkStrength (survey : Survey) (point : List ℕ) (strength : ℕ) : Type 0 where
  pub reached : (inside : List ℕ → Bool) × IsOwnSet survey.benchmarks point inside × (cut survey.observations survey.weights inside ≡ strength)
  pub least : (inside : List ℕ → Bool) → IsOwnSet survey.benchmarks point inside → strength ≤ cut survey.observations survey.weights inside

-- it has none if there is no other benchmark
abbrev pub HasBenchmarkStrength : Survey → List ℕ → Option ℕ → Type 0
HasBenchmarkStrength survey point None = length survey.benchmarks ≤ 1
HasBenchmarkStrength survey point (Some strength) = (2 ≤ length survey.benchmarks) × IsBenchmarkStrength survey point strength

-- a wrong height does nothing if no observation has an end at the benchmark
abbrev pub HasBenchmarkEffect : Survey → List ℕ → Option Effect → Type 0
HasBenchmarkEffect survey point None = count_by (has_end point) survey.observations ≡ 0
HasBenchmarkEffect survey point (Some effect) = (1 ≤ count_by (has_end point) survey.observations) × IsEffect survey (has_end point) effect

-- how many observations have an end at the benchmark, what they weigh, its strength, and what a wrong height does
pub record IsBenchmarkEffect (survey : Survey) (point : List ℕ) (found : BenchmarkEffect) : Type 0 where
  pub sights : found.sights ≡ count_by (has_end point) survey.observations
  pub weight : found.weight ≡ weight_in survey.observations survey.weights (has_end point)
  pub strength : HasBenchmarkStrength survey point found.strength
  pub effect : HasBenchmarkEffect survey point found.effect
