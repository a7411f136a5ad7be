-- There are no more benchmarks than points.
use Rattle.std.proofs.Common.{◌≡◌, ℕ, ◌≤◌, Bool, true, false, cond, ◌||◌, List, [], ◌∷◌, Some, is_some, bytes_eq, length, refl, sym, ◌∙◌, arith}
use Rattle.std.proofs.lemmas.Cmp.{nat_list_eq_equiv}
use Rattle.std.proofs.lemmas.Map.Entries.{length-keys_of}
use Rattle.std.proofs.lemmas.Map.Made.{length-le_from_is_member}
use Rattle.std.specs.Map.{keys_of}
use Rattle.th_observations.specs.Observed.{Observed}
use Rattle.th_network.specs.Faults.{IsNetwork}
use Rattle.th_network.specs.Limits.{max_points}
use Rattle.th_points.specs.Points.{points}
use Rattle.th_points.proofs.PlaceLemmas.{benchmark_is_point}
use Rattle.th_points.proofs.PointLemmas.{is_among}
use Rattle.th_tables.specs.Rows.{AreBenchmarks, BenchmarkRows, height_of}

among_rows : (benchmarks : BenchmarkRows) (name : List ℕ) → is_among (keys_of benchmarks) name ≡ is_some (height_of benchmarks name)
among_rows [] name = refl
among_rows (row ∷ benchmarks) name = by (bytes_eq name row.0) (among_rows benchmarks name)
  where
    by : (b : Bool) → is_among (keys_of benchmarks) name ≡ is_some (height_of benchmarks name) → (b || is_among (keys_of benchmarks) name) ≡ is_some (cond b (Some row.1) (height_of benchmarks name))
    by true h = refl
    by false h = h

pub few_rows : (observations : List Observed) (benchmarks : BenchmarkRows) → IsNetwork observations benchmarks → AreBenchmarks benchmarks → length benchmarks ≤ max_points
few_rows observations benchmarks network are =
    let less = length-le_from_is_member nat_list_eq_equiv (keys_of benchmarks) (points observations benchmarks) are.distinct
    (λ name here. benchmark_is_point observations benchmarks name (sym (among_rows benchmarks name) ∙ here)) in
    omega (arith, less, network.few_points, length-keys_of benchmarks)
