use Rattle.std.specs.Prelude.{ℕ, List, [], ◌∷◌, ◌++◌, map, filter, flat_map, not, bytes_eq}
use Rattle.th_observations.specs.Observed.{Observed}
use Rattle.th_tables.specs.Rows.{BenchmarkRows}

-- each name once, at its first occurrence
abbrev pub distinct : List (List ℕ) → List (List ℕ)
distinct [] = []
distinct (name ∷ names) = name ∷ filter (λ later. not (bytes_eq name later)) (distinct names)

-- the ends of the observations in their order, each station before its target
abbrev pub ends : List Observed → List (List ℕ)
ends observations = flat_map (λ o. o.station ∷ o.target ∷ []) observations

-- the points of a network: the ends in the order of their first occurrence, then the benchmarks that are no end, in table order
unfoldable pub points : List Observed → BenchmarkRows → List (List ℕ)
points observations benchmarks = distinct (ends observations ++ map (λ row. row.0) benchmarks)
