-- Benchmarks that are tied to another one.
use Rattle.std.specs.Prelude.{◌≡◌, ◌≢◌, ◌↔◌, ℕ, ℤ, true, List, IsSome}
use Rattle.std.specs.List.{AllZip}
use Rattle.th_network.specs.Networks.{Survey}
use Rattle.th_network.specs.Walks.{Walk}
use Rattle.th_tables.specs.Rows.{height_of}
use Rattle.th_numbers.specs.declared.ties.TiedRow.{TiedRow}

-- a chain of observations leads from a point to another one that is a benchmark
abbrev pub IsTiedOn : Survey → List ℕ → Type 0
IsTiedOn survey name = (other : List ℕ) × IsSome (height_of survey.benchmarks other) × (other ≢ name) × Walk survey.observations name other

-- the name of a row of the benchmarks' table, and whether that is so
pub record IsTold (survey : Survey) (row : List ℕ × ℤ) (own : TiedRow) : Type 0 where
  pub name : own.name ≡ row.0
  pub tied : (own.tied ≡ true) ↔ IsTiedOn survey row.0

-- for each row
abbrev pub AreTiedRows : Survey → List TiedRow → Type 0
AreTiedRows survey tied = AllZip (IsTold survey) survey.benchmarks tied
