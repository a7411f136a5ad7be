-- What the other benchmarks say of the height of one.
use Rattle.std.specs.Prelude.{◌≡◌, ℕ, ℤ, ◌+ℤ◌, List, None}
use Rattle.th_changes.specs.declared.numbers.Number.TheVariants as number
use Rattle.th_explain.specs.Explained.{Explains, IsExplainedOrNone}
use Rattle.th_explain.specs.declared.freed.Freed.{Freed}
use Rattle.th_network.specs.Networks.{Survey}
use Rattle.th_numbers.specs.Ties.{IsTiedOn}
use Rattle.th_answer.specs.declared.answers.Others.{Others}
use Rattle.th_answer.specs.declared.answers.Others.TheVariants.{Nothing, Fits, Differ}

-- a chain of observations leads to another benchmark, and no other height within reach fits better
pub record IsAgreed (survey : Survey) (name : List ℕ) : Type 0 where
  pub tied : IsTiedOn survey name
  pub fits : IsExplainedOrNone survey 0 (number.Benchmark name) None

-- a chain of observations leads to another benchmark, and the heights that fit best are from the lowest to the highest, none of them the given one
pub record IsDifferent (survey : Survey) (name : List ℕ) (given low high : ℤ) : Type 0 where
  pub tied : IsTiedOn survey name
  pub freed : Freed
  pub explains : Explains survey 0 (number.Benchmark name) freed
  pub lowest : low ≡ given +ℤ freed.low
  pub highest : high ≡ given +ℤ freed.high

-- what the others say of a row of the benchmarks' table
abbrev pub IsSaid : Survey → List ℕ × ℤ → Others → Type 0
IsSaid survey (name, given) Nothing = ¬ IsTiedOn survey name
IsSaid survey (name, given) Fits = IsAgreed survey name
IsSaid survey (name, given) (Differ low high) = IsDifferent survey name given low high
