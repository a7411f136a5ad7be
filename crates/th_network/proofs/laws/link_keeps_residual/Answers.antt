-- Each height is the benchmarks' part and the relative part.
use Rattle.std.proofs.Common.{◌≡◌, ℕ, ℤ, pos, ◌+ℤ◌, List, Option, Some, None, MatchOption, unwrap_or, refl, arith}
use Rattle.std.proofs.lemmas.Int.{ints}
use Rattle.th_tables.specs.Rows.{BenchmarkRows, height_of}
use Rattle.th_network.specs.Heights.{IsHeights}
use Rattle.th_network.specs.Links.{base, IsRelative}
use Rattle.th_network.proofs.laws.link_keeps_residual.Goals as goal

parts : (benchmarks : BenchmarkRows) (heights relative : List ℕ → ℤ) → IsHeights benchmarks heights → IsRelative benchmarks heights relative → (name : List ℕ) → heights name ≡ base benchmarks name +ℤ relative name
parts benchmarks heights relative kept shifted name = by (height_of benchmarks name) (kept name) (shifted name)
  where
    by : (found : Option ℤ) → ((height : ℤ) → found ≡ Some height → heights name ≡ height) → MatchOption found (relative name ≡ heights name) (λ _. relative name ≡ pos 0) → heights name ≡ unwrap_or found (pos 0) +ℤ relative name
    by None kept shifted = omega (arith, ints)
    by (Some height) kept shifted = let same = kept height refl in omega (arith, ints)

pub returns : goal.returns
returns c = λ o benchmarks heights relative kept shifted.
    let station = parts benchmarks heights relative kept shifted o.station in
    let target = parts benchmarks heights relative kept shifted o.target in
    omega (arith, ints)
