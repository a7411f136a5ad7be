-- Each is nowhere above the other.
use Rattle.std.proofs.Common.{arith}
use Rattle.std.proofs.lemmas.Int.{ints}
use Rattle.th_circulation.proofs.laws.lowest_and_highest_are_one.Goals as goal

pub returns : goal.returns
returns c = record {
  low = λ observations benchmarks weights first second a b k d within.
      let low = a.lowest second b.best k d within in
      let high = b.lowest first a.best k d within in
      omega (arith, ints);
  high = λ observations benchmarks weights first second a b k d within.
      let low = a.highest second b.best k d within in
      let high = b.highest first a.best k d within in
      omega (arith, ints);
}
