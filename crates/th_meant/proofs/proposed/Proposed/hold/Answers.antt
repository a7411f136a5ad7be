use Rattle.std.proofs.Common.{ℤ, arith, of_z, to_z}
use Rattle.std.specs.Int.{w128}
use Rattle.std.specs.Prelude.{pos, ◌+ℤ◌, ◌-ℤ◌}
use Rattle.std.proofs.lemmas.Int.{ints}
use Rattle.th_meant.proofs.PlainLemmas.{between_ends}
use Rattle.th_meant.proofs.proposed.Proposed.hold.Goals as goal

pub returns-then-from-tolerance : goal.returns-then-from-tolerance
returns-then-from-tolerance c =
    let own = c.args.self.now in
    let wide = λ (z : ℤ). to_z w128 (of_z w128 z) in
    between_ends (wide (wide c.from.result -ℤ wide c.from-tolerance.result)) (wide c.from-height.result) (wide c.from-height.result) (wide (wide c.from-then-from-tolerance.result +ℤ wide c.from-tolerance.result))
    (own.low -ℤ pos own.tolerance) c.args.height (own.high +ℤ pos own.tolerance) c.if-from-tolerance.true (omega (arith, ints)) (omega (arith, ints)) (omega (arith, ints)) (omega (arith, ints))
