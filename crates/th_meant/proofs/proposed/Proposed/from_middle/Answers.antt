use Rattle.std.proofs.Common.{ℤ, arith, of_z, to_z}
use Rattle.std.specs.Int.{w128}
use Rattle.std.specs.Prelude.{◌+ℤ◌, ◌-ℤ◌}
use Rattle.std.proofs.lemmas.Int.{ints}
use Rattle.th_meant.proofs.PlainLemmas.{size_of}
use Rattle.th_meant.proofs.proposed.Proposed.from_middle.Goals as goal

pub returns : goal.returns
returns c =
    let own = c.args.self.now in
    let wide = λ (z : ℤ). to_z w128 (of_z w128 z) in
    size_of (wide (wide (wide c.from.result +ℤ wide c.from-2.result) -ℤ wide (wide c.from-3.result +ℤ wide c.from-4.result))) ((c.args.height +ℤ c.args.height) -ℤ (own.low +ℤ own.high)) c.unsigned_abs.result c.unsigned_abs.ensures.value (omega (arith, ints))
