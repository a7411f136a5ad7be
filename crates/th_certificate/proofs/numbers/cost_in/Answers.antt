use Rattle.std.proofs.Common.{◌≡◌, true, arith, rules}
use Rattle.th_units.specs.Lengths.{are_digits}
use Rattle.th_certificate.proofs.NumberLemmas.{cost_read}
use Rattle.th_certificate.proofs.numbers.cost_in.Goals as goal

pub returns : goal.returns
returns c =
    let digits : are_digits c.args.field.now ≡ true = search rules in
    cost_read c.args.field.now c.capped_number.result digits (omega arith) c.capped_number.ensures
