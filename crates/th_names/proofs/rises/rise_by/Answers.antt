use Rattle.std.proofs.Common.{◌≡◌, ap, rules, arith}
use Rattle.std.proofs.lemmas.Int.{ints}
use Rattle.th_search.specs.Potentials.{value_at}
use Rattle.th_names.specs.Inside.Rooted.{step}
use Rattle.th_names.proofs.rises.rise_by.Goals as goal

pub returns-clause-rise : goal.returns-clause-rise
returns-clause-rise c =
    let own = c.requires.own_base in
    let root = c.requires.root_base in
    let small = c.step.ensures.small in
    let is : c.step.result ≡ step c.args.way (value_at c.args.distances.now c.exchanged-vertex.result) = search rules in
    let at = ap (λ v. step c.args.way (value_at c.args.distances.now v)) c.exchanged-vertex.ensures in
    omega (arith, ints)
