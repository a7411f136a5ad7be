use Rattle.std.proofs.Common.{arith}
use Rattle.std.proofs.lemmas.Int.{ints}
use Rattle.th_circulation.specs.Inside.Bounds.{height_bound, raised_bound}
use Rattle.th_search.proofs.WithinLemmas.{all_within, set_any}
use Rattle.th_circulation.proofs.HeightLemmas.{near_more}
use Rattle.th_circulation.proofs.heights.take_given.Goals as goal

pub loop-vertex-preserved : goal.loop-vertex-preserved
loop-vertex-preserved c =
    let low = c.clamp.ensures.lower_bound in
    let high = c.clamp.ensures.upper_bound in
    (near_more height_bound c.loop-vertex.heights c.loop-vertex.vertex _ c.loop-vertex.invariant.0 (omega (arith, ints)), λ v. set_any raised_bound c.loop-vertex.heights c.loop-vertex.vertex _ v (omega (arith, ints)) (c.loop-vertex.invariant.1 v))

pub returns : goal.returns
returns c =
    let each = c.requires.heights.each in
    let same = c.loop-vertex.auto.heights in
    let test = c.loop-vertex-test.false in
    record { within = all_within c.args.vertices height_bound c.loop-vertex.heights (omega arith) (λ v h. c.loop-vertex.invariant.0 v (omega arith)) }
