use Rattle.std.proofs.Common.{arith}
use Rattle.std.proofs.lemmas.Int.{ints}
use Rattle.th_circulation.specs.Inside.Bounds.{height_bound}
use Rattle.th_search.proofs.WithinLemmas.{all_within, set_any}
use Rattle.th_circulation.proofs.heights.take.Goals as goal

pub loop-vertex-preserved : goal.loop-vertex-preserved
loop-vertex-preserved c =
    let low = c.clamp.ensures.lower_bound in
    let high = c.clamp.ensures.upper_bound in
    λ v. set_any height_bound c.loop-vertex.heights c.loop-vertex.vertex _ v (omega (arith, ints)) (c.loop-vertex.invariant v)

pub returns : goal.returns
returns c =
    let each = c.requires.heights.each in
    let same = c.loop-vertex.auto.heights in
    record { within = all_within c.args.vertices height_bound c.loop-vertex.heights (omega arith) (λ v h. c.loop-vertex.invariant v) }
