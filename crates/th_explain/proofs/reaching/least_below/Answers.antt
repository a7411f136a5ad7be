use Rattle.std.proofs.Common.{◌≡◌, FitsSigned, ◌-ℤ◌, of_z, pos, rules, to_z, w64, arith}
use Rattle.std.proofs.lemmas.Int.{ints}
use Rattle.th_explain.proofs.ExplainLemmas.{round_of}
use Rattle.th_explain.proofs.ReachLemmas.{far_below, freed_within}
use Rattle.th_changes.proofs.TiltLemmas.{reach_small}
use Rattle.th_explain.proofs.reaching.least_below.Goals as goal

pub overflow_cast-reach : goal.overflow_cast-reach
overflow_cast-reach c = let small = reach_small c.args.number.now c.args.network.now.observations in omega (arith, ints)

pub overflow_sub-reach : goal.overflow_sub-reach
overflow_sub-reach c = let small = reach_small c.args.number.now c.args.network.now.observations in omega (arith, ints)

pub slope_at-requires : goal.slope_at-requires
slope_at-requires c = let small = reach_small c.args.number.now c.args.network.now.observations in omega (arith, ints)

pub returns-then-far-ge0 : goal.returns-then-far-ge0
returns-then-far-ge0 c =
    let small = reach_small c.args.number.now c.args.network.now.observations in
    let at_far : c.in_ok-far.far.change ≡ to_z w64 (of_z w64 (pos 0 -ℤ to_z w64 c.args.reach)) = c.in_ok-far.ensures.at in
    let far_fits : FitsSigned w64 c.in_ok-far.far.slope = search rules in
    record {
      least =
          far_below c.args.network.now c.args.number.now c.in_ok-far.far c.in_ok-far.ensures.sloped (omega (arith, ints)) (omega (arith, ints));
    }

pub freed_between-requires : goal.freed_between-requires
freed_between-requires c =
    let small = reach_small c.args.number.now c.args.network.now.observations in
    let at_far : c.in_ok-far.far.change ≡ to_z w64 (of_z w64 (pos 0 -ℤ to_z w64 c.args.reach)) = c.in_ok-far.ensures.at in
    let far_fits : FitsSigned w64 c.in_ok-far.far.slope = search rules in
    round_of c.args.network.now c.args.number.now c.in_ok-far.far c.args.given c.in_ok-far.ensures.sloped c.requires.given
    (omega (arith, ints)) (omega (arith, ints)) (omega (arith, ints)) c.requires.rises (omega (arith, ints))

pub returns : goal.returns
returns c =
    let small = reach_small c.args.number.now c.args.network.now.observations in
    let at_far : c.in_ok-far.far.change ≡ to_z w64 (of_z w64 (pos 0 -ℤ to_z w64 c.args.reach)) = c.in_ok-far.ensures.at in
    let far_fits : FitsSigned w64 c.in_ok-far.far.slope = search rules in
    record {
      least =
          freed_within c.args.network.now c.args.number.now c.in_ok-far.far c.args.given c.in_ok-freed.freed c.in_ok-far.ensures.sloped (omega (arith, ints)) c.requires.given c.requires.rises
          (omega (arith, ints)) (omega (arith, ints)) c.in_ok-freed.ensures.exact;
    }
