use Rattle.std.proofs.Common.{◌≡◌, FitsSigned, rules, to_z, w64, arith}
use Rattle.std.proofs.lemmas.Int.{ints}
use Rattle.th_explain.proofs.ExplainLemmas.{round_of}
use Rattle.th_explain.proofs.ReachLemmas.{far_above, freed_within}
use Rattle.th_changes.proofs.TiltLemmas.{reach_small}
use Rattle.th_explain.proofs.reaching.least_above.Goals as goal

pub overflow_cast-reach : goal.overflow_cast-reach
overflow_cast-reach c = let small = reach_small c.args.number.now c.args.network.now.observations in omega (arith, ints)

pub slope_at-requires : goal.slope_at-requires
slope_at-requires c = let small = reach_small c.args.number.now c.args.network.now.observations in omega (arith, ints)

pub returns-then-far-le0 : goal.returns-then-far-le0
returns-then-far-le0 c =
    let small = reach_small c.args.number.now c.args.network.now.observations in
    let at_far : c.in_ok-far.far.change ≡ to_z w64 c.args.reach = c.in_ok-far.ensures.at in
    let far_fits : FitsSigned w64 c.in_ok-far.far.slope = search rules in
    record {
      least =
          far_above c.args.network.now c.args.number.now c.in_ok-far.far c.in_ok-far.ensures.sloped (omega (arith, ints)) (omega (arith, ints));
    }

pub freed_between-requires : goal.freed_between-requires
freed_between-requires c =
    let small = reach_small c.args.number.now c.args.network.now.observations in
    let at_far : c.in_ok-far.far.change ≡ to_z w64 c.args.reach = c.in_ok-far.ensures.at in
    let far_fits : FitsSigned w64 c.in_ok-far.far.slope = search rules in
    round_of c.args.network.now c.args.number.now c.args.given c.in_ok-far.far c.requires.given c.in_ok-far.ensures.sloped
    (omega (arith, ints)) (omega (arith, ints)) c.requires.falls (omega (arith, ints)) (omega (arith, ints))

pub returns : goal.returns
returns c =
    let small = reach_small c.args.number.now c.args.network.now.observations in
    let at_far : c.in_ok-far.far.change ≡ to_z w64 c.args.reach = c.in_ok-far.ensures.at in
    let far_fits : FitsSigned w64 c.in_ok-far.far.slope = search rules in
    record {
      least =
          freed_within c.args.network.now c.args.number.now c.args.given c.in_ok-far.far c.in_ok-freed.freed c.requires.given c.requires.falls c.in_ok-far.ensures.sloped
          (omega (arith, ints)) (omega (arith, ints)) (omega (arith, ints)) c.in_ok-freed.ensures.exact;
    }
