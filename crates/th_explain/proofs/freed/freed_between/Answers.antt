use Rattle.std.proofs.Common.{◌≡◌, FitsSigned, ap, of_z, rules, sym, to_z, w64, ◌∙◌, arith}
use Rattle.std.proofs.lemmas.Int.{ints, to_z-of_z}
use Rattle.th_explain.proofs.BracketLemmas.{flat_above, flat_below, nearest_is_exact, round_left, round_right}
use Rattle.th_changes.proofs.TiltLemmas.{reach_small}
use Rattle.th_explain.proofs.freed.freed_between.Goals as goal

pub overflow_sub-right : goal.overflow_sub-right
overflow_sub-right c =
    let small = reach_small c.args.number.now c.args.network.now.observations in
    let left = c.narrow.invariant.at_left.near in
    let right = c.narrow.invariant.at_right.near in
    omega (arith, ints)

pub between-requires-clause-left : goal.between-requires-clause-left
between-requires-clause-left c =
    let small = reach_small c.args.number.now c.args.network.now.observations in
    let left = c.narrow.invariant.at_left.near in
    omega (arith, ints)

pub between-requires-clause-right : goal.between-requires-clause-right
between-requires-clause-right c =
    let small = reach_small c.args.number.now c.args.network.now.observations in
    let right = c.narrow.invariant.at_right.near in
    omega (arith, ints)

pub between-requires-clause-room : goal.between-requires-clause-room
between-requires-clause-room c =
    let small = reach_small c.args.number.now c.args.network.now.observations in
    let left = c.narrow.invariant.at_left.near in
    let right = c.narrow.invariant.at_right.near in
    omega (arith, ints)

pub slope_at-requires : goal.slope_at-requires
slope_at-requires c =
    let small = reach_small c.args.number.now c.args.network.now.observations in
    let left = c.narrow.invariant.at_left.near in
    let right = c.narrow.invariant.at_right.near in
    omega (arith, ints)

pub flat_at-requires-clause-below : goal.flat_at-requires-clause-below
flat_at-requires-clause-below c =
    let small = reach_small c.args.number.now c.args.network.now.observations in
    let left = c.narrow.invariant.at_left.near in
    let right = c.narrow.invariant.at_right.near in
    let at : c.in_ok-own.own.change ≡ to_z w64 (of_z w64 c.between.result) = c.in_ok-own.ensures.at in
    let fits : FitsSigned w64 c.in_ok-own.own.slope = search rules in
    flat_below c.args.network.now c.args.number.now c.narrow.left c.in_ok-own.own c.narrow.right c.narrow.invariant c.in_ok-own.ensures.sloped
    (omega (arith, ints)) (omega (arith, ints)) (sym (to_z-of_z w64 c.in_ok-own.own.slope fits) ∙ ap (to_z w64) c.if-own-eq0.true)

pub flat_at-requires-clause-above : goal.flat_at-requires-clause-above
flat_at-requires-clause-above c =
    let small = reach_small c.args.number.now c.args.network.now.observations in
    let left = c.narrow.invariant.at_left.near in
    let right = c.narrow.invariant.at_right.near in
    let at : c.in_ok-own.own.change ≡ to_z w64 (of_z w64 c.between.result) = c.in_ok-own.ensures.at in
    let fits : FitsSigned w64 c.in_ok-own.own.slope = search rules in
    flat_above c.args.network.now c.args.number.now c.narrow.left c.in_ok-own.own c.narrow.right c.narrow.invariant c.in_ok-own.ensures.sloped
    (omega (arith, ints)) (omega (arith, ints)) (sym (to_z-of_z w64 c.in_ok-own.own.slope fits) ∙ ap (to_z w64) c.if-own-eq0.true)

pub narrow-preserved-then-own-lt0 : goal.narrow-preserved-then-own-lt0
narrow-preserved-then-own-lt0 c =
    let small = reach_small c.args.number.now c.args.network.now.observations in
    let left = c.narrow.invariant.at_left.near in
    let right = c.narrow.invariant.at_right.near in
    let at : c.in_ok-own.own.change ≡ to_z w64 (of_z w64 c.between.result) = c.in_ok-own.ensures.at in
    let fits : FitsSigned w64 c.in_ok-own.own.slope = search rules in
    round_left c.args.network.now c.args.number.now c.narrow.left c.in_ok-own.own c.narrow.right c.narrow.invariant c.in_ok-own.ensures.sloped
    (omega (arith, ints)) (omega (arith, ints)) (omega (arith, ints))

pub narrow-preserved : goal.narrow-preserved
narrow-preserved c =
    let small = reach_small c.args.number.now c.args.network.now.observations in
    let left = c.narrow.invariant.at_left.near in
    let right = c.narrow.invariant.at_right.near in
    let at : c.in_ok-own.own.change ≡ to_z w64 (of_z w64 c.between.result) = c.in_ok-own.ensures.at in
    let fits : FitsSigned w64 c.in_ok-own.own.slope = search rules in
    round_right c.args.network.now c.args.number.now c.narrow.left c.in_ok-own.own c.narrow.right c.narrow.invariant c.in_ok-own.ensures.sloped
    (omega (arith, ints)) (omega (arith, ints)) (λ same. c.if-own-eq0.false (ap (of_z w64) same)) (λ below. omega (arith, ints))

pub returns : goal.returns
returns c =
    let small = reach_small c.args.number.now c.args.network.now.observations in
    let left = c.narrow.invariant.at_left.near in
    let right = c.narrow.invariant.at_right.near in
    record {
      exact =
          nearest_is_exact c.args.network.now c.args.number.now c.narrow.left c.narrow.right c.nearest.result c.narrow.invariant (λ more. omega (arith, ints)) c.nearest.ensures;
    }
