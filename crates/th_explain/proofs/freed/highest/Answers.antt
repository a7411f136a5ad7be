use Rattle.std.proofs.Common.{◌≡◌, of_z, to_z, w64, arith}
use Rattle.std.proofs.lemmas.Int.{ints}
use Rattle.th_explain.proofs.BracketLemmas.{flat_is_freed, highest_high, highest_right, step_up_begins, step_up_high, step_up_right}
use Rattle.th_changes.proofs.TiltLemmas.{reach_small}
use Rattle.th_explain.proofs.freed.highest.Goals as goal

pub narrow-init : goal.narrow-init
narrow-init c = step_up_begins c.args.network.now c.args.number.now c.args.flat.now c.args.right c.requires

pub overflow_sub-right : goal.overflow_sub-right
overflow_sub-right c =
    let small = reach_small c.args.number.now c.args.network.now.observations in
    let high = c.narrow.invariant.at_high.near in
    let right = c.narrow.invariant.at_right.near in
    omega (arith, ints)

pub within-change-requires-clause-low : goal.within-change-requires-clause-low
within-change-requires-clause-low c =
    let small = reach_small c.args.number.now c.args.network.now.observations in
    let high = c.narrow.invariant.at_high.near in
    omega (arith, ints)

pub within-change-requires-clause-high : goal.within-change-requires-clause-high
within-change-requires-clause-high c =
    let small = reach_small c.args.number.now c.args.network.now.observations in
    let right = c.narrow.invariant.at_right.near in
    omega (arith, ints)

pub within-change-requires-clause-room : goal.within-change-requires-clause-room
within-change-requires-clause-room c =
    let small = reach_small c.args.number.now c.args.network.now.observations in
    let high = c.narrow.invariant.at_high.near in
    let right = c.narrow.invariant.at_right.near in
    omega (arith, ints)

pub slope_at-requires : goal.slope_at-requires
slope_at-requires c =
    let small = reach_small c.args.number.now c.args.network.now.observations in
    let high = c.narrow.invariant.at_high.near in
    let right = c.narrow.invariant.at_right.near in
    omega (arith, ints)

pub narrow-preserved-then-own-flat : goal.narrow-preserved-then-own-flat
narrow-preserved-then-own-flat c =
    let small = reach_small c.args.number.now c.args.network.now.observations in
    let high = c.narrow.invariant.at_high.near in
    let right = c.narrow.invariant.at_right.near in
    let at : c.in_ok-own.own.change ≡ to_z w64 (of_z w64 c.within-change.result) = c.in_ok-own.ensures.at in
    step_up_high c.args.network.now c.args.number.now c.args.flat.now.cost c.narrow.high c.narrow.right c.in_ok-own.own c.narrow.invariant c.in_ok-own.ensures.sloped
    (omega (arith, ints)) (omega (arith, ints)) c.if-own-flat.true

pub narrow-preserved : goal.narrow-preserved
narrow-preserved c =
    let small = reach_small c.args.number.now c.args.network.now.observations in
    let high = c.narrow.invariant.at_high.near in
    let right = c.narrow.invariant.at_right.near in
    let at : c.in_ok-own.own.change ≡ to_z w64 (of_z w64 c.within-change.result) = c.in_ok-own.ensures.at in
    let freed = flat_is_freed c.args.network.now c.args.number.now c.args.flat.now c.requires.at_flat.sloped c.requires.least in
    step_up_right c.args.network.now c.args.number.now c.args.flat.now.cost c.narrow.high c.narrow.right c.in_ok-own.own freed c.narrow.invariant c.in_ok-own.ensures.sloped
    (omega (arith, ints)) (omega (arith, ints)) c.if-own-flat.false

pub returns-then-right-flat : goal.returns-then-right-flat
returns-then-right-flat c =
    let freed = flat_is_freed c.args.network.now c.args.number.now c.args.flat.now c.requires.at_flat.sloped c.requires.least in
    record {
      highest =
          highest_right c.args.network.now c.args.number.now c.args.flat.now.cost c.narrow.high c.narrow.right freed c.narrow.invariant c.if-right-flat.true;
    }

pub returns-else-right-flat : goal.returns-else-right-flat
returns-else-right-flat c =
    let small = reach_small c.args.number.now c.args.network.now.observations in
    let high = c.narrow.invariant.at_high.near in
    let right = c.narrow.invariant.at_right.near in
    let freed = flat_is_freed c.args.network.now c.args.number.now c.args.flat.now c.requires.at_flat.sloped c.requires.least in
    record {
      highest =
          highest_high c.args.network.now c.args.number.now c.args.flat.now.cost c.narrow.high c.narrow.right freed c.narrow.invariant (λ more. omega (arith, ints)) c.if-right-flat.false;
    }
