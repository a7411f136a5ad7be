use Rattle.std.proofs.Common.{◌≡◌, of_z, to_z, w64, arith}
use Rattle.std.proofs.lemmas.Int.{ints}
use Rattle.th_explain.proofs.BracketLemmas.{flat_is_freed, lowest_left, lowest_low, step_down_begins, step_down_left, step_down_low}
use Rattle.th_changes.proofs.TiltLemmas.{reach_small}
use Rattle.th_explain.proofs.freed.lowest.Goals as goal

pub narrow-init : goal.narrow-init
narrow-init c = step_down_begins c.args.network.now c.args.number.now c.args.left c.args.flat.now c.requires

pub overflow_sub-low : goal.overflow_sub-low
overflow_sub-low c =
    let small = reach_small c.args.number.now c.args.network.now.observations in
    let left = c.narrow.invariant.at_left.near in
    let low = c.narrow.invariant.at_low.near in
    omega (arith, ints)

pub within-change-requires-clause-low : goal.within-change-requires-clause-low
within-change-requires-clause-low c =
    let small = reach_small c.args.number.now c.args.network.now.observations in
    let left = c.narrow.invariant.at_left.near in
    omega (arith, ints)

pub within-change-requires-clause-high : goal.within-change-requires-clause-high
within-change-requires-clause-high c =
    let small = reach_small c.args.number.now c.args.network.now.observations in
    let low = c.narrow.invariant.at_low.near in
    omega (arith, ints)

pub within-change-requires-clause-room : goal.within-change-requires-clause-room
within-change-requires-clause-room c =
    let small = reach_small c.args.number.now c.args.network.now.observations in
    let left = c.narrow.invariant.at_left.near in
    let low = c.narrow.invariant.at_low.near in
    omega (arith, ints)

pub slope_at-requires : goal.slope_at-requires
slope_at-requires c =
    let small = reach_small c.args.number.now c.args.network.now.observations in
    let left = c.narrow.invariant.at_left.near in
    let low = c.narrow.invariant.at_low.near in
    omega (arith, ints)

pub narrow-preserved-then-own-flat : goal.narrow-preserved-then-own-flat
narrow-preserved-then-own-flat c =
    let small = reach_small c.args.number.now c.args.network.now.observations in
    let left = c.narrow.invariant.at_left.near in
    let low = c.narrow.invariant.at_low.near in
    let at : c.in_ok-own.own.change ≡ to_z w64 (of_z w64 c.within-change.result) = c.in_ok-own.ensures.at in
    step_down_low c.args.network.now c.args.number.now c.args.flat.now.cost c.narrow.left c.narrow.low c.in_ok-own.own c.narrow.invariant c.in_ok-own.ensures.sloped
    (omega (arith, ints)) (omega (arith, ints)) c.if-own-flat.true

pub narrow-preserved : goal.narrow-preserved
narrow-preserved c =
    let small = reach_small c.args.number.now c.args.network.now.observations in
    let left = c.narrow.invariant.at_left.near in
    let low = c.narrow.invariant.at_low.near in
    let at : c.in_ok-own.own.change ≡ to_z w64 (of_z w64 c.within-change.result) = c.in_ok-own.ensures.at in
    let freed = flat_is_freed c.args.network.now c.args.number.now c.args.flat.now c.requires.at_flat.sloped c.requires.least in
    step_down_left c.args.network.now c.args.number.now c.args.flat.now.cost c.narrow.left c.narrow.low c.in_ok-own.own freed c.narrow.invariant c.in_ok-own.ensures.sloped
    (omega (arith, ints)) (omega (arith, ints)) c.if-own-flat.false

pub returns-then-left-flat : goal.returns-then-left-flat
returns-then-left-flat c =
    let freed = flat_is_freed c.args.network.now c.args.number.now c.args.flat.now c.requires.at_flat.sloped c.requires.least in
    record {
      lowest =
          lowest_left c.args.network.now c.args.number.now c.args.flat.now.cost c.narrow.left c.narrow.low freed c.narrow.invariant c.if-left-flat.true;
    }

pub returns-else-left-flat : goal.returns-else-left-flat
returns-else-left-flat c =
    let small = reach_small c.args.number.now c.args.network.now.observations in
    let left = c.narrow.invariant.at_left.near in
    let low = c.narrow.invariant.at_low.near in
    let freed = flat_is_freed c.args.network.now c.args.number.now c.args.flat.now c.requires.at_flat.sloped c.requires.least in
    record {
      lowest =
          lowest_low c.args.network.now c.args.number.now c.args.flat.now.cost c.narrow.left c.narrow.low freed c.narrow.invariant (λ more. omega (arith, ints)) c.if-left-flat.false;
    }
