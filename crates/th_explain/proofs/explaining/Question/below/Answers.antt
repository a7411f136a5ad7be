use Rattle.std.proofs.Common.{◌≡◌, FitsSigned, ◌-ℤ◌, of_z, pos, rules, to_z, w64, arith}
use Rattle.std.proofs.lemmas.Int.{ints}
use Rattle.th_explain.proofs.ExplainLemmas.{none_before, none_below, round_of}
use Rattle.th_changes.proofs.TiltLemmas.{reach_small}
use Rattle.th_explain.proofs.explaining.Question.below.Goals as goal

pub overflow_cast-self : goal.overflow_cast-self
overflow_cast-self c = let small = reach_small c.args.self.now.number c.args.self.now.network.now.observations in omega (arith, ints)

pub overflow_sub-self : goal.overflow_sub-self
overflow_sub-self c = let small = reach_small c.args.self.now.number c.args.self.now.network.now.observations in omega (arith, ints)

pub slope_at-requires : goal.slope_at-requires
slope_at-requires c = let small = reach_small c.args.self.now.number c.args.self.now.network.now.observations in omega (arith, ints)

pub overflow_cast-self-2 : goal.overflow_cast-self-2
overflow_cast-self-2 c = let small = reach_small c.args.self.now.number c.args.self.now.network.now.observations in omega (arith, ints)

pub overflow_sub-self-2 : goal.overflow_sub-self-2
overflow_sub-self-2 c = let small = reach_small c.args.self.now.number c.args.self.now.network.now.observations in omega (arith, ints)

pub slope_at-requires-2 : goal.slope_at-requires-2
slope_at-requires-2 c = let small = reach_small c.args.self.now.number c.args.self.now.network.now.observations in omega (arith, ints)

pub returns-then-right-le0 : goal.returns-then-right-le0
returns-then-right-le0 c =
    let small = reach_small c.args.self.now.number c.args.self.now.network.now.observations in
    let at_right : c.in_ok-right.right.change ≡ to_z w64 (of_z w64 (pos 0 -ℤ to_z w64 c.args.self.now.limit)) = c.in_ok-right.ensures.at in
    let right_fits : FitsSigned w64 c.in_ok-right.right.slope = search rules in
    none_below c.args.self.now.network.now c.args.self.now.limit c.args.self.now.number c.args.given.now c.in_ok-right.right c.requires.given c.requires.at c.requires.rises c.in_ok-right.ensures.sloped
    (omega (arith, ints)) (omega (arith, ints))

pub returns-then-left-ge0 : goal.returns-then-left-ge0
returns-then-left-ge0 c =
    let small = reach_small c.args.self.now.number c.args.self.now.network.now.observations in
    let at_left : c.in_ok-left.left.change ≡ to_z w64 (of_z w64 (pos 0 -ℤ to_z w64 c.args.self.now.reach)) = c.in_ok-left.ensures.at in
    let left_fits : FitsSigned w64 c.in_ok-left.left.slope = search rules in
    none_before c.args.self.now.network.now c.args.self.now.limit c.args.self.now.number c.in_ok-left.left c.in_ok-left.ensures.sloped (omega (arith, ints)) (omega (arith, ints))

pub returns : goal.returns
returns c =
    let small = reach_small c.args.self.now.number c.args.self.now.network.now.observations in
    let at_left : c.in_ok-left.left.change ≡ to_z w64 (of_z w64 (pos 0 -ℤ to_z w64 c.args.self.now.reach)) = c.in_ok-left.ensures.at in
    let left_fits : FitsSigned w64 c.in_ok-left.left.slope = search rules in
    let at_right : c.in_ok-right.right.change ≡ to_z w64 (of_z w64 (pos 0 -ℤ to_z w64 c.args.self.now.limit)) = c.in_ok-right.ensures.at in
    let right_fits : FitsSigned w64 c.in_ok-right.right.slope = search rules in
    round_of c.args.self.now.network.now c.args.self.now.number c.in_ok-left.left c.in_ok-right.right c.in_ok-left.ensures.sloped c.in_ok-right.ensures.sloped
    (omega (arith, ints)) (omega (arith, ints)) (omega (arith, ints)) (omega (arith, ints)) (omega (arith, ints))
