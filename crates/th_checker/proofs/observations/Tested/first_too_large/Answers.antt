use Rattle.std.proofs.Common.{◌≡◌, Bool, true, false, ℕ, ℤ, pos, nat_lt, unsigned_abs, length, get_or, sym, ap, ◌∙◌, arith}
use Rattle.std.specs.List.{zip}
use Rattle.std.proofs.lemmas.Bool.Decides.{nat_tests}
use Rattle.th_checker.proofs.NumberLemmas.{plain_flow}
use Rattle.th_checker.proofs.PositionLemmas.{position_end, position_here, position_more}
use Rattle.th_checker.proofs.ZipLemmas.{length_zip, pair_at}
use Rattle.th_checker.proofs.observations.Tested.first_too_large.Goals as goal

-- whether a flow is above its weight
abbrev test : ℕ × ℤ → Bool
test pair = nat_lt pair.0 (unsigned_abs pair.1)

pub returns-then-unsigned_abs-from : goal.returns-then-unsigned_abs-from
returns-then-unsigned_abs-from c =
    let weights = c.args.self.now.weights.now in
    let flows = c.args.self.now.flows.now in
    let tested = c.args.self.now.tested in
    let each : length flows ≡ length weights = tested.flowing ∙ sym tested.weighed in
    let i = c.loop-i.i in
    let size = c.unsigned_abs.ensures.value ∙ ap unsigned_abs (plain_flow flows i tested.in_range c.loop-i-test.true) in
    let passes : nat_lt (get_or weights i 0) (unsigned_abs (get_or flows i (pos 0))) ≡ true = let above = c.if-unsigned_abs-from.true in let weight = c.from.ensures in grind (arith, nat_tests) in
    sym (position_here test (zip weights flows) i (0, pos 0) (omega (arith, length_zip weights flows each, c.loop-i-test.true)) (ap test (pair_at weights flows i each c.loop-i-test.true) ∙ passes))
    ∙ c.loop-i.invariant

pub loop-i-preserved : goal.loop-i-preserved
loop-i-preserved c =
    let weights = c.args.self.now.weights.now in
    let flows = c.args.self.now.flows.now in
    let tested = c.args.self.now.tested in
    let each : length flows ≡ length weights = tested.flowing ∙ sym tested.weighed in
    let i = c.loop-i.i in
    let size = c.unsigned_abs.ensures.value ∙ ap unsigned_abs (plain_flow flows i tested.in_range c.loop-i-test.true) in
    let fails : nat_lt (get_or weights i 0) (unsigned_abs (get_or flows i (pos 0))) ≡ false = let above = c.if-unsigned_abs-from.false in let weight = c.from.ensures in grind (arith, nat_tests) in
    sym (position_more test (zip weights flows) i (0, pos 0) (omega (arith, length_zip weights flows each, c.loop-i-test.true)) (ap test (pair_at weights flows i each c.loop-i-test.true) ∙ fails))
    ∙ c.loop-i.invariant

pub returns : goal.returns
returns c =
    let weights = c.args.self.now.weights.now in
    let flows = c.args.self.now.flows.now in
    let each : length flows ≡ length weights = c.args.self.now.tested.flowing ∙ sym c.args.self.now.tested.weighed in
    sym (position_end test (zip weights flows) c.loop-i.i (omega (arith, length_zip weights flows each, c.loop-i-test.false))) ∙ c.loop-i.invariant
