use Rattle.std.proofs.Common.{◌≡◌, ◌<◌, ◌∙◌, ℕ, ℤ, pos, Bool, true, false, List, get_or, length, of_z, to_z, w64, ap, sym, subst, arith}
use Rattle.std.proofs.lemmas.Int.{ints}
use Rattle.std.specs.List.{zip}
use Rattle.th_blunders.specs.Blunders.{is_blunder}
use Rattle.th_remarks.specs.Outliers.{IsFarthest, sight_at, size_at}
use Rattle.th_remarks.proofs.FarLemmas.{farther_more, first_unmarked, marked_more, nearer_more}
use Rattle.th_remarks.proofs.SightLemmas.{marked_there, plain}
use Rattle.th_remarks.proofs.outlying.farther.Goals as goal

-- what the test says of the sight at the place
here : (given : ℤ) (weights : List ℕ) (residuals : List ℤ) (place : ℕ) (own : Bool) (bits number : ℤ) → place < length weights → place < length residuals
    → own ≡ is_blunder bits number → bits ≡ given → number ≡ get_or residuals place (pos 0) → is_blunder given (sight_at (zip weights residuals) place).1 ≡ own
here given weights residuals place own bits number light within is same plain =
    marked_there given weights residuals place light within ∙ sym (is ∙ (λ j. is_blunder (same j) (plain j)))

pub returns-then-is_blunder : goal.returns-then-is_blunder
returns-then-is_blunder c = λ far.
    let light : c.args.i < length c.args.weights.now = omega (arith, c.requires.each, c.requires.within) in
    let same : to_z w64 (of_z w64 c.args.limit) ≡ c.args.limit = omega (arith, ints, c.ranges.limit) in
    let marked = here c.args.limit c.args.weights.now c.args.residuals.now c.args.i c.is_blunder.result _ _ light c.requires.within c.is_blunder.ensures same (plain c.args.residuals.now c.args.i c.requires.small c.requires.within) in
    marked_more c.args.limit (zip c.args.weights.now c.args.residuals.now) c.args.i c.args.before (marked ∙ c.if-is_blunder.true) far

pub returns-in_default : goal.returns-in_default
returns-in_default c = λ far.
    let light : c.args.i < length c.args.weights.now = omega (arith, c.requires.each, c.requires.within) in
    let same : to_z w64 (of_z w64 c.args.limit) ≡ c.args.limit = omega (arith, ints, c.ranges.limit) in
    let marked = here c.args.limit c.args.weights.now c.args.residuals.now c.args.i c.is_blunder.result _ _ light c.requires.within c.is_blunder.ensures same (plain c.args.residuals.now c.args.i c.requires.small c.requires.within) in
    let sights : List (ℕ × ℤ) = zip c.args.weights.now c.args.residuals.now in
    first_unmarked c.args.limit sights c.args.i (marked ∙ c.if-is_blunder.false) (subst (IsFarthest c.args.limit sights c.args.i) c.in_default.is far)

pub returns-then-size_at : goal.returns-then-size_at
returns-then-size_at c = λ far.
    let light : c.args.i < length c.args.weights.now = omega (arith, c.requires.each, c.requires.within) in
    let same : to_z w64 (of_z w64 c.args.limit) ≡ c.args.limit = omega (arith, ints, c.ranges.limit) in
    let marked = here c.args.limit c.args.weights.now c.args.residuals.now c.args.i c.is_blunder.result _ _ light c.requires.within c.is_blunder.ensures same (plain c.args.residuals.now c.args.i c.requires.small c.requires.within) in
    let sights : List (ℕ × ℤ) = zip c.args.weights.now c.args.residuals.now in
    farther_more c.args.limit sights c.args.i c.in-Some.place (marked ∙ c.if-is_blunder.false) (rw (c.size_at.ensures, c.size_at-2.ensures) at c.if-size_at.true) (subst (IsFarthest c.args.limit sights c.args.i) c.in-Some.is far)

pub returns : goal.returns
returns c = λ far.
    let sights : List (ℕ × ℤ) = zip c.args.weights.now c.args.residuals.now in
    nearer_more c.args.limit sights c.args.i c.in-Some.place (rw (c.size_at.ensures, c.size_at-2.ensures) at c.if-size_at.false) (subst (IsFarthest c.args.limit sights c.args.i) c.in-Some.is far)
