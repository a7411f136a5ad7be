use Rattle.std.proofs.Common.{◌≡◌, ◌∙◌, ◌<◌, ◌≤◌, ◌*◌, ◌+ℤ◌, ◌*ℤ◌, ℕ, ℤ, pos, List, ap, bytes_eq, get_or, length, of_z, subst, to_z, unsigned_abs, w64, arith}
use Rattle.std.proofs.lemmas.Int.{ints, to_z-of_z}
use Rattle.std.proofs.lemmas.List.Elements.{All-get_or}
use Rattle.std.specs.List.{IsDistinct}
use Rattle.th_blunders.proofs.HeightLemmas.{same_units}
use Rattle.th_changes.specs.Numbers.{lift}
use Rattle.th_network.specs.Limits.{height_limit}
use Rattle.th_network.specs.Networks.{points_of}
use Rattle.th_observations.specs.Observed.{largest_difference}
use Rattle.th_answer.proofs.ListedLemmas.{next_raised}
use Rattle.th_answer.proofs.correcting.raised.Goals as goal

pub loop-k-preserved : goal.loop-k-preserved
loop-k-preserved c =
    let number = c.args.number.now in
    let growth : ℤ = to_z w64 (of_z w64 c.args.growth) in
    let points : List (List ℕ) = points_of c.args.network.now in
    let heights : List ℤ = c.args.heights.now in
    let k : ℕ = c.loop-k.k in
    let name : List ℕ = c.name-item.result in
    let within : k < length points = omega (arith, c.loop-k-test.true, ap length c.points-name-items.ensures.points) in
    let here : name ≡ get_or points k name = c.name-item.is ∙ ap (λ (own : List (List ℕ)). get_or own k name) c.points-name-items.ensures.points in
    let distinct : IsDistinct bytes_eq points = subst (IsDistinct bytes_eq) c.points-name-items.ensures.points c.points-name-items.ensures.distinct in
    let low : unsigned_abs (get_or heights k (pos 0)) < height_limit = All-get_or (λ height. unsigned_abs height < height_limit) heights k (pos 0) (omega (arith, within, c.requires.heights.each)) c.requires.heights.in_range in
    let plain = same_units (get_or heights k (pos 0)) (omega (arith, low)) in
    let plain_growth : growth ≡ c.args.growth = to_z-of_z w64 c.args.growth c.ranges.growth in
    let short : unsigned_abs c.lifted.result ≤ largest_difference = omega (arith, c.lifted.ensures.small, ap unsigned_abs plain_growth, c.requires.growth) in
    let plain_lift = same_units c.lifted.result (omega (arith, short)) in
    let sum : ℤ = to_z w64 (of_z w64 (get_or heights k (pos 0))) +ℤ to_z w64 (of_z w64 c.lifted.result) in
    let plain_sum = same_units sum (omega (arith, ints, plain, plain_lift, low, short)) in
    let is : to_z w64 (of_z w64 sum) ≡ get_or heights k (pos 0) +ℤ growth *ℤ lift number name =
    plain_sum ∙ ap (λ (height : ℤ). height +ℤ to_z w64 (of_z w64 c.lifted.result)) plain ∙ ap (λ (more : ℤ). get_or heights k (pos 0) +ℤ more) (plain_lift ∙ c.lifted.ensures.lifted) in
    let small : unsigned_abs (to_z w64 (of_z w64 sum)) < 2 * height_limit = omega (arith, ints, plain_sum, plain, plain_lift, low, short) in
    next_raised number growth points heights k name c.loop-k.own.items c.push.new.self.items (to_z w64 (of_z w64 sum)) distinct within here is small c.in_ok-push.ensures.items c.loop-k.invariant
