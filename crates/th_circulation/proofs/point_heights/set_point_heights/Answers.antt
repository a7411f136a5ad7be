use Rattle.std.proofs.Common.{ℕ, ◌≡◌, ◌<◌, ◌-◌, ℤ, List, Some, None, length, slice_get, unsigned_abs, ap, ◌∙◌, refl, arith}
use Rattle.std.proofs.lemmas.List.{length-map}
use Rattle.std.proofs.lemmas.Option.{slice_get_within}
use Rattle.std.specs.Prelude.{slice_index_or}
use Rattle.th_network.specs.Vertices.{vertex_of}
use Rattle.std.proofs.lemmas.Int.{ints}
use Rattle.th_network.specs.Limits.{height_limit}
use Rattle.th_network.specs.Networks.{points_of}
use Rattle.th_search.specs.Potentials.{value_at}
use Rattle.th_circulation.specs.Inside.PointHeights.{point_height}
use Rattle.th_search.proofs.WithinLemmas.{all_within}
use Rattle.th_network.proofs.FreePoints.{found_at}
use Rattle.th_circulation.proofs.PointHeightLemmas.{point_height_fixed, point_height_free, set_more}
use Rattle.th_circulation.proofs.point_heights.set_point_heights.Goals as goal
use Rattle.th_circulation.proofs.point_heights.set_point_heights.Goals.{in-Some, in-None}

pub loop-place-preserved : goal.loop-place-preserved
loop-place-preserved c =
    let network = c.args.network.now in
    let i = c.loop-place.place in
    let inv = c.loop-place.invariant in
    let test = c.loop-place-test.true in
    let same = c.loop-place.auto.listed in
    let place : i < length c.loop-place.listed = omega arith in
    let Right : ℕ → ℤ → Type 0 = λ k z. (name : List ℕ) → slice_get (points_of network) k ≡ Some name → z ≡ point_height network.observations network.benchmarks (value_at c.args.heights.now) name in
    let Small : ℕ → ℤ → Type 0 = λ k z. unsigned_abs z < height_limit in
    elim c.match-fixed.branch [
      | in-Some w ↦
          let found = c.fixed.ensures.height ∙ ap Some w.in-Some.is in
          let near = w.in-Some.ensures.in_range in
          let is = w.listed-is in
          (set_more Small c.loop-place.listed i _ place inv.0 (omega (arith, ints)), set_more Right c.loop-place.listed i _ place inv.1 (λ name at. let right = point_height_fixed network.observations network.benchmarks (value_at c.args.heights.now) name w.in-Some.height (found_at network.benchmarks (points_of network) i name (Some w.in-Some.height) found at) in omega (arith, ints)))
      | in-None w ↦
          let found = c.fixed.ensures.height ∙ ap Some w.in-None.is in
          let is = w.listed-is in
          let vertices = c.point_vertices-vertices.ensures.vertices in
          let count = ap (λ (vs : List ℕ). length vs) vertices ∙ length-map (points_of network) (vertex_of network.observations network.benchmarks) in
          let each = c.requires.each in
          let rise = c.requires.rises (slice_index_or c.point_vertices-vertices.result.now i 0) (c.point_vertices-vertices.ensures.within i 0 (omega arith)) in
          (set_more Small c.loop-place.listed i _ place inv.0 (omega (arith, ints)), set_more Right c.loop-place.listed i _ place inv.1 (λ name at. let right = point_height_free network.observations network.benchmarks (value_at c.args.heights.now) c.point_vertices-vertices.result.now i name vertices at (found_at network.benchmarks (points_of network) i name None found at) in omega (arith, ints)))
    ]

pub returns-clause-point_heights : goal.returns-clause-point_heights
returns-clause-point_heights c = λ k name at. let test = c.loop-place-test.false in let within = slice_get_within (points_of c.args.network.now) k name at in let each = c.requires.each in let same = c.loop-place.auto.listed in c.loop-place.invariant.1 k (omega arith) name at

pub returns-clause-in_range : goal.returns-clause-in_range
returns-clause-in_range c =
    let test = c.loop-place-test.false in
    let all = all_within (length c.loop-place.listed) (height_limit - 1) c.loop-place.listed refl (λ v h. let small = c.loop-place.invariant.0 v (omega arith) in omega arith) in
    λ k d within. let one = all.small k d within in omega arith
