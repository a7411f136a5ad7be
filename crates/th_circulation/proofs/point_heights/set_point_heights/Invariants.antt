use Rattle.std.proofs.Common.{◌≡◌, ◌<◌, ℕ, pos, List, Some, get_or, slice_get, unsigned_abs}
use Rattle.th_network.specs.Limits.{height_limit}
use Rattle.th_search.specs.Potentials.{value_at}
use Rattle.th_network.specs.Networks.{points_of}
use Rattle.th_circulation.specs.Inside.PointHeights.{point_height}
use Rattle.th_circulation.proofs.point_heights.set_point_heights.Given as goal

abbrev pub invariant-loop-place : goal.invariant-loop-place
invariant-loop-place l =
    ((k : ℕ) → k < l.place → unsigned_abs (value_at l.listed k) < height_limit)
    × ((k : ℕ) → k < l.place → (name : List ℕ) → slice_get (points_of l.network) k ≡ Some name → get_or l.listed k (pos 0) ≡ point_height l.network.observations l.network.benchmarks (value_at l.heights) name)
