-- The links of observations.
use Rattle.std.specs.Prelude.{◌≡◌, ◌≤◌, List, All, map, unsigned_abs}
use Rattle.th_observations.specs.Observed.{Observed, IsBetweenPoints}
use Rattle.th_tables.specs.Rows.{BenchmarkRows}
use Rattle.th_network.specs.Links.{largest_link_difference, link_of}
use Rattle.th_network.specs.declared.links.Link.{Link}

-- the link of each observation, in order: observations are between two points, and the differences of links are in their range
pub record AreLinks (observations : List Observed) (benchmarks : BenchmarkRows) (links : List Link) : Type 0 where
  pub all : links ≡ map (link_of observations benchmarks) observations
  pub in_range : All (λ link. unsigned_abs link.diff ≤ largest_link_difference) links
  pub between : All IsBetweenPoints observations
