use Rattle.std.specs.Prelude.{◌≡◌, ℕ, ◌<◌, ◌≤◌, List, All, length, unsigned_abs}
use Rattle.th_network.specs.declared.links.Link.{Link}
use Rattle.th_network.specs.Limits.{max_observations}
use Rattle.th_network.specs.Links.{largest_link_difference}
use Rattle.th_search.specs.Limits.{max_vertices}
use Rattle.th_tables.specs.Limits.{max_weight}

-- a graph within the limits of a network: at least one vertex, links between the vertices, and a weight for each link
pub record IsLinkGraph (vertices : ℕ) (links : List Link) (weights : List ℕ) : Type 0 where
  pub some : 1 ≤ vertices
  pub few_vertices : vertices ≤ max_vertices
  pub few_links : length links ≤ max_observations
  pub sized : length weights ≡ length links
  pub ends : All (λ link. (link.tail < vertices) × (link.head < vertices)) links
  pub near : All (λ link. unsigned_abs link.diff ≤ largest_link_difference) links
  pub light : All (λ weight. weight ≤ max_weight) weights
