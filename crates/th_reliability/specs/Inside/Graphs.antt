use Rattle.std.specs.Prelude.{◌≡◌, ℕ, ◌+◌, ◌≤◌, Bool}
use Rattle.th_cuts.specs.Cuts.{Weighted}
use Rattle.th_cuts.specs.CutWeights.{cut_weight}
use Rattle.th_network.specs.Limits.{max_points}
use Rattle.th_network.specs.Networks.{Survey, vertices_of}
use Rattle.th_reliability.specs.Edges.{edges_of}

-- a graph with the vertices of a survey, at most `max_points + 1` of them, whose cuts weigh the same as those of the survey's edges
pub record IsGraphOf (survey : Survey) (graph : Weighted) : Type 0 where
  pub vertices : graph.vertices ≡ vertices_of survey
  pub few : graph.vertices ≤ max_points + 1
  pub cuts : (inside : ℕ → Bool) → cut_weight inside graph.edges ≡ cut_weight inside (edges_of survey.observations survey.benchmarks survey.weights)
