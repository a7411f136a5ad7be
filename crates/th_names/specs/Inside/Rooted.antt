-- Residual arcs with another vertex in place of vertex 0, and heights above it.
use Rattle.std.specs.Prelude.{ℕ, ◌==◌, ℤ, pos, ◌+ℤ◌, ◌-ℤ◌, List, map, if◌then◌else◌}
use Rattle.th_circulation.specs.Inside.Residuals.{residual_arcs}
use Rattle.th_network.specs.Links.{base}
use Rattle.th_network.specs.Networks.{Survey, arcs_of, weights_of}
use Rattle.th_network.specs.Vertices.{vertex_of}
use Rattle.th_network.specs.declared.links.Link.{Link}
use Rattle.th_search.specs.declared.arcs.Arc.{Arc}
use Rattle.th_names.specs.declared.roots.Root.{Root}
use Rattle.th_names.specs.declared.roots.Way.{Way}
use Rattle.th_names.specs.declared.roots.Way.TheVariants.{Down, Up}

-- the root in place of vertex 0, and vertex 0 in place of the root
abbrev pub exchanged : ℕ → ℕ → ℕ
exchanged root v = if v == 0 then root else (if v == root then 0 else v)

abbrev pub exchanged_link : ℕ → Link → Link
exchanged_link root link = record { tail = exchanged root link.tail; head = exchanged root link.head; diff = link.diff }

-- the residual arcs of flows, with the root in place of vertex 0
abbrev pub rooted_arcs : Survey → List ℤ → ℕ → List Arc
rooted_arcs survey flows root = residual_arcs (map (exchanged_link root) (arcs_of survey)) (weights_of survey) flows

-- the vertex of a point, and its height if it is a benchmark
abbrev pub root_of : Survey → List ℕ → Root
root_of survey name = record { vertex = vertex_of survey.observations survey.benchmarks name; base = base survey.benchmarks name }

-- a distance down or up
abbrev pub step : Way → ℤ → ℤ
step Down distance = pos 0 -ℤ distance
step Up distance = distance

-- how high a point is above the root, if the vertices are so far from it
abbrev pub rise_by : Root → Way → (ℕ → ℤ) → Root → ℤ
rise_by root way distances own = own.base -ℤ root.base +ℤ step way (distances (exchanged root.vertex own.vertex))
