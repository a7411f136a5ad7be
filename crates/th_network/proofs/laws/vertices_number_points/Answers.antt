use Rattle.th_network.proofs.NetworkLemmas.{vertex_by_place, vertices_apart}
use Rattle.th_network.proofs.laws.vertices_number_points.Goals as goal

pub returns : goal.returns
returns c = record { place = vertex_by_place; apart = vertices_apart }
