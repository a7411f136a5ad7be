use Rattle.std.specs.Prelude.{ℕ, ℤ, pos, ◌-ℤ◌, List, [], ◌∷◌, ◌++◌, if◌then◌else◌, int_lt}
use Rattle.th_network.specs.declared.links.Link.{Link}
use Rattle.th_search.specs.declared.arcs.Arc.{Arc}

-- the residual arc along a link, and the one against it
abbrev pub along : Link → Arc
along link = record { tail = link.tail; head = link.head; cost = pos 0 -ℤ link.diff }

abbrev pub against : Link → Arc
against link = record { tail = link.head; head = link.tail; cost = link.diff }

-- the residual arcs of a link: along it where the flow can grow, and against it where the flow can shrink
abbrev pub residual_arcs_of : Link → ℕ → ℤ → List Arc
residual_arcs_of link weight flow =
    (if int_lt flow (pos weight) then along link ∷ [] else []) ++ (if int_lt (pos 0 -ℤ pos weight) flow then against link ∷ [] else [])

-- the residual arcs of links with these weights and flows
abbrev pub residual_arcs : List Link → List ℕ → List ℤ → List Arc
residual_arcs [] weights flows = []
residual_arcs (link ∷ links) [] flows = []
residual_arcs (link ∷ links) (weight ∷ weights) [] = []
residual_arcs (link ∷ links) (weight ∷ weights) (flow ∷ flows) = residual_arcs_of link weight flow ++ residual_arcs links weights flows

-- an arc in the other direction, at the same cost
abbrev pub turned : Arc → Arc
turned arc = record { tail = arc.head; head = arc.tail; cost = arc.cost }
