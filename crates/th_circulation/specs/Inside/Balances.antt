-- What arrives at a vertex, less what leaves it.
use Rattle.std.specs.Prelude.{◌≡◌, ℕ, ℤ, pos, ◌-ℤ◌, List, take, zip, eqb, if◌then◌else◌}
use Rattle.th_network.specs.Circulation.{total_by}
use Rattle.th_network.specs.declared.links.Link.{Link}
use Rattle.th_search.specs.Potentials.{value_at}

-- what the first of some flows bring to a vertex, less what they take from it
abbrev pub balance_to : List Link → List ℤ → ℕ → ℕ → ℤ
balance_to links flows n vertex =
    total_by (λ pair. if eqb pair.0.head vertex then pair.1 else pos 0) (take n (zip links flows))
    -ℤ total_by (λ pair. if eqb pair.0.tail vertex then pair.1 else pos 0) (take n (zip links flows))

-- the balances of the vertices, by the first of some flows
abbrev pub AreBalances : List Link → List ℤ → ℕ → List ℤ → Type 0
AreBalances links flows n balances = (vertex : ℕ) → value_at balances vertex ≡ balance_to links flows n vertex
