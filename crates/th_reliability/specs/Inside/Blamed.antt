-- What is blamed among the first of some observations, which are blamed with these weights.
use Rattle.std.specs.Prelude.{◌≡◌, ℕ, ◌+◌, ◌<◌, ◌≤◌, List, Option, Some, None, count_by, get_or, nat_lt, take}
use Rattle.th_reliability.specs.declared.blames.Blamed.{Blamed}

-- the number, from 1, of the first of the heaviest among so many, and what it weighs; none and 0 if all of them weigh 0
abbrev pub IsBest : List ℕ → Option ℕ → ℕ → ℕ → Type 0
IsBest weights None most count = most ≡ 0
IsBest weights (Some number) most count = (place : ℕ) × (number ≡ place + 1) × (place < count) × (get_or weights place 0 ≡ most) × (0 < most) × ((other : ℕ) → other < place → get_or weights other 0 < most)

-- how many of the first weights are not 0, and the first of the heaviest of them
pub record IsBlamed (weights : List ℕ) (seen : ℕ) (blamed : Blamed) : Type 0 where
  pub count : blamed.count ≡ count_by (λ weight. nat_lt 0 weight) (take seen weights)
  pub few : blamed.count ≤ seen
  pub best : IsBest weights blamed.number blamed.most seen
  pub most : (other : ℕ) → other < seen → get_or weights other 0 ≤ blamed.most
