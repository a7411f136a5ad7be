-- The room at the vertices of a set.
use Rattle.std.proofs.Common.{◌≡◌, ℕ, zero, suc, ◌+◌, ◌-◌, ◌<◌, ◌≤◌, Bool, true, false, List, [], ◌∷◌, length, if◌then◌else◌, refl, replicate, arith}
use Rattle.std.specs.Prelude.{slice_set}
use Rattle.th_cuts.specs.Drains.{room_at, room_in}

pub room_in_none : (rooms : List ℕ) (inside : ℕ → Bool) → ((vertex : ℕ) → inside vertex ≡ true → room_at rooms vertex ≡ 0) → room_in rooms inside ≡ 0
room_in_none [] inside none = refl
room_in_none (room ∷ rooms) inside none =
    let rest = room_in_none rooms (λ vertex. inside (suc vertex)) (λ vertex. none (suc vertex)) in
    let here = by (inside 0) (none 0) in
    omega arith
  where
    by : (b : Bool) → (b ≡ true → room ≡ 0) → (if b then room else 0) ≡ 0
    by true none = none refl
    by false none = refl

pub room_in_least : (rooms : List ℕ) (inside : ℕ → Bool) (vertex : ℕ) → inside vertex ≡ true → room_at rooms vertex ≤ room_in rooms inside
room_in_least [] inside vertex on = omega arith
room_in_least (room ∷ rooms) inside zero on = by (inside 0) on
  where
    by : (b : Bool) → b ≡ true → room ≤ (if b then room else 0) + room_in rooms (λ vertex. inside (suc vertex))
    by true on = omega arith
    by false on = cc
room_in_least (room ∷ rooms) inside (suc vertex) on =
    let rest = room_in_least rooms (λ vertex. inside (suc vertex)) vertex on in
    omega arith

pub room_in_set : (rooms : List ℕ) (inside : ℕ → Bool) (vertex amount : ℕ) → vertex < length rooms → amount ≤ room_at rooms vertex → room_in (slice_set rooms vertex (room_at rooms vertex - amount)) inside + (if inside vertex then amount else 0) ≡ room_in rooms inside
room_in_set [] inside vertex amount within enough = absurd (omega arith)
room_in_set (room ∷ rooms) inside zero amount within enough = by (inside 0)
  where
    by : (b : Bool) → ((if b then (room - amount) else 0) + room_in rooms (λ vertex. inside (suc vertex))) + (if b then amount else 0) ≡ (if b then room else 0) + room_in rooms (λ vertex. inside (suc vertex))
    by true = omega arith
    by false = omega arith
room_in_set (room ∷ rooms) inside (suc vertex) amount within enough =
    let rest = room_in_set rooms (λ vertex. inside (suc vertex)) vertex amount (omega arith) enough in
    omega arith

-- where there is room, there is a vertex
pub room_within : (rooms : List ℕ) (vertex : ℕ) → 1 ≤ room_at rooms vertex → vertex < length rooms
room_within [] vertex some = absurd (omega arith)
room_within (room ∷ rooms) zero some = omega arith
room_within (room ∷ rooms) (suc vertex) some = let rest = room_within rooms vertex some in omega arith

-- more room at a vertex
pub room_in_more : (rooms : List ℕ) (inside : ℕ → Bool) (vertex amount : ℕ) → vertex < length rooms → room_in (slice_set rooms vertex (room_at rooms vertex + amount)) inside ≡ room_in rooms inside + (if inside vertex then amount else 0)
room_in_more [] inside vertex amount within = absurd (omega arith)
room_in_more (room ∷ rooms) inside zero amount within = by (inside 0)
  where
    by : (b : Bool) → (if b then (room + amount) else 0) + room_in rooms (λ vertex. inside (suc vertex)) ≡ ((if b then room else 0) + room_in rooms (λ vertex. inside (suc vertex))) + (if b then amount else 0)
    by true = omega arith
    by false = omega arith
room_in_more (room ∷ rooms) inside (suc vertex) amount within =
    let rest = room_in_more rooms (λ vertex. inside (suc vertex)) vertex amount (omega arith) in
    omega arith

-- no room anywhere
pub room_in_zeros : (n : ℕ) (inside : ℕ → Bool) → room_in (replicate n 0) inside ≡ 0
room_in_zeros n inside = room_in_none (replicate n 0) inside (λ vertex on. zero_at n vertex)
  where
    zero_at : (n vertex : ℕ) → room_at (replicate n 0) vertex ≡ 0
    zero_at zero vertex = refl
    zero_at (suc n) zero = refl
    zero_at (suc n) (suc vertex) = zero_at n vertex
