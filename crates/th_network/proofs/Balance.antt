-- Summation by points: what flows carry along a map that is zero wherever they are not in balance is nothing.
use Rattle.std.proofs.Common.{◌≡◌, ℕ, Bool, true, false, ◌||◌, ℤ, pos, ◌+ℤ◌, ◌-ℤ◌, ◌*ℤ◌, List, [], ◌∷◌, ◌⊎◌, inl, inr, bytes_eq, fold, zip, if◌then◌else◌, refl, ap, ◌∙◌, arith}
use Rattle.std.proofs.lemmas.Int.{ints}
use Rattle.std.proofs.lemmas.Slice.Eq.{bytes_eq-Decides}
use Rattle.std.proofs.Math.IntN.{*ℤ_comm, *ℤ-zero, zero-*ℤ}
use Rattle.std.specs.List.{list_any, AllByRecursion}
use Rattle.th_observations.specs.Observed.{Observed}
use Rattle.th_network.specs.Circulation.{total_by, arriving, leaving}
use Rattle.th_network.proofs.Products.{rise_split}

-- the sum over the observations of the flow times the rise of u from station to target
abbrev pub carried : (List ℕ → ℤ) → List Observed → List ℤ → ℤ
carried u [] flows = pos 0
carried u (o ∷ observations) [] = pos 0
carried u (o ∷ observations) (flow ∷ flows) = flow *ℤ (u o.target -ℤ u o.station) +ℤ carried u observations flows

-- u with zero at one point
abbrev cleared : List ℕ → (List ℕ → ℤ) → List ℕ → ℤ
cleared point u name = if bytes_eq name point then pos 0 else u name

pub total_by_from : {X : Type 0} (f : X → ℤ) (a : ℤ) (xs : List X) → fold (λ total x. total +ℤ f x) a xs ≡ a +ℤ total_by f xs
total_by_from f a [] = omega (arith, ints)
total_by_from f a (x ∷ xs) =
    let h = total_by_from f (a +ℤ f x) xs in
    let k = total_by_from f (pos 0 +ℤ f x) xs in
    omega (arith, ints)

pub total_by-cons : {X : Type 0} (f : X → ℤ) (x : X) (xs : List X) → total_by f (x ∷ xs) ≡ f x +ℤ total_by f xs
total_by-cons f x xs =
    let h = total_by_from f (pos 0 +ℤ f x) xs in
    omega (arith, ints)

-- the flow at one end, with that point set to zero and without
end_cleared : (u : List ℕ → ℤ) (point name : List ℕ) (flow : ℤ) → flow *ℤ u name ≡ flow *ℤ cleared point u name +ℤ u point *ℤ (if bytes_eq name point then flow else pos 0)
end_cleared u point name flow = by (bytes_eq name point) (bytes_eq-Decides name point).0
  where
    by : (b : Bool) → (b ≡ true → name ≡ point) → flow *ℤ u name ≡ flow *ℤ (if b then pos 0 else u name) +ℤ u point *ℤ (if b then flow else pos 0)
    by true e =
        let same = ap (λ n. flow *ℤ u n) (e refl) in
        let turned = *ℤ_comm flow (u point) in
        let none = *ℤ-zero flow in
        omega (arith, ints)
    by false e =
        let none = *ℤ-zero (u point) in
        omega (arith, ints)

-- u is zero at the name, unless the list has it
abbrev pub ZeroUnlessIn : List (List ℕ) → (List ℕ → ℤ) → List ℕ → Type 0
ZeroUnlessIn names u name = list_any (bytes_eq name) names ≡ false → u name ≡ pos 0

-- what one pair of an observation and its flow brings to the point, and what it takes away
abbrev arrives : List ℕ → (Observed × ℤ) → ℤ
arrives point pair = if bytes_eq pair.0.target point then pair.1 else pos 0

abbrev leaves : List ℕ → (Observed × ℤ) → ℤ
leaves point pair = if bytes_eq pair.0.station point then pair.1 else pos 0

carried_cleared : (u : List ℕ → ℤ) (point : List ℕ) (observations : List Observed) (flows : List ℤ) → carried u observations flows ≡ carried (cleared point u) observations flows +ℤ u point *ℤ (arriving observations flows point -ℤ leaving observations flows point)
carried_cleared u point [] flows = let none = *ℤ-zero (u point) in omega (arith, ints)
carried_cleared u point (o ∷ observations) [] = let none = *ℤ-zero (u point) in omega (arith, ints)
carried_cleared u point (o ∷ observations) (flow ∷ flows) =
    rise_split flow (u o.target) (u o.station) (cleared point u o.target) (cleared point u o.station) (u point) (arrives point (o, flow)) (leaves point (o, flow)) (carried u observations flows) (carried (cleared point u) observations flows) (arriving observations flows point) (leaving observations flows point) (arriving (o ∷ observations) (flow ∷ flows) point) (leaving (o ∷ observations) (flow ∷ flows) point) (end_cleared u point o.target flow) (end_cleared u point o.station flow) (carried_cleared u point observations flows) (total_by-cons (arrives point) (o, flow) (zip observations flows)) (total_by-cons (leaves point) (o, flow) (zip observations flows))

zero_carried : (u : List ℕ → ℤ) (observations : List Observed) (flows : List ℤ) → AllByRecursion (λ o. ZeroUnlessIn [] u o.station × ZeroUnlessIn [] u o.target) observations → carried u observations flows ≡ pos 0
zero_carried u [] flows e = refl
zero_carried u (o ∷ observations) [] e = refl
zero_carried u (o ∷ observations) (flow ∷ flows) e =
    let rest = zero_carried u observations flows e.1 in
    let low = e.0.0 refl in
    let high = e.0.1 refl in
    let flat : u o.target -ℤ u o.station ≡ pos 0 = omega (arith, ints) in
    let none : flow *ℤ (u o.target -ℤ u o.station) ≡ pos 0 = ap (λ z. flow *ℤ z) flat ∙ *ℤ-zero flow in
    omega (arith, ints)

zero_unless_cleared : (u : List ℕ → ℤ) (point : List ℕ) (names : List (List ℕ)) (name : List ℕ) → ZeroUnlessIn (point ∷ names) u name → ZeroUnlessIn names (cleared point u) name
zero_unless_cleared u point names name = by (bytes_eq name point)
  where
    by : (b : Bool) → ((b || list_any (bytes_eq name) names) ≡ false → u name ≡ pos 0) → list_any (bytes_eq name) names ≡ false → (if b then pos 0 else u name) ≡ pos 0
    by true h absent = refl
    by false h absent = h absent

-- as much arrives at the point as leaves it, or u is zero there
abbrev pub InBalance : (List ℕ → ℤ) → List Observed → List ℤ → List ℕ → Type 0
InBalance u observations flows point = (u point ≡ pos 0) ⊎ (arriving observations flows point ≡ leaving observations flows point)

balance_cleared : (u : List ℕ → ℤ) (observations : List Observed) (flows : List ℤ) (point name : List ℕ) → InBalance u observations flows name → InBalance (cleared point u) observations flows name
balance_cleared u observations flows point name h = by (bytes_eq name point)
  where
    by : (b : Bool) → ((if b then pos 0 else u name) ≡ pos 0) ⊎ (arriving observations flows name ≡ leaving observations flows name)
    by true = inl refl
    by false = h

pub weaker : {X : Type 0} (P Q : X → Type 0) → ((x : X) → P x → Q x) → (xs : List X) → AllByRecursion P xs → AllByRecursion Q xs
weaker P Q h [] all = tt
weaker P Q h (x ∷ xs) all = (h x all.0, weaker P Q h xs all.1)

balanced_flow : (u : List ℕ → ℤ) (observations : List Observed) (flows : List ℤ) (point : List ℕ) → InBalance u observations flows point → u point *ℤ (arriving observations flows point -ℤ leaving observations flows point) ≡ pos 0
balanced_flow u observations flows point h =
    elim h [
      | inl zero ↦ ap (λ z. z *ℤ (arriving observations flows point -ℤ leaving observations flows point)) zero ∙ zero-*ℤ (arriving observations flows point -ℤ leaving observations flows point)
      | inr same ↦
          let flat : arriving observations flows point -ℤ leaving observations flows point ≡ pos 0 = omega (arith, ints) in
          ap (λ z. u point *ℤ z) flat ∙ *ℤ-zero (u point)
    ]

-- the sum by points: where u is zero at each end that is not in the list, and the flows are in balance at each name of
-- the list where u is not zero, they carry nothing along u
pub nothing_carried : (names : List (List ℕ)) (u : List ℕ → ℤ) (observations : List Observed) (flows : List ℤ) → AllByRecursion (InBalance u observations flows) names → AllByRecursion (λ o. ZeroUnlessIn names u o.station × ZeroUnlessIn names u o.target) observations → carried u observations flows ≡ pos 0
nothing_carried [] u observations flows balanced settled = zero_carried u observations flows settled
nothing_carried (point ∷ names) u observations flows balanced settled =
    let one = carried_cleared u point observations flows in
    let none = balanced_flow u observations flows point balanced.0 in
    let rest = nothing_carried names (cleared point u) observations flows
    (weaker (InBalance u observations flows) (InBalance (cleared point u) observations flows) (balance_cleared u observations flows point) names balanced.1)
    (weaker (λ o. ZeroUnlessIn (point ∷ names) u o.station × ZeroUnlessIn (point ∷ names) u o.target) (λ o. ZeroUnlessIn names (cleared point u) o.station × ZeroUnlessIn names (cleared point u) o.target) (λ o h. (zero_unless_cleared u point names o.station h.0, zero_unless_cleared u point names o.target h.1)) observations settled) in
    omega (arith, ints)
