-- Walks grow by one observation at a time, and a walk that crosses no boundary stays inside it.
use Rattle.std.proofs.Common.{◌≡◌, ℕ, Bool, true, false, inl, inr, List, [], ◌∷◌, All, Contains, IsSome, refl, ap, ◌∙◌, sym, arith}
use Rattle.std.proofs.lemmas.List.Elements.{All-nil, All-cons, All-head, All-tail, All-contains}
use Rattle.th_observations.specs.Observed.{Observed}
use Rattle.th_tables.specs.Rows.{BenchmarkRows, height_of}
use Rattle.th_network.specs.Walks.{Leads, IsTied}

-- a benchmark is tied to itself
pub tied_itself : (observations : List Observed) (benchmarks : BenchmarkRows) (name : List ℕ) → IsSome (height_of benchmarks name) → IsTied observations benchmarks name
tied_itself observations benchmarks name listed = (name, listed, ([], All-nil (Contains observations), refl))

-- the station of an observation is tied where its target is, and the other way round
pub tied_station : (observations : List Observed) (benchmarks : BenchmarkRows) (o : Observed) → Contains observations o → IsTied observations benchmarks o.target → IsTied observations benchmarks o.station
tied_station observations benchmarks o has tied = (tied.0, tied.1, (o ∷ tied.2.0, All-cons (Contains observations) o tied.2.0 has tied.2.1, inl (refl, tied.2.2)))

pub tied_target : (observations : List Observed) (benchmarks : BenchmarkRows) (o : Observed) → Contains observations o → IsTied observations benchmarks o.station → IsTied observations benchmarks o.target
tied_target observations benchmarks o has tied = (tied.0, tied.1, (o ∷ tied.2.0, All-cons (Contains observations) o tied.2.0 has tied.2.1, inr (refl, tied.2.2)))

stays_inside : (observations : List Observed) (inside : List ℕ → Bool) → All (λ o. inside o.station ≡ inside o.target) observations → (chain : List Observed) (start goal : List ℕ) → All (Contains observations) chain → Leads chain start goal → inside start ≡ inside goal
stays_inside observations inside closed [] start goal among leads = ap inside leads
stays_inside observations inside closed (o ∷ chain) start goal among leads =
    let level = All-contains (λ o. inside o.station ≡ inside o.target) observations o closed (All-head (Contains observations) o chain among) in
    let rest = All-tail (Contains observations) o chain among in
    elim leads [
      | inl h ↦ ap inside h.0 ∙ level ∙ stays_inside observations inside closed chain o.target goal rest h.1
      | inr h ↦ ap inside h.0 ∙ sym level ∙ stays_inside observations inside closed chain o.station goal rest h.1
    ]

-- where no observation crosses a boundary and every benchmark is outside, no point inside is tied
pub untied_inside : (observations : List Observed) (benchmarks : BenchmarkRows) (inside : List ℕ → Bool) → All (λ o. inside o.station ≡ inside o.target) observations → ((name : List ℕ) → IsSome (height_of benchmarks name) → inside name ≡ false) → (point : List ℕ) → inside point ≡ true → ¬ IsTied observations benchmarks point
untied_inside observations benchmarks inside closed outside point here tied =
    let same = stays_inside observations inside closed tied.2.0 point tied.0 tied.2.1 tied.2.2 in
    let there = outside tied.0 tied.1 in
    grind arith
