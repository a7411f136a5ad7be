-- Points and their places: a place is reached just where its point is tied to a benchmark.
use Rattle.std.proofs.Common.{◌≡◌, ℕ, inl, inr, ℤ, List, [], ◌∷◌, slice_get, map, Option, Some, None, IsSome, is_some, option_map, All, Contains, refl, sym, ap, ◌∙◌, subst}
use Rattle.std.proofs.lemmas.Bool.{false≢true}
use Rattle.std.proofs.lemmas.List.Elements.{All-head, All-tail}
use Rattle.std.proofs.lemmas.Option.{same_Some, slice_get-map}
use Rattle.th_observations.specs.Observed.{Observed}
use Rattle.th_tables.specs.Rows.{BenchmarkRows, height_of}
use Rattle.th_points.specs.Points.{ends, points}
use Rattle.th_points.specs.Places.{place_of}
use Rattle.th_points.specs.Ends.{ends_in, ends_of}
use Rattle.th_network.specs.Inside.Reached.{IsReached, by_height, joined}
use Rattle.th_network.specs.Walks.{Leads, IsTied}
use Rattle.th_network.proofs.Gets.{Contains-map, Contains-in_map}
use Rattle.th_points.proofs.PlaceLemmas.{at_place_of, benchmark_is_point, ends_at_places, place_of_at, points_distinct}
use Rattle.th_network.proofs.WalkLemmas.{tied_itself, tied_station, tied_target}

-- the heights of the points that are benchmarks
abbrev pub point_heights : List Observed → BenchmarkRows → List (Option ℤ)
point_heights observations benchmarks = map (height_of benchmarks) (points observations benchmarks)

-- the point at this place is reached
abbrev pub IsPointReached : List Observed → BenchmarkRows → ℕ → Type 0
IsPointReached observations benchmarks = IsReached (point_heights observations benchmarks) (ends_of observations benchmarks)

-- two places are the ends of an observation: it ends at the points that stand there
placed_ends : (observations : List Observed) (benchmarks : BenchmarkRows) (p q : ℕ) → Contains (ends_of observations benchmarks) (p, q) → (o : Observed) × Contains observations o × (slice_get (points observations benchmarks) p ≡ Some o.station) × (slice_get (points observations benchmarks) q ≡ Some o.target)
placed_ends observations benchmarks p q has =
    let names = points observations benchmarks in
    let found = Contains-map (ends_in names) observations (p, q) has in
    let places = ends_at_places observations benchmarks found.0 found.1 in
    (found.0, found.1, ap (λ (pair : ℕ × ℕ). slice_get names pair.0) (sym found.2) ∙ places.0, ap (λ (pair : ℕ × ℕ). slice_get names pair.1) (sym found.2) ∙ places.1)

same_name : (names : List (List ℕ)) (place : ℕ) (name end : List ℕ) → slice_get names place ≡ Some name → slice_get names place ≡ Some end → name ≡ end
same_name names place name end at there = same_Some _ _ (sym at ∙ there)

pub tied_from_reached : (observations : List Observed) (benchmarks : BenchmarkRows) (place : ℕ) → IsPointReached observations benchmarks place → (name : List ℕ) → slice_get (points observations benchmarks) place ≡ Some name → IsTied observations benchmarks name
tied_from_reached observations benchmarks _ (by_height place height at) name here =
    tied_itself observations benchmarks name (ap is_some (same_Some _ _ (sym (slice_get-map (height_of benchmarks) (points observations benchmarks) place ∙ ap (option_map (height_of benchmarks)) here) ∙ at)))
tied_from_reached observations benchmarks _ (joined place other (inl ends) reached) name here =
    let found = placed_ends observations benchmarks place other ends in
    subst (IsTied observations benchmarks) (same_name (points observations benchmarks) place found.0.station name found.2 here) (tied_station observations benchmarks found.0 found.1 (tied_from_reached observations benchmarks other reached found.0.target found.3))
tied_from_reached observations benchmarks _ (joined place other (inr ends) reached) name here =
    let found = placed_ends observations benchmarks other place ends in
    subst (IsTied observations benchmarks) (same_name (points observations benchmarks) place found.0.target name found.3 here) (tied_target observations benchmarks found.0 found.1 (tied_from_reached observations benchmarks other reached found.0.station found.2))

-- along a chain to a benchmark each place is reached
reached_along : (observations : List Observed) (benchmarks : BenchmarkRows) (chain : List Observed) (start goal : List ℕ) → All (Contains observations) chain → Leads chain start goal → IsSome (height_of benchmarks goal) → IsPointReached observations benchmarks (place_of (points observations benchmarks) start)
reached_along observations benchmarks [] start goal among leads listed = by (height_of benchmarks start) refl
  where
    names : List (List ℕ)
    names = points observations benchmarks

    listed_start : IsSome (height_of benchmarks start)
    listed_start = subst (λ (name : List ℕ). IsSome (height_of benchmarks name)) (sym leads) listed

    there : slice_get names (place_of names start) ≡ Some start
    there = at_place_of names start (benchmark_is_point observations benchmarks start listed_start)

    by : (h : Option ℤ) → height_of benchmarks start ≡ h → IsPointReached observations benchmarks (place_of names start)
    by None e = absurd (false≢true (sym (ap is_some e) ∙ listed_start))
    by (Some height) e = by_height (place_of names start) height (slice_get-map (height_of benchmarks) names (place_of names start) ∙ ap (option_map (height_of benchmarks)) there ∙ ap Some e)
reached_along observations benchmarks (o ∷ chain) start goal among leads listed =
    let rest = All-tail (Contains observations) o chain among in
    let names = points observations benchmarks in
    let ends = Contains-in_map (ends_in names) observations o (All-head (Contains observations) o chain among) in
    let Reached : List ℕ → Type 0 = λ name. IsPointReached observations benchmarks (place_of names name) in
    elim leads [
      | inl h ↦ subst Reached (sym h.0) (joined (place_of names o.station) (place_of names o.target) (inl ends) (reached_along observations benchmarks chain o.target goal rest h.1 listed))
      | inr h ↦ subst Reached (sym h.0) (joined (place_of names o.target) (place_of names o.station) (inr ends) (reached_along observations benchmarks chain o.station goal rest h.1 listed))
    ]

pub reached_from_tied : (observations : List Observed) (benchmarks : BenchmarkRows) (place : ℕ) (name : List ℕ) → slice_get (points observations benchmarks) place ≡ Some name → IsTied observations benchmarks name → IsPointReached observations benchmarks place
reached_from_tied observations benchmarks place name here tied =
    subst (IsPointReached observations benchmarks) (place_of_at (points observations benchmarks) place name (points_distinct observations benchmarks) here) (reached_along observations benchmarks tied.2.0 name tied.0 tied.2.1 tied.2.2 tied.1)
