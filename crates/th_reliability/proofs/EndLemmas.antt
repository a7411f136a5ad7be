-- Which observations have an end at a point, by the places of their ends among the points.
use Rattle.std.proofs.Common.{◌≡◌, ℕ, Bool, true, false, ◌||◌, List, [], ◌∷◌, map, slice_get, Some, IsSome, All, bytes_eq, cond, eqb, count_by, refl, ap, sym, ◌∙◌, arith}
use Rattle.std.proofs.lemmas.Bool.{eq-eqb, eqb-true, false≢true}
use Rattle.std.proofs.lemmas.List.Elements.{All-head, All-tail, Contains-get_or}
use Rattle.std.proofs.lemmas.List.Sums.{sum_by-cons}
use Rattle.std.proofs.lemmas.Slice.Eq.{bytes_eq-Decides}
use Rattle.th_observations.specs.Observed.{Observed}
use Rattle.th_tables.specs.Rows.{BenchmarkRows, height_of}
use Rattle.th_points.specs.Ends.{ends_in, ends_of}
use Rattle.th_points.specs.Places.{place_of}
use Rattle.th_points.specs.Points.{points}
use Rattle.th_points.proofs.PlaceLemmas.{at_place_of, benchmark_is_point, ends_at_places}
use Rattle.th_reliability.specs.Benchmarks.{has_end}
use Rattle.th_reliability.specs.Inside.Ends.{is_at}

-- a name is at its place among names
abbrev IsThere : List (List ℕ) → List ℕ → Type 0
IsThere names name = slice_get names (place_of names name) ≡ Some name

module _ (names : List (List ℕ)) (name : List ℕ) (there : IsThere names name) where
  -- another name has its place just where it is the same
  same_place : (other : List ℕ) → IsThere names other → eqb (place_of names other) (place_of names name) ≡ bytes_eq other name
  same_place other here = by (bytes_eq other name) (eqb (place_of names other) (place_of names name)) refl refl
    where
      by : (b c : Bool) → bytes_eq other name ≡ b → eqb (place_of names other) (place_of names name) ≡ c → eqb (place_of names other) (place_of names name) ≡ bytes_eq other name
      by true c e f = eq-eqb (place_of names other) (place_of names name) (ap (place_of names) ((bytes_eq-Decides other name).0 e)) ∙ sym e
      by false false e f = f ∙ sym e
      by false true e f =
          let at = sym here ∙ ap (slice_get names) (eqb-true (place_of names other) (place_of names name) f) ∙ there in
          let same : other ≡ name = cc in
          absurd (false≢true (sym e ∙ (bytes_eq-Decides other name).1 same))

  ends_marked : (observations : List Observed) → All (λ o. IsThere names o.station × IsThere names o.target) observations → map (is_at (place_of names name)) (map (ends_in names) observations) ≡ map (has_end name) observations
  ends_marked [] here = refl
  ends_marked (o ∷ observations) here =
      let Here : Observed → Type 0 = λ o. IsThere names o.station × IsThere names o.target in
      let rest = ends_marked observations (All-tail Here o observations here) in
      let ends = All-head Here o observations here in
      let one = ap (λ (b : Bool). b || eqb (place_of names o.target) (place_of names name)) (same_place o.station ends.0) ∙ ap (λ (b : Bool). bytes_eq o.station name || b) (same_place o.target ends.1) in
      ap (λ (b : Bool). b ∷ map (is_at (place_of names name)) (map (ends_in names) observations)) one ∙ ap (λ (bs : List Bool). has_end name o ∷ bs) rest

-- a benchmark's observations are those with an end at its place
pub marked : (observations : List Observed) (benchmarks : BenchmarkRows) (name : List ℕ) → IsSome (height_of benchmarks name) → map (is_at (place_of (points observations benchmarks) name)) (ends_of observations benchmarks) ≡ map (has_end name) observations
marked observations benchmarks name listed =
    let names = points observations benchmarks in
    ends_marked names name (at_place_of names name (benchmark_is_point observations benchmarks name listed)) observations (λ k d within. ends_at_places observations benchmarks _ (Contains-get_or observations k d within))

-- as many are marked as have the mark
pub count_of : {X : Type 0} (p : X → Bool) (xs : List X) → count_by (λ mark. mark) (map p xs) ≡ count_by p xs
count_of p [] = refl
count_of p (x ∷ xs) =
    let a = sum_by-cons (λ (mark : Bool). cond mark 1 0) (p x) (map p xs) in
    let b = sum_by-cons (λ x. cond (p x) 1 0) x xs in
    let rest = count_of p xs in
    omega (arith, a, b, rest)
