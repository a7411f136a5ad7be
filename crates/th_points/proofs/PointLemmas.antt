-- Each end of an observation is a point.
use Rattle.std.proofs.Common.{◌≡◌, ℕ, Bool, true, false, not, cond, ◌||◌, List, [], ◌∷◌, ◌++◌, map, filter, bytes_eq, refl, ap, ◌∙◌, sym, arith}
use Rattle.std.proofs.lemmas.Bool.{or_left, or_right}
use Rattle.std.proofs.lemmas.Slice.Eq.{bytes_eq-Decides}
use Rattle.std.specs.List.{list_any, AllByRecursion}
use Rattle.th_observations.specs.Observed.{Observed}
use Rattle.th_tables.specs.Rows.{BenchmarkRows}
use Rattle.th_points.specs.Points.{distinct, ends, points}

-- whether a list has a name
abbrev pub is_among : List (List ℕ) → List ℕ → Bool
is_among names name = list_any (bytes_eq name) names

pub bytes_eq_same : (name : List ℕ) → bytes_eq name name ≡ true
bytes_eq_same name = (bytes_eq-Decides name name).1 refl

among_append : (names more : List (List ℕ)) (name : List ℕ) → is_among names name ≡ true → is_among (names ++ more) name ≡ true
among_append [] more name e = grind arith
among_append (first ∷ names) more name e = by (bytes_eq name first) (among_append names more name) e
  where
    by : (b : Bool) → (is_among names name ≡ true → is_among (names ++ more) name ≡ true) → (b || is_among names name) ≡ true → (b || is_among (names ++ more) name) ≡ true
    by true h e = refl
    by false h e = h e

-- a name is among the rest or is the one that was taken out
pub among_filter : (first name : List ℕ) (names : List (List ℕ)) → bytes_eq name first ≡ false → is_among (filter (λ later. not (bytes_eq first later)) names) name ≡ is_among names name
among_filter first name [] other = refl
among_filter first name (next ∷ names) other = by (bytes_eq first next) (bytes_eq-Decides first next).0 (among_filter first name names other)
  where
    by : (b : Bool) → (b ≡ true → first ≡ next) → is_among (filter (λ later. not (bytes_eq first later)) names) name ≡ is_among names name → is_among (cond (not b) (next ∷ filter (λ later. not (bytes_eq first later)) names) (filter (λ later. not (bytes_eq first later)) names)) name ≡ (bytes_eq name next || is_among names name)
    by true e h = h ∙ ap (λ t. t || is_among names name) (sym (ap (bytes_eq name) (sym (e refl)) ∙ other))
    by false e h = ap (λ t. bytes_eq name next || t) h

pub among_distinct : (names : List (List ℕ)) (name : List ℕ) → is_among (distinct names) name ≡ is_among names name
among_distinct [] name = refl
among_distinct (first ∷ names) name = by (bytes_eq name first) refl (among_distinct names name)
  where
    by : (b : Bool) → bytes_eq name first ≡ b → is_among (distinct names) name ≡ is_among names name → (b || is_among (filter (λ later. not (bytes_eq first later)) (distinct names)) name) ≡ (b || is_among names name)
    by true e h = refl
    by false e h = among_filter first name (distinct names) e ∙ h

-- both ends of an observation are in the list
abbrev pub EndsAmong : List (List ℕ) → Observed → Type 0
EndsAmong names o = (is_among names o.station ≡ true) × (is_among names o.target ≡ true)

ends_among : (observations : List Observed) (names : List (List ℕ)) → ((name : List ℕ) → is_among (ends observations) name ≡ true → is_among names name ≡ true) → AllByRecursion (EndsAmong names) observations
ends_among [] names has = tt
ends_among (o ∷ observations) names has = (
  (
    has o.station (or_left (bytes_eq o.station o.station) (bytes_eq o.station o.target || is_among (ends observations) o.station) (bytes_eq_same o.station)),
    has o.target (or_right (bytes_eq o.target o.station) (bytes_eq o.target o.target || is_among (ends observations) o.target) (or_left (bytes_eq o.target o.target) (is_among (ends observations) o.target) (bytes_eq_same o.target))),
  ),
  ends_among observations names (λ name e. has name (or_right (bytes_eq name o.station) (bytes_eq name o.target || is_among (ends observations) name) (or_right (bytes_eq name o.target) (is_among (ends observations) name) e))),
)

-- the ends of each observation are points
pub ends_are_points : (observations : List Observed) (benchmarks : BenchmarkRows) → AllByRecursion (EndsAmong (points observations benchmarks)) observations
unfolding points
ends_are_points observations benchmarks =
    let names = ends observations ++ map (λ row. row.0) benchmarks in
    ends_among observations (distinct names) (λ name e. among_distinct names name ∙ among_append (ends observations) (map (λ row. row.0) benchmarks) name e)
