-- The points are distinct: a name stands at its place alone, and both ends of an observation have a place.
use Rattle.std.proofs.Common.{◌≡◌, ◌↔◌, ◌⊎◌, ℕ, ◌+◌, inl, inr, Bool, true, false, not, cond, ◌||◌, List, [], ◌∷◌, ◌++◌, get_or, slice_get, length, map, ◌<◌, Some, IsSome, is_some, All, Contains, bytes_eq, refl, sym, ap, ◌∙◌, subst, arith, one-add}
use Rattle.std.specs.List.{IsDistinct}
use Rattle.std.proofs.lemmas.Cmp.{nat_list_eq_equiv}
use Rattle.std.proofs.lemmas.Bool.{false≢true, or_left, or_right}
use Rattle.std.proofs.lemmas.Slice.Eq.{bytes_eq-Decides}
use Rattle.std.proofs.lemmas.Map.Views.{Contains-from_any, list_any-from_Contains}
use Rattle.std.proofs.lemmas.Map.Keys.{IsDistinct-push, apart_from_distinct}
use Rattle.std.proofs.lemmas.List.Folds.{list_any-append, list_any_at}
use Rattle.std.proofs.lemmas.List.Sums.{position_or_len_is}
use Rattle.std.proofs.lemmas.List.Elements.{All-contains, All-from_recursion, All-map, All-weaker}
use Rattle.std.proofs.lemmas.Option.{slice_get_within, slice_get_read, get_or_from_slice_get}
use Rattle.indexmap.specs.IndexSet.{insert_key, insert_all}
use Rattle.th_observations.specs.Observed.{Observed}
use Rattle.th_tables.specs.Rows.{BenchmarkRows, height_of}
use Rattle.th_points.specs.Ends.{AreBelow, ArePoints, ends_in, ends_of}
use Rattle.th_points.specs.Points.{ends, points}
use Rattle.th_points.specs.Places.{place_of}
use Rattle.th_points.proofs.PointLemmas.{is_among, bytes_eq_same, among_distinct, EndsAmong, ends_are_points}
use Rattle.th_points.proofs.PointOrder.{distinct_more, bytes_eq_turned}

insert_all_distinct : (names more : List (List ℕ)) → IsDistinct bytes_eq names → IsDistinct bytes_eq (insert_all bytes_eq names more)
insert_all_distinct names [] h = h
insert_all_distinct names (name ∷ more) h = insert_all_distinct (insert_key bytes_eq names name) more (one (is_among names name) refl)
  where
    one : (b : Bool) → is_among names name ≡ b → IsDistinct bytes_eq (cond b names (names ++ name ∷ []))
    one true e = h
    one false e = IsDistinct-push nat_list_eq_equiv names name h e

no_names_distinct : IsDistinct bytes_eq []
unfolding IsDistinct
no_names_distinct = tt

pub points_distinct : (observations : List Observed) (benchmarks : BenchmarkRows) → IsDistinct bytes_eq (points observations benchmarks)
unfolding points
points_distinct observations benchmarks =
    let names = ends observations ++ map (λ row. row.0) benchmarks in
    subst (IsDistinct bytes_eq) (distinct_more [] names) (insert_all_distinct [] names no_names_distinct)

pub place_of_at : (names : List (List ℕ)) (k : ℕ) (name : List ℕ) → IsDistinct bytes_eq names → slice_get names k ≡ Some name → place_of names name ≡ k
place_of_at names k name h at =
    let within = slice_get_within names k name at in
    let here = get_or_from_slice_get names k name name at in
    position_or_len_is (bytes_eq name) names k name (omega arith) (λ j before.
    let apart : bytes_eq (get_or names j name) name ≡ false = ap (bytes_eq (get_or names j name)) (sym here) ∙ apart_from_distinct bytes_eq names j k name h before within in
    bytes_eq_turned (get_or names j name) name false apart) (λ _. ap (bytes_eq name) here ∙ bytes_eq_same name)

-- a name that stands at a place goes in without a change
pub insert_there : (names : List (List ℕ)) (k : ℕ) (name : List ℕ) → slice_get names k ≡ Some name → insert_key bytes_eq names name ≡ names
insert_there names k name at =
    let here = get_or_from_slice_get names k name name at in
    let among : is_among names name ≡ true = list_any_at (bytes_eq name) names k name (slice_get_within names k name at) (ap (bytes_eq name) here ∙ bytes_eq_same name) in
    ap (λ b. cond b names (names ++ name ∷ [])) among

-- what stands at a place stands at the next one of a longer list
at_next : (first : List ℕ) (names : List (List ℕ)) (name : List ℕ) (k : ℕ) → slice_get names k ≡ Some name → slice_get (first ∷ names) (1 + k) ≡ Some name
at_next first names name k at =
    let within = slice_get_within names k name at in
    slice_get_read (first ∷ names) (length (first ∷ names)) (1 + k) name refl (omega arith) (sym (ap (λ i. get_or (first ∷ names) i name) (one-add k) ∙ get_or_from_slice_get names k name name at))

-- a name that is there is found at its place
pub at_place_of : (names : List (List ℕ)) (name : List ℕ) → is_among names name ≡ true → slice_get names (place_of names name) ≡ Some name
at_place_of [] name there = absurd (false≢true there)
at_place_of (first ∷ names) name there = by (bytes_eq name first) (bytes_eq-Decides name first).0 (at_place_of names name) there
  where
    by : (b : Bool) → (b ≡ true → name ≡ first) → (is_among names name ≡ true → slice_get names (place_of names name) ≡ Some name) → (b || is_among names name) ≡ true → slice_get (first ∷ names) (cond (not b) (1 + place_of names name) 0) ≡ Some name
    by true same h e = ap Some (sym (same refl))
    by false same h e = at_next first names name (place_of names name) (h e)

-- a name is among those of the rows just where it is listed
among_rows : (benchmarks : BenchmarkRows) (name : List ℕ) → is_among (map (λ row. row.0) benchmarks) name ≡ is_some (height_of benchmarks name)
among_rows [] name = refl
among_rows (row ∷ benchmarks) name = by (bytes_eq name row.0) (among_rows benchmarks name)
  where
    by : (b : Bool) → is_among (map (λ row. row.0) benchmarks) name ≡ is_some (height_of benchmarks name) → (b || is_among (map (λ row. row.0) benchmarks) name) ≡ is_some (cond b (Some row.1) (height_of benchmarks name))
    by true h = refl
    by false h = h

-- a name is a point just where it is an end or a benchmark
among_points : (observations : List Observed) (benchmarks : BenchmarkRows) (name : List ℕ) → is_among (points observations benchmarks) name ≡ (is_among (ends observations) name || is_some (height_of benchmarks name))
unfolding points
among_points observations benchmarks name =
    let rows = map (λ row. row.0) benchmarks in
    among_distinct (ends observations ++ rows) name ∙ list_any-append (bytes_eq name) (ends observations) rows ∙ ap (λ b. is_among (ends observations) name || b) (among_rows benchmarks name)

pub benchmark_is_point : (observations : List Observed) (benchmarks : BenchmarkRows) (name : List ℕ) → IsSome (height_of benchmarks name) → is_among (points observations benchmarks) name ≡ true
benchmark_is_point observations benchmarks name listed =
    among_points observations benchmarks name ∙ or_right (is_among (ends observations) name) (is_some (height_of benchmarks name)) listed

-- each end of an observation is found at its place
pub ends_at_places : (observations : List Observed) (benchmarks : BenchmarkRows) (o : Observed) → Contains observations o → (slice_get (points observations benchmarks) (place_of (points observations benchmarks) o.station) ≡ Some o.station) × (slice_get (points observations benchmarks) (place_of (points observations benchmarks) o.target) ≡ Some o.target)
ends_at_places observations benchmarks o has =
    let names = points observations benchmarks in
    let among : EndsAmong names o = All-contains (EndsAmong names) observations o (All-from_recursion (EndsAmong names) observations (ends_are_points observations benchmarks)) has in
    (at_place_of names o.station among.0, at_place_of names o.target among.1)

-- so its ends are places among the points
place_within : (names : List (List ℕ)) (name : List ℕ) → is_among names name ≡ true → place_of names name < length names
place_within names name there = slice_get_within names (place_of names name) name (at_place_of names name there)

pub ends_within : (observations : List Observed) (benchmarks : BenchmarkRows) (names : List (List ℕ)) (ends : List (ℕ × ℕ)) → ArePoints observations benchmarks names ends → All (AreBelow (length names)) ends
ends_within observations benchmarks names ends h =
    let ps = points observations benchmarks in
    let Within : Observed → Type 0 = λ o. AreBelow (length ps) (ends_in ps o) in
    let each : All Within observations = All-weaker (EndsAmong ps) Within (λ o among. (place_within ps o.station among.0, place_within ps o.target among.1)) observations (All-from_recursion (EndsAmong ps) observations (ends_are_points observations benchmarks)) in
    subst (All (AreBelow (length names))) (sym h.placed) (subst (λ (ns : List (List ℕ)). All (AreBelow (length ns)) (ends_of observations benchmarks)) (sym h.all) (All-map (AreBelow (length ps)) (ends_in ps) observations each))

-- both ends of each observation, and each benchmark, are points
among_contained : (names : List (List ℕ)) (name : List ℕ) → is_among names name ≡ true → Contains names name
among_contained names name there = Contains-from_any (λ a b. (bytes_eq-Decides a b).0) name names there

pub ends_contained : (observations : List Observed) (benchmarks : BenchmarkRows) → All (λ o. Contains (points observations benchmarks) o.station × Contains (points observations benchmarks) o.target) observations
ends_contained observations benchmarks =
    let names = points observations benchmarks in
    All-weaker (EndsAmong names) (λ o. Contains names o.station × Contains names o.target) (λ o h. (among_contained names o.station h.0, among_contained names o.target h.1)) observations (All-from_recursion (EndsAmong names) observations (ends_are_points observations benchmarks))

pub benchmarks_contained : (observations : List Observed) (benchmarks : BenchmarkRows) (name : List ℕ) → IsSome (height_of benchmarks name) → Contains (points observations benchmarks) name
benchmarks_contained observations benchmarks name listed = among_contained (points observations benchmarks) name (benchmark_is_point observations benchmarks name listed)

-- the points are the ends of the observations and the benchmarks
pub points_cases : (observations : List Observed) (benchmarks : BenchmarkRows) (name : List ℕ) → Contains (points observations benchmarks) name ↔ (Contains (ends observations) name ⊎ IsSome (height_of benchmarks name))
points_cases observations benchmarks name = (λ has. there (is_among (ends observations) name) refl (sym (among_points observations benchmarks name) ∙ list_any-from_Contains nat_list_eq_equiv name (points observations benchmarks) has), back)
  where
    there : (b : Bool) → is_among (ends observations) name ≡ b → (b || is_some (height_of benchmarks name)) ≡ true → Contains (ends observations) name ⊎ IsSome (height_of benchmarks name)
    there true e h = inl (among_contained (ends observations) name e)
    there false e h = inr h

    back : Contains (ends observations) name ⊎ IsSome (height_of benchmarks name) → Contains (points observations benchmarks) name
    back (inl end) = among_contained (points observations benchmarks) name (among_points observations benchmarks name ∙ or_left (is_among (ends observations) name) (is_some (height_of benchmarks name)) (list_any-from_Contains nat_list_eq_equiv name (ends observations) end))
    back (inr listed) = benchmarks_contained observations benchmarks name listed
