-- What the tests of names show.
use Rattle.std.proofs.Common.{◌≡◌, ◌≢◌, ℕ, Bool, true, false, not, ◌||◌, ◌&&◌, List, [], ◌∷◌, All, Some, bytes_eq, is_some, slice_get, refl, sym}
use Rattle.std.specs.List.{AllByRecursion, list_all}
use Rattle.std.proofs.lemmas.Bool.{false≢true}
use Rattle.std.proofs.lemmas.List.Elements.{All-from_recursion}
use Rattle.std.proofs.lemmas.Slice.Eq.{bytes_eq-Decides}
use Rattle.th_network.specs.Networks.{Survey, points_of}
use Rattle.th_observations.specs.Observed.{Observed}
use Rattle.th_points.specs.Places.{place_of}
use Rattle.th_points.proofs.PlaceLemmas.{at_place_of}
use Rattle.th_points.proofs.PointLemmas.{is_among}
use Rattle.th_reliability.specs.Sights.{in_sights}
use Rattle.th_reliability.specs.declared.sights.Sights.{Sights}
use Rattle.th_tables.specs.Rows.{height_of}
use Rattle.th_names.specs.Doubts.{namings_of, number_of}
use Rattle.th_names.specs.Gaps.{IsNaming, name_in, number_in}
use Rattle.th_names.specs.Nears.{is_from, is_naming, is_placed, is_to, may_be_read}
use Rattle.th_names.specs.declared.doubts.Doubt.{Doubt}
use Rattle.th_names.specs.declared.doubts.Doubt.TheVariants.{Sight, LoneSight, Setup, Benchmark}
use Rattle.th_names.specs.declared.namings.Naming.{Naming}
use Rattle.th_names.specs.declared.namings.Naming.TheVariants.{Row, Station, Target}

both : (b c : Bool) → (b && c) ≡ true → (b ≡ true) × (c ≡ true)
both true true e = (refl, refl)
both true false e = absurd (false≢true e)
both false c e = absurd (false≢true e)

all_of : {X : Type 0} (p : X → Bool) (P : X → Type 0) → ((x : X) → p x ≡ true → P x) → (xs : List X) → list_all p xs ≡ true → AllByRecursion P xs
all_of p P each [] passed = tt
all_of {X = X} p P each (x ∷ xs) passed = by (both (p x) (list_all p xs) passed) (all_of p P each xs)
  where
    by : ((p x ≡ true) × (list_all p xs ≡ true)) → (list_all p xs ≡ true → AllByRecursion P xs) → P x × AllByRecursion P xs
    by (here, others) rest = (each x here, rest others)

same_if : (b c : Bool) (one other : List ℕ) → (c ≡ true → one ≡ other) → (not b || c) ≡ true → b ≡ true → other ≡ one
same_if true c one other same passed among = sym (same passed)
same_if false c one other same passed among = absurd (false≢true among)

abbrev IsTo : Sights → List ℕ → Observed → Type 0
IsTo sights name o = in_sights sights o ≡ true → o.target ≡ name

abbrev IsFrom : Sights → List ℕ → Observed → Type 0
IsFrom sights name o = in_sights sights o ≡ true → o.station ≡ name

pub naming_is : (survey : Survey) (naming : Naming) → is_naming survey naming ≡ true → IsNaming survey naming
naming_is survey (Target sights name) passed =
    All-from_recursion (IsTo sights name) survey.observations
    (all_of (is_to sights name) (IsTo sights name) (λ o. same_if (in_sights sights o) (bytes_eq name o.target) name o.target (bytes_eq-Decides name o.target).0) survey.observations passed)
naming_is survey (Station sights name) passed =
    All-from_recursion (IsFrom sights name) survey.observations
    (all_of (is_from sights name) (IsFrom sights name) (λ o. same_if (in_sights sights o) (bytes_eq name o.station) name o.station (bytes_eq-Decides name o.station).0) survey.observations passed)
naming_is survey (Row name) passed = passed

-- a name that is one of the survey and of a point
pub placed_is : (survey : Survey) (naming : Naming) → is_placed survey naming ≡ true → IsNaming survey naming × (slice_get (points_of survey) (place_of (points_of survey) (name_in naming)) ≡ Some (name_in naming))
placed_is survey naming passed = by (both (is_naming survey naming) (is_among (points_of survey) (name_in naming)) passed)
  where
    by : ((is_naming survey naming ≡ true) × (is_among (points_of survey) (name_in naming) ≡ true)) → IsNaming survey naming × (slice_get (points_of survey) (place_of (points_of survey) (name_in naming)) ≡ Some (name_in naming))
    by (named, among) = (naming_is survey naming named, at_place_of (points_of survey) (name_in naming) among)

-- a point that may be read in the row of a benchmark is another one
pub another_point : (survey : Survey) (name point : List ℕ) → may_be_read survey (Row name) point ≡ true → name ≢ point
another_point survey name point may = λ same. by (bytes_eq name point) (is_some (height_of survey.benchmarks point)) ((bytes_eq-Decides name point).1 same) may
  where
    by : (b c : Bool) → b ≡ true → not (b || c) ≡ true → ⊥
    by true c same may = false≢true may
    by false c same may = false≢true same

-- all names of what is doubted belong to its number
pub namings_number : (doubt : Doubt) → All (λ naming. number_in naming ≡ number_of doubt) (namings_of doubt)
namings_number (Sight sights target) = All-from_recursion (λ naming. number_in naming ≡ number_of (Sight sights target)) (namings_of (Sight sights target)) (refl, tt)
namings_number (LoneSight sights target station) = All-from_recursion (λ naming. number_in naming ≡ number_of (LoneSight sights target station)) (namings_of (LoneSight sights target station)) (refl, (refl, tt))
namings_number (Setup sights station) = All-from_recursion (λ naming. number_in naming ≡ number_of (Setup sights station)) (namings_of (Setup sights station)) (refl, tt)
namings_number (Benchmark name) = All-from_recursion (λ naming. number_in naming ≡ number_of (Benchmark name)) (namings_of (Benchmark name)) (refl, tt)
