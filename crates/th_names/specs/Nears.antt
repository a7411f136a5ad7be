-- The points that fit in place of a name.
use Rattle.std.specs.Prelude.{◌≡◌, ℕ, ◌&&◌, ◌||◌, ℤ, pos, ◌+ℤ◌, not, Bool, true, List, [], ◌∷◌, ◌++◌, Option, None, Some, bytes_eq, find, fold, if◌then◌else◌, is_some, length, nat_le, nat_lt, position, take, unwrap_or}
use Rattle.std.specs.List.{AllZip, flat_map, insert, list_all, list_any}
use Rattle.std.specs.Ordering.{int_eq}
use Rattle.th_observations.specs.Observed.{Observed}
use Rattle.th_entries.specs.declared.entries.Entry.{Entry}
use Rattle.th_explain.specs.Explained.{mildest}
use Rattle.th_explain.specs.declared.freed.Freed.{Freed}
use Rattle.th_explain_texts.specs.declared.rows.ReadAs.{ReadAs}
use Rattle.th_explain_texts.specs.declared.rows.ReadAs.TheVariants as read
use Rattle.th_network.specs.Networks.{Survey, points_of}
use Rattle.th_reliability.specs.Sights.{in_sights}
use Rattle.th_reliability.specs.declared.sights.Sights.{Sights}
use Rattle.th_numbers.specs.Readings.{word_33}
use Rattle.th_tables.specs.Rows.{height_of}
use Rattle.th_names.specs.Gaps.{IsBetween, name_in}
use Rattle.th_names.specs.Doubts.{namings_of}
use Rattle.th_names.specs.declared.doubts.Doubt.{Doubt}
use Rattle.th_names.specs.declared.doubts.Doubt.TheVariants.{Sight, LoneSight, Setup, Benchmark}
use Rattle.th_names.specs.declared.located.Located.{Located}
use Rattle.th_names.specs.declared.namings.Naming.{Naming}
use Rattle.th_names.specs.declared.namings.Naming.TheVariants.{Row, Station, Target}
use Rattle.th_names.specs.declared.nears.Near.{Near}

-- ---- which points may be read
-- an observation that is one of the sights is to this target, or from this station
abbrev pub is_to : Sights → List ℕ → Observed → Bool
is_to sights name o = not (in_sights sights o) || bytes_eq name o.target

abbrev pub is_from : Sights → List ℕ → Observed → Bool
is_from sights name o = not (in_sights sights o) || bytes_eq name o.station

-- the name is one of the survey: that of the target or the station of all of the sights, or one in the table of benchmarks
abbrev pub is_naming : Survey → Naming → Bool
is_naming survey (Target sights name) = list_all (is_to sights name) survey.observations
is_naming survey (Station sights name) = list_all (is_from sights name) survey.observations
is_naming survey (Row name) = is_some (height_of survey.benchmarks name)

-- a point is an end of one of the sights
abbrev pub is_end_in : Sights → List ℕ → Observed → Bool
is_end_in sights point o = in_sights sights o && (bytes_eq point o.station || bytes_eq point o.target)

-- A point may be read in place of the name: it is no end of the sights. In place of a benchmark it is another point without a row.
abbrev pub may_be_read : Survey → Naming → List ℕ → Bool
may_be_read survey (Target sights name) point = not (list_any (is_end_in sights point) survey.observations)
may_be_read survey (Station sights name) point = not (list_any (is_end_in sights point) survey.observations)
may_be_read survey (Row name) point = not (bytes_eq name point || is_some (height_of survey.benchmarks point))

-- ---- how far they are
-- A point is so far from what is read, over all best heights where the number of the name is set free: 0 if at some of them it is just there.
pub record IsDistance (survey : Survey) (naming : Naming) (point : List ℕ) (distance : ℕ) : Type 0 where
  pub low : ℤ
  pub high : ℤ
  pub between : IsBetween survey naming point low high
  pub is : distance ≡ mildest low high

-- a point with its distance, if it may be read
pub record IsLocated (survey : Survey) (naming : Naming) (point : List ℕ) (located : Located) : Type 0 where
  pub point_is : located.point ≡ point
  pub far : may_be_read survey naming point ≡ true → IsDistance survey naming point located.distance

-- the points of the survey, if the name is one of it and of a point
abbrev pub is_placed : Survey → Naming → Bool
is_placed survey naming = is_naming survey naming && list_any (bytes_eq (name_in naming)) (points_of survey)

abbrev pub points_read : Survey → Naming → List (List ℕ)
points_read survey naming = if is_placed survey naming then points_of survey else []

-- ---- which of them fit
abbrev pub read_as : Naming → List ℕ → ReadAs
read_as (Target sights name) point = read.Target point
read_as (Station sights name) point = read.Station point
read_as (Row name) point = read.Point point

-- a point fits if it may be read, and is no further from what is read than the limit
abbrev pub near_at : Survey → Naming → ℕ → Located → List Near
near_at survey naming limit located =
    if may_be_read survey naming located.point && nat_le located.distance limit then record { read = read_as naming located.point; fit = located.distance } ∷ [] else []

-- the points that fit in place of a name, in the order of points
pub record AreNear (survey : Survey) (limit : ℕ) (naming : Naming) (nears : List Near) : Type 0 where
  pub located : List Located
  pub are_located : AllZip (IsLocated survey naming) (points_read survey naming) located
  pub listed : nears ≡ flat_map (near_at survey naming limit) located

-- ---- the other sign
-- how far the other sign of a word 33 is from what fits
abbrev pub sign_distance : Freed → ℤ → ℕ
sign_distance freed word = mildest (freed.low +ℤ (word +ℤ word)) (freed.high +ℤ (word +ℤ word))

abbrev pub fits_sign : ℕ → Freed → ℤ → Bool
fits_sign limit freed word = not (int_eq word (pos 0)) && nat_le (sign_distance freed word) limit

abbrev pub sign_with : ℕ → Freed → ℤ → List Near
sign_with limit freed word = if fits_sign limit freed word then record { read = read.OtherSign; fit = sign_distance freed word } ∷ [] else []

abbrev pub sign_near : List Entry → ℕ → Freed → Option Observed → List Near
sign_near entries limit freed None = []
sign_near entries limit freed (Some o) = sign_with limit freed (word_33 entries o)

-- the other sign of the word 33 of a sight, if it fits
abbrev pub sign_nears : Survey → List Entry → ℕ → Freed → Doubt → List Near
sign_nears survey entries limit freed (Sight sights target) = sign_near entries limit freed (find (in_sights sights) survey.observations)
sign_nears survey entries limit freed (LoneSight sights target station) = sign_near entries limit freed (find (in_sights sights) survey.observations)
sign_nears survey entries limit freed (Setup sights station) = []
sign_nears survey entries limit freed (Benchmark name) = []

-- ---- all that fits of a number
-- lists one after another
abbrev pub joined : {A : Type 0} → List (List A) → List A
joined each = flat_map (λ own. own) each

pub record AreFitting (survey : Survey) (entries : List Entry) (limit : ℕ) (freed : Freed) (doubt : Doubt) (nears : List Near) : Type 0 where
  pub each : List (List Near)
  pub are_near : AllZip (AreNear survey limit) (namings_of doubt) each
  pub listed : nears ≡ sign_nears survey entries limit freed doubt ++ joined each

-- the two that fit best, the nearer first; of equal ones the earlier
abbrev pub most_names : ℕ
most_names = 2

abbrev pub is_farther : Near → Near → Bool
is_farther than near = nat_lt than.fit near.fit

abbrev pub place_for : List Near → Near → ℕ
place_for kept near = unwrap_or (position (is_farther near) kept) (length kept)

abbrev pub keep : List Near → Near → List Near
keep kept near = take most_names (insert kept (place_for kept near) near)

abbrev pub nearest : List Near → List Near
nearest nears = fold keep [] nears
