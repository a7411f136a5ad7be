-- How far points are from what is read, over the best heights where the number of a name is set free.
use Rattle.std.specs.Prelude.{◌≡◌, ◌≢◌, ℕ, ℤ, ◌-ℤ◌, ◌≤ℤ◌, List, IsSome, None}
use Rattle.th_network.specs.Links.{base}
use Rattle.th_network.specs.Networks.{Survey}
use Rattle.th_tables.specs.Rows.{height_of}
use Rattle.th_changes.specs.declared.numbers.Number.{Number}
use Rattle.th_changes.specs.declared.numbers.Number.TheVariants.{Added, Benchmark}
use Rattle.th_names.specs.Fits.{AreBestFreed, AreFrom, AreTo, above_begin, above_end, weight_at, weight_in}
use Rattle.th_names.specs.Readings.{Reading, aimed, of_observations, of_rows, renamed_row, set_up}
use Rattle.th_names.specs.declared.namings.Naming.{Naming}
use Rattle.th_names.specs.declared.namings.Naming.TheVariants.{Row, Station, Target}

-- the name is one of the survey: that of the target or the station of all of the sights, or that in the row of a benchmark
abbrev pub IsNaming : Survey → Naming → Type 0
IsNaming survey (Target sights name) = AreTo sights name survey.observations
IsNaming survey (Station sights name) = AreFrom sights name survey.observations
IsNaming survey (Row name) = IsSome (height_of survey.benchmarks name)

abbrev pub name_in : Naming → List ℕ
name_in (Target sights name) = name
name_in (Station sights name) = name
name_in (Row name) = name

-- the number that the name belongs to
abbrev pub number_in : Naming → Number
number_in (Target sights name) = Added sights
number_in (Station sights name) = Added sights
number_in (Row name) = Benchmark name

-- the reading of the survey with another point's name
abbrev pub reading_with : Naming → List ℕ → Reading
reading_with (Target sights name) point = of_observations (aimed sights point)
reading_with (Station sights name) point = of_observations (set_up sights point)
reading_with (Row name) point = of_rows (renamed_row name point)

-- a point that the name may be read as: one that the row of a benchmark is read as has none
abbrev pub MayBeRead : Survey → Naming → List ℕ → Type 0
MayBeRead survey (Target sights name) point = Unit {0}
MayBeRead survey (Station sights name) point = Unit {0}
MayBeRead survey (Row name) point = (height_of survey.benchmarks point ≡ None) × (point ≢ name)

-- the weight of what is read: that of the sights, or of the observations at the point
abbrev pub weight_with : Survey → Naming → List ℕ → ℕ
weight_with survey (Target sights name) point = weight_in survey sights
weight_with survey (Station sights name) point = weight_in survey sights
weight_with survey (Row name) point = weight_at survey point

-- how high a point is above what is read, at heights and a change of the number: above where the sights end or begin, or above the height in the row
abbrev pub gap : Survey → Naming → ℤ → (List ℕ → ℤ) → List ℕ → ℤ
gap survey (Target sights name) x heights point = above_end name x heights point
gap survey (Station sights name) x heights point = above_begin name x heights point
gap survey (Row name) x heights point = heights point -ℤ base survey.benchmarks name

-- at some of the best heights where the number is set free, a point is so high above what is read
abbrev pub LiesBy : Survey → Naming → List ℕ → ℤ → Type 0
LiesBy survey naming point own = (freed : ℕ) × (x : ℤ) × (heights : List ℕ → ℤ) × AreBestFreed survey (number_in naming) freed x heights × (gap survey naming x heights point ≡ own)

-- how high a point is above what is read, over all best heights where the number is set free: at least `low`, at most `high`
pub record IsBetween (survey : Survey) (naming : Naming) (point : List ℕ) (low high : ℤ) : Type 0 where
  pub low_reached : LiesBy survey naming point low
  pub high_reached : LiesBy survey naming point high
  pub least : (own : ℤ) → LiesBy survey naming point own → low ≤ℤ own
  pub greatest : (own : ℤ) → LiesBy survey naming point own → own ≤ℤ high
