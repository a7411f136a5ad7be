-- Points whose names differ only in upper and lower case.
use Rattle.std.specs.Prelude.{ℕ, ◌||◌, ◌++◌, Bool, List, [], ◌∷◌, Option, Some, None, if◌then◌else◌, option_map, option_to_list}
use Rattle.std.specs.Char.{eq_ignore_ascii_case}
use Rattle.std.specs.Cmp.Lexicographic.{pointwise}
use Rattle.gsi_word.specs.Names.{same_name}
use Rattle.th_observations.specs.Observed.{Observed}
use Rattle.th_network.specs.Networks.{Survey, points_of}
use Rattle.th_remarks.specs.declared.cases.PointAt.{PointAt}
use Rattle.th_remarks.specs.declared.cases.Alike.{Alike}

-- whether two names have the same letters, in upper or lower case, and the same other characters
abbrev pub same_letters : List ℕ → List ℕ → Bool
same_letters = pointwise eq_ignore_ascii_case

-- the first of some names that has the same letters as another one
abbrev pub first_alike : List (List ℕ) → List ℕ → Option (List ℕ)
first_alike [] name = None
first_alike (earlier ∷ rest) name = if same_letters earlier name then Some earlier else first_alike rest name

-- the book and the line of the first sight that has a point as an end
abbrev pub first_use : List Observed → List ℕ → Option (ℕ × ℕ)
first_use [] name = None
first_use (o ∷ rest) name = if same_name o.station name || same_name o.target name then Some (o.book, o.line) else first_use rest name

-- a point with its first use
abbrev pub point_at : List Observed → List ℕ → PointAt
point_at observations name = record { name = name; place = first_use observations name }

-- a point and the first of those before it whose name has the same letters
abbrev pub alike_with : List Observed → List (List ℕ) → List ℕ → Option Alike
alike_with observations before name =
    option_map (λ earlier. record { first = point_at observations earlier; second = point_at observations name }) (first_alike before name)

-- those of points that come behind others
abbrev pub alike_after : List Observed → List (List ℕ) → List (List ℕ) → List Alike
alike_after observations before [] = []
alike_after observations before (name ∷ rest) = option_to_list (alike_with observations before name) ++ alike_after observations (before ++ name ∷ []) rest

-- the points of a survey whose names are those of points before them, but for upper and lower case
abbrev pub alike_in : Survey → List Alike
alike_in survey = alike_after survey.observations [] (points_of survey)
