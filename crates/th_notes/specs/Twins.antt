-- Points that may be one: their names differ in one character, and their heights hardly at all.
use Rattle.std.specs.Prelude.{ℕ, ℤ, ◌==◌, ◌&&◌, ◌||◌, ◌-ℤ◌, not, Bool, false, List, [], ◌∷◌, ◌++◌, Option, Some, None, if◌then◌else◌, bytes_eq, drop, length, map, nat_lt, option_to_list, take, unsigned_abs}
use Rattle.std.specs.List.{flat_map}
use Rattle.th_observations.specs.Observed.{Observed}
use Rattle.th_network.specs.Networks.{Survey, points_of}
use Rattle.th_entries.specs.Limits.{max_listed}
use Rattle.th_entries.specs.Listed.{counted}
use Rattle.th_notes.specs.Limited.{rest_note}
use Rattle.th_notes.specs.Seen.{has_end, is_station, was_observed}
use Rattle.th_notes.specs.Uses.{is_used_once, uses_of}
use Rattle.th_notes.specs.declared.notes.Kind.TheVariants.{Twins}
use Rattle.th_notes.specs.declared.notes.Note.{Note}
use Rattle.th_notes.specs.declared.notes.Note.TheVariants.{Twin}
use Rattle.th_notes.specs.declared.notes.Pair.{Pair}
use Rattle.th_notes.specs.declared.twins.Spot.{Spot}

-- heights that are less than 0.05 m apart may be those of one point, in units of 10 nm
abbrev pub twin_limit : ℕ
twin_limit = 5000000

-- whether two texts are one, but for the order of their first two characters
abbrev pub are_exchanged : List ℕ → List ℕ → Bool
are_exchanged [] other = false
are_exchanged (one ∷ []) other = false
are_exchanged (one ∷ two ∷ rest) [] = false
are_exchanged (one ∷ two ∷ rest) (first ∷ []) = false
are_exchanged (one ∷ two ∷ rest) (first ∷ second ∷ others) = (one == second) && ((two == first) && bytes_eq rest others)

-- whether two texts are one, but for a first character that is changed, or that one of them alone has, or for the order of the first two
abbrev pub differ_first : List ℕ → List ℕ → Bool
differ_first text other =
    bytes_eq (drop 1 text) (drop 1 other) || (bytes_eq (drop 1 text) other || (bytes_eq text (drop 1 other) || are_exchanged text other))

-- whether two texts differ in one character: one is changed, added or dropped, or two neighbours are exchanged
abbrev pub differ_once : List ℕ → List ℕ → Bool
differ_once [] other = length other == 1
differ_once (one ∷ rest) [] = length (one ∷ rest) == 1
differ_once (one ∷ rest) (first ∷ others) =
    if one == first then differ_once rest others else differ_first (one ∷ rest) (first ∷ others)

-- whether two points of nearly one height may be one: their names differ in one character, one of them is a station, and no observation runs between them
abbrev pub may_be_one : List Observed → List ℕ → List ℕ → Bool
may_be_one observations name other =
    differ_once name other
    && ((is_station observations name || is_station observations other)
    && not (was_observed observations (name, other) || was_observed observations (other, name)))

-- the pair of a point and an earlier one, whose heights are so far `apart`, if they may be one and one of them is used once: if both are, the later one comes first
abbrev pub pair_if : List Observed → ℕ → List ℕ → List ℕ → Option Pair
pair_if observations apart name earlier =
    if not (nat_lt apart twin_limit) then None
    else (if not (may_be_one observations name earlier) then None
    else (if is_used_once (uses_of observations) name then Some (record { name = name; other = earlier; apart = apart })
    else (if is_used_once (uses_of observations) earlier then Some (record { name = earlier; other = name; apart = apart }) else None)))

-- the same, by the heights of both
abbrev pub pair_with : List Observed → Spot → Spot → Option Pair
pair_with observations spot earlier = pair_if observations (unsigned_abs (spot.height -ℤ earlier.height)) spot.name earlier.name

-- the pairs of a point with those before it
abbrev pub pairs_with : List Observed → List Spot → Spot → List Pair
pairs_with observations before spot = flat_map (λ earlier. option_to_list (pair_with observations spot earlier)) before

-- the pairs of points with those before them, of which some come before all of them
abbrev pub pairs_after : List Observed → List Spot → List Spot → List Pair
pairs_after observations before [] = []
pairs_after observations before (spot ∷ rest) = pairs_with observations before spot ++ pairs_after observations (before ++ spot ∷ []) rest

-- a point with its height
abbrev pub spot_at : (List ℕ → ℤ) → List ℕ → Spot
spot_at heights name = record { name = name; height = heights name }

-- the points of a survey with their heights
abbrev pub spots_of : Survey → (List ℕ → ℤ) → List Spot
spots_of survey heights = map (spot_at heights) (points_of survey)

-- the book and the line of the first observation that has a point as an end
abbrev pub first_place : List Observed → List ℕ → ℕ × ℕ
first_place [] name = (0, 0)
first_place (o ∷ rest) name = if has_end name o then (o.book, o.line) else first_place rest name

-- the note on a pair
abbrev pub twin_note : List Observed → Pair → Note
twin_note observations pair = Twin (first_place observations pair.name).0 (first_place observations pair.name).1 pair

-- the notes on pairs: on the first ones, and how many more there are
abbrev pub pair_notes : List Observed → List Pair → List Note
pair_notes observations pairs = map (twin_note observations) (take max_listed pairs) ++ rest_note Twins (counted pairs)

-- the notes on points that may be one, given a height of each
abbrev pub twin_notes : Survey → (List ℕ → ℤ) → List Note
twin_notes survey heights = pair_notes survey.observations (pairs_after survey.observations [] (spots_of survey heights))
