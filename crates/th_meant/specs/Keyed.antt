-- The heights of rows that somebody keyed in, and what fits in their place.
use Rattle.std.specs.Prelude.{ℕ, ◌*◌, ◌/◌, ◌==◌, ◌&&◌, ◌||◌, ℤ, pos, ◌+ℤ◌, ◌-ℤ◌, not, Bool, false, List, [], ◌∷◌, Option, None, Some, find, if◌then◌else◌, int_lt, nat_le, unsigned_abs}
use Rattle.std.specs.List.{enumerate_from, flat_map}
use Rattle.th_observations.specs.Observed.{largest_difference}
use Rattle.th_entries.specs.declared.entries.Entry.{Entry}
use Rattle.th_entries.specs.declared.entries.HeightKind.{HeightKind}
use Rattle.th_entries.specs.declared.entries.HeightKind.TheVariants as height
use Rattle.th_explain_texts.specs.Words.{is_pole, is_sight}
use Rattle.th_explain_texts.specs.Sentences.{is_first}
use Rattle.th_explain_texts.specs.declared.rows.Kind.{Kind}
use Rattle.th_explain_texts.specs.declared.rows.Kind.TheVariants.{Instrument, Reflector, InstrumentSince, ReflectorSince, Sight, Benchmark, Book}
use Rattle.th_explain_texts.specs.declared.rows.Row.{Row}
use Rattle.th_explain_texts.specs.declared.rows.Values.{Values}
use Rattle.th_meant.specs.declared.proposed.Proposed.{Proposed}
use Rattle.th_numbers.specs.Lists.{is_kind}
use Rattle.th_meant.specs.declared.keyed.Keyed.{Keyed}

-- the heights that a row of a kind doubts: its own; or those of a sight, the pole first
abbrev pub heights_of : Kind → List HeightKind
heights_of Instrument = height.Instrument ∷ []
heights_of Reflector = height.Reflector ∷ []
heights_of InstrumentSince = height.Instrument ∷ []
heights_of ReflectorSince = height.Reflector ∷ []
heights_of Sight = height.Reflector ∷ height.Instrument ∷ []
heights_of Benchmark = []
heights_of Book = []

-- an entry is in force in a line of a book: the line is from its own to that of its last sight
abbrev pub is_in_force : Option ℕ → Option ℕ → Entry → Bool
is_in_force (Some book) (Some line) entry = entry.book == book && (nat_le entry.line line && nat_le line entry.last)
is_in_force (Some book) None entry = false
is_in_force None line entry = false

-- the entry of a kind that is in force in the line of a row
abbrev pub is_of_row : HeightKind → Row → Entry → Bool
is_of_row own row entry = is_kind entry.kind own && is_in_force row.book row.line entry

abbrev pub entry_of : List Entry → Row → HeightKind → Option Entry
entry_of entries row own = find (is_of_row own row) entries

-- the number has all sights that use an entry
abbrev pub has_all : Row → Entry → Bool
has_all row entry = row.sights == entry.sights

-- A row doubts an entry: but not the height of an instrument that other sights use too, if the row is a sight.
abbrev pub doubts : Row → Entry → Bool
doubts row entry = not (is_sight row.kind) || (is_pole entry.kind || has_all row entry)

-- What fits in place of the height of an entry, given the values of its row. Those of a sight are differences: a longer pole lowers them, a
-- higher instrument raises them.
abbrev pub moved : ℤ → ℤ → ℤ → ℤ
moved length to from = length +ℤ to -ℤ from

abbrev pub fitting_pole : ℤ → Values → ℕ → Proposed
fitting_pole length values tolerance =
    record { low = moved length values.given values.high; high = moved length values.given values.low; tolerance = tolerance }

abbrev pub fitting_instrument : ℤ → Values → ℕ → Proposed
fitting_instrument length values tolerance =
    record { low = moved length values.low values.given; high = moved length values.high values.given; tolerance = tolerance }

abbrev pub fitting : Bool → Bool → ℤ → Values → ℕ → Proposed
fitting of_sight of_pole length values tolerance =
    if of_sight then (if of_pole then fitting_pole length values tolerance else fitting_instrument length values tolerance)
    else record { low = values.low; high = values.high; tolerance = tolerance }

-- a tenth of a limit of blunders, 0 where that is below
abbrev pub tolerance_of : ℤ → ℕ
tolerance_of limit = if int_lt limit (pos 0) then 0 else unsigned_abs limit / 10

-- No value of a row is larger than this: a given one and a change that is proposed are each at most the largest difference.
abbrev pub largest_value : ℕ
largest_value = 2 * largest_difference

abbrev pub are_values : Values → Bool
are_values values = nat_le (unsigned_abs values.given) largest_value && (nat_le (unsigned_abs values.low) largest_value && nat_le (unsigned_abs values.high) largest_value)

-- the height of an entry, at the place of its row
abbrev pub keyed_with : ℕ → Row → ℕ → Entry → Values → Keyed
keyed_with tolerance row place entry values =
    record { row = place; entry = entry; whole = has_all row entry; proposed = fitting (is_sight row.kind) (is_pole entry.kind) entry.length values tolerance }

abbrev pub keyed_if : ℕ → Row → ℕ → Option Entry → Option Values → List Keyed
keyed_if tolerance row place (Some entry) (Some values) = if doubts row entry && are_values values then keyed_with tolerance row place entry values ∷ [] else []
keyed_if tolerance row place (Some entry) None = []
keyed_if tolerance row place None values = []

abbrev pub keyed_as : List Entry → ℕ → ℕ × Row → HeightKind → List Keyed
keyed_as entries tolerance (place, row) own = keyed_if tolerance row place (entry_of entries row own) row.values

-- the heights that a row doubts, if it has number 1
abbrev pub keyed_at : List Entry → ℕ → ℕ × Row → List Keyed
keyed_at entries tolerance (place, row) = if is_first row then flat_map (keyed_as entries tolerance (place, row)) (heights_of row.kind) else []

-- the heights that some rows doubt
abbrev pub keyed_in : List Entry → ℕ → List Row → List Keyed
keyed_in entries tolerance rows = flat_map (keyed_at entries tolerance) (enumerate_from 0 rows)
