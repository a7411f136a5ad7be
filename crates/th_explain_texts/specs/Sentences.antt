-- What the rows say, in sentences.
use Rattle.std.specs.Prelude.{ℕ, ℤ, ◌==◌, ◌&&◌, Bool, List, [], ◌∷◌, ◌++◌, Option, None, Some, codes, decimal, filter, find, fold, if◌then◌else◌, length, min, nat_le, nat_lt}
use Rattle.std.specs.List.{flat_map}
use Rattle.th_units.specs.Metres.{metres}
use Rattle.th_columns.specs.Columns.{line_end}
use Rattle.th_explain_texts.specs.Called.{capital, joined}
use Rattle.th_explain_texts.specs.Costs.{cost_metres}
use Rattle.th_explain_texts.specs.Fitting.{number_lines}
use Rattle.th_explain_texts.specs.Meant.{named_lines}
use Rattle.th_explain_texts.specs.Read.{each_reading}
use Rattle.th_explain_texts.specs.declared.rows.Named.{Named}
use Rattle.th_explain_texts.specs.declared.rows.ReadingRow.{ReadingRow}
use Rattle.th_explain_texts.specs.declared.rows.Row.{Row}
use Rattle.th_explain_texts.specs.declared.rows.Summary.{Summary}

-- the most rows
abbrev pub most_rows : ℕ
most_rows = 20

-- so many numbers are named in a sentence
abbrev pub most_named : ℕ
most_named = 3

abbrev pub are_few : List Row → Bool
are_few rows = nat_le (length rows) most_named

-- the rows that explain most
abbrev pub is_first : Row → Bool
is_first row = row.number == 1

abbrev pub firsts : List Row → List Row
firsts rows = filter is_first rows

-- those that explain all: they leave no blunder
abbrev pub leaves_none : Row → Bool
leaves_none row = row.blunders == 0

abbrev pub explaining : List Row → List Row
explaining rows = filter leaves_none (firsts rows)

-- how many numbers explain equally, given how many rows have number 1; there may be more of them if all rows have it
abbrev pub count_called : ℕ → ℕ → List ℕ
count_called ranked count = (if ranked == most_rows then codes "At least " else []) ++ decimal count

-- one, two or three numbers explain all
unfoldable pub few_line : Bool → List Row → List ℕ
few_line several rows = codes "One wrong number explains this: " ++ joined several rows ++ codes "." ++ line_end

-- more numbers do
unfoldable pub many_line : ℕ → ℕ → List ℕ
many_line ranked count = count_called ranked count ++ codes " numbers explain this equally well: any one of them may be wrong. The books do not say which. Measure one of them again." ++ line_end

-- the least number of blunders that a row leaves
abbrev pub fewer : ℕ → Row → ℕ
fewer count row = min count row.blunders

abbrev pub least_blunders : List Row → ℕ
least_blunders [] = 0
least_blunders (row ∷ rows) = fold fewer row.blunders rows

-- how many sights stay marked, whichever of the numbers that explain most is mended
abbrev pub stay_called : ℕ → List ℕ
stay_called count = if count == 1 then codes "1 sight stays marked" else (decimal count ++ codes " sights stay marked")

-- one, two or three numbers explain most, and none explains all
unfoldable pub most_line : Bool → List Row → List ℕ
most_line several rows = codes "No one number explains all of this. " ++ capital (joined several rows) ++ codes " explains most: " ++ stay_called (least_blunders rows) ++ codes "." ++ line_end

-- more numbers do
unfoldable pub many_most_line : List Row → List ℕ
many_most_line rows =
    codes "No one number explains all of this. " ++ count_called (length rows) (length rows) ++ codes " numbers explain most, equally well: " ++ stay_called (least_blunders rows)
    ++ codes ". The books do not say which. Measure one of them again." ++ line_end

-- which numbers explain all, given how many rows have number 1; or if none does, which explain most
abbrev pub first_line : Bool → List Row → List Row → List ℕ
first_line several firsts [] = if are_few firsts then most_line several firsts else many_most_line firsts
first_line several firsts (row ∷ rows) = if are_few (row ∷ rows) then few_line several (row ∷ rows) else many_line (length firsts) (length (row ∷ rows))

-- those that the first line speaks of
abbrev pub spoken_of : List Row → List Row → List Row
spoken_of firsts [] = firsts
spoken_of firsts (row ∷ rows) = row ∷ rows

-- that two or three numbers explain equally
unfoldable pub which_line : List Row → List ℕ
which_line rows = if nat_lt 1 (length rows) && are_few rows then codes "The books do not say which of them." ++ line_end else []

-- what was given and what fits, of each number that is named
unfoldable pub given_lines : Bool → List Row → List ℕ
given_lines several rows = if are_few rows then flat_map (number_lines several) rows else []

-- what fits if a name or a sign is read otherwise, where so few numbers explain most
unfoldable pub reading_lines : Bool → List Row → List Row → List ReadingRow → List ℕ
reading_lines several firsts rows readings = if are_few firsts then each_reading several rows readings else []

-- what the first row behind those leaves
abbrev pub is_second : Row → Bool
is_second row = row.number == 2

unfoldable pub leaves_line : Option Row → List ℕ
leaves_line None = []
leaves_line (Some row) = codes "The next best leaves " ++ cost_metres row.left ++ codes "." ++ line_end

-- what to do where no number explains all
unfoldable pub mend_line : List Row → List ℕ
mend_line [] = codes "Mend it and run again." ++ line_end
mend_line (row ∷ rows) = []

-- that nothing has to be explained, with the limit
unfoldable pub unmarked_line : ℤ → List ℕ
unmarked_line limit = codes "Nothing to explain: no number has to be wrong by more than " ++ metres limit ++ codes " m." ++ line_end

-- that there is no row
abbrev pub nothing_line : Summary → List ℕ
nothing_line summary =
    if summary.marked == 0 then unmarked_line summary.limit
    else (codes "No single number explains what is marked." ++ line_end)

-- the sentences on the rows that explain most, given those that explain all, the heights that may have been meant, and the readings that fit
unfoldable pub found_lines : Bool → List Row → List Row → List Row → List Named → List ReadingRow → List ℕ
found_lines several firsts explaining rows named readings =
    first_line several firsts explaining
    ++ which_line (spoken_of firsts explaining)
    ++ given_lines several (spoken_of firsts explaining)
    ++ reading_lines several firsts rows readings
    ++ named_lines several rows named
    ++ leaves_line (find is_second rows)
    ++ mend_line explaining

-- the sentences on all rows; the books are named if there are several
unfoldable pub sentences : Summary → List Row → List Named → List ReadingRow → List ℕ
sentences summary [] named readings = nothing_line summary
sentences summary (row ∷ rows) named readings = found_lines (nat_lt 1 summary.books) (firsts (row ∷ rows)) (explaining (row ∷ rows)) (row ∷ rows) named readings
