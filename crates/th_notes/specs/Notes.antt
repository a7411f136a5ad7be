-- The texts of a review's notes.
use Rattle.std.specs.Prelude.{ℕ, pos, List, ◌++◌, codes, decimal, length}
use Rattle.std.specs.List.{flat_map}
use Rattle.th_units.specs.Metres.{metres}
use Rattle.th_columns.specs.Columns.{line_end}
use Rattle.th_columns.specs.Labels.{label_line}
use Rattle.th_entries.specs.Sights.{no_sight_text}
use Rattle.th_notes.specs.declared.notes.LineKind.{LineKind}
use Rattle.th_notes.specs.declared.notes.LineKind.TheVariants.{Lookalike, OtherHeight, Direction}
use Rattle.th_notes.specs.declared.notes.Kind.{Kind}
use Rattle.th_notes.specs.declared.notes.Kind.TheVariants.{Lines, Weights, Benchmarks, Hanging, Once, Twins, Spellings, Formulas}
use Rattle.th_notes.specs.declared.notes.Pair.{Pair}
use Rattle.th_notes.specs.declared.notes.Note.{Note}
use Rattle.th_notes.specs.declared.notes.Note.TheVariants.{NoSight, SameObservations, Line, UnusedWeight, TurnedWeight, UnseenBenchmark, OneBenchmark, TwoBenchmarks, SightedOnce, Twin, Respelled, Formula, More}

-- a line of a book
unfoldable pub book_place : ℕ → ℕ → List ℕ
book_place book line = codes "book " ++ decimal book ++ codes " line " ++ decimal line

-- a name at a line of a book
unfoldable pub name_place : ℕ → ℕ → List ℕ → List ℕ
name_place book line name = book_place book line ++ codes ": " ++ name

-- the beginning of a note on a row of the weights, and on a row of the benchmarks
unfoldable pub in_weights : List ℕ
in_weights = codes "weights record "

unfoldable pub in_benchmarks : List ℕ
in_benchmarks = codes "benchmarks record "

-- a row of the table of weights, with its pair
unfoldable pub pair_text : ℕ → List ℕ → List ℕ → List ℕ
pair_text row station target = in_weights ++ decimal row ++ codes ": " ++ station ++ codes " to " ++ target

-- a row of the table of benchmarks, with its name
unfoldable pub benchmark_text : ℕ → List ℕ → List ℕ
benchmark_text row name = in_benchmarks ++ decimal row ++ codes ": " ++ name

-- a book with the observations of an earlier one
unfoldable pub same_text : ℕ → ℕ → List ℕ
same_text book earlier = codes "book " ++ decimal book ++ codes ": same observations as book " ++ decimal earlier

-- what is odd in a line: it looks like a setup, and is none; it enters another instrument height; it is a direction alone
abbrev pub odd_text : LineKind → List ℕ
odd_text Lookalike = codes ": looks like a setup, but has no word 84, 85 or 86"
odd_text OtherHeight = codes ": another instrument height than its setup"
odd_text Direction = codes ": words 31 and 33 are both zero"

-- an odd line of a book
unfoldable pub line_text : LineKind → ℕ → ℕ → List ℕ
line_text kind book line = book_place book line ++ odd_text kind

-- a row of the table of weights whose pair was never observed
unfoldable pub unused_text : ℕ → List ℕ → List ℕ → List ℕ
unused_text row station target = pair_text row station target ++ codes " was never observed"

-- a row of the table of weights whose pair was only observed the other way round
unfoldable pub turned_text : ℕ → List ℕ → List ℕ → List ℕ
turned_text row station target = unused_text row station target ++ codes ", but " ++ target ++ codes " to " ++ station ++ codes " was"

-- a benchmark that was never observed
unfoldable pub unseen_text : ℕ → List ℕ → List ℕ
unseen_text row name = benchmark_text row name ++ codes " was never observed"

-- either of two benchmarks may be wrong
unfoldable pub doubt_text : List ℕ
doubt_text = codes ": nothing says which is wrong"

-- a part of the network hangs on a benchmark, on it alone, or on two
unfoldable pub hanging_text : List ℕ → List ℕ
hanging_text name = codes "a part of the network hangs on " ++ name

unfoldable pub one_text : List ℕ → List ℕ
one_text name = hanging_text name ++ codes " alone: nothing checks its height"

unfoldable pub second_text : List ℕ → List ℕ
second_text other = codes " and " ++ other ++ doubt_text

unfoldable pub two_text : List ℕ → List ℕ → List ℕ
two_text name other = hanging_text name ++ second_text other

-- a point that is no benchmark and has one observation
unfoldable pub once_text : ℕ → ℕ → List ℕ → List ℕ
once_text book line name = name ++ codes " is sighted once (" ++ book_place book line ++ codes ")"

-- another point is near
unfoldable pub within_text : List ℕ
within_text = codes ") is within "

-- how near another point is
unfoldable pub near_text : ℕ → List ℕ
near_text apart = within_text ++ metres (pos apart) ++ codes " m of "

-- a point that may be another one
unfoldable pub twin_text : ℕ → ℕ → Pair → List ℕ
twin_text book line pair = pair.name ++ codes " (" ++ book_place book line ++ near_text pair.apart ++ pair.other

-- a name that is spelled in another way than before
unfoldable pub respelled_text : ℕ → ℕ → List ℕ → List ℕ
respelled_text book line name = name_place book line name ++ codes " is spelled in another way than before"

-- a name that reads as a formula
unfoldable pub formula_text : List ℕ → List ℕ
formula_text name = name ++ codes " reads as a formula in a spreadsheet"

-- what the notes of a kind are on
abbrev pub kind_text : Kind → List ℕ
kind_text (Lines Lookalike) = codes "lines that look like setups"
kind_text (Lines OtherHeight) = codes "sights with another instrument height"
kind_text (Lines Direction) = codes "sights whose words 31 and 33 are both zero"
kind_text Weights = codes "weights records never observed"
kind_text Benchmarks = codes "benchmarks records never observed"
kind_text Hanging = codes "parts with one or two benchmarks"
kind_text Once = codes "points sighted once"
kind_text Twins = codes "points that may be others"
kind_text Spellings = codes "names spelled in another way than before"
kind_text Formulas = codes "names that read as formulas"

-- how many more notes of a kind there are
unfoldable pub more_text : Kind → ℕ → List ℕ
more_text kind count = codes "and " ++ decimal count ++ codes " more: " ++ kind_text kind

-- the text of a note
abbrev pub note_text : Note → List ℕ
note_text (NoSight note) = no_sight_text note
note_text (SameObservations book earlier) = same_text book earlier
note_text (Line kind book line) = line_text kind book line
note_text (UnusedWeight row station target) = unused_text row station target
note_text (TurnedWeight row station target) = turned_text row station target
note_text (UnseenBenchmark row name) = unseen_text row name
note_text (OneBenchmark name) = one_text name
note_text (TwoBenchmarks name other) = two_text name other
note_text (SightedOnce book line name) = once_text book line name
note_text (Twin book line pair) = twin_text book line pair
note_text (Respelled book line name) = respelled_text book line name
note_text (Formula name) = formula_text name
note_text (More kind count) = more_text kind count

-- the line of a note
unfoldable pub note_line : Note → List ℕ
note_line note = note_text note ++ line_end

-- the number of notes, and then their lines
unfoldable pub note_lines : List Note → List ℕ
note_lines notes = label_line (codes "notes") (decimal (length notes)) ++ flat_map note_line notes
