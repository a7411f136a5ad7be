-- The notes of a review on a survey, on its tables and on its books.
use Rattle.std.specs.Prelude.{ℕ, ℤ, ◌-◌, ◌==◌, ◌++◌, Bool, List, Option, Some, None, if◌then◌else◌, map, option_map, sum, take}
use Rattle.std.specs.List.{enumerate_from, filter_map, flat_map}
use Rattle.th_observations.specs.Observed.{Observed}
use Rattle.th_tables.specs.Rows.{BenchmarkRows, WeightRows}
use Rattle.th_network.specs.Networks.{Survey, points_of}
use Rattle.th_entries.specs.declared.counts.BookCount.{BookCount}
use Rattle.th_entries.specs.Limits.{max_listed}
use Rattle.th_entries.specs.declared.listed.Listed.{Listed}
use Rattle.th_entries.specs.declared.reviews.BookReview.{BookReview}
use Rattle.th_entries.specs.declared.spellings.Spelling.{Spelling}
use Rattle.th_notes.specs.Books.{counts_of_books}
use Rattle.th_notes.specs.Limited.{limited, rest_note}
use Rattle.th_notes.specs.Names.{formula_notes}
use Rattle.th_notes.specs.Parts.{hanging_notes}
use Rattle.th_notes.specs.Twins.{twin_notes}
use Rattle.th_notes.specs.Points.{once_notes}
use Rattle.th_notes.specs.Seen.{was_observed, was_seen}
use Rattle.th_notes.specs.Repeats.{by_book, first_same, observations_in}
use Rattle.th_notes.specs.declared.notes.LineKind.{LineKind}
use Rattle.th_notes.specs.declared.notes.LineKind.TheVariants.{Lookalike, OtherHeight, Direction}
use Rattle.th_notes.specs.declared.notes.Kind.TheVariants.{Lines, Weights, Benchmarks, Spellings}
use Rattle.th_notes.specs.declared.notes.Note.{Note}
use Rattle.th_notes.specs.declared.notes.Note.TheVariants.{NoSight, SameObservations, Line, UnusedWeight, TurnedWeight, UnseenBenchmark, Respelled}

-- the notes on the books without a sight
abbrev pub sight_notes : List BookReview → List Note
sight_notes reviews = filter_map (λ review. option_map NoSight review.no_sight) reviews

-- the note on a numbered book with a sight, if it has the same observations as an earlier one
abbrev pub same_note : List Observed → ℕ × BookCount → Option Note
same_note observations (book, count) =
    if count.sights == 0 then None
    else option_map (λ earlier. SameObservations book earlier) (first_same (by_book observations (book - 1)) (observations_in observations book))

-- the notes on the books with the same observations as an earlier one
abbrev pub same_notes : List Observed → List BookCount → List Note
same_notes observations books = filter_map (same_note observations) (enumerate_from 1 books)

-- the lines of a book that are odd in a way
abbrev pub lines_of : LineKind → BookReview → Listed ℕ
lines_of Lookalike review = review.lookalikes
lines_of OtherHeight review = review.changes
lines_of Direction review = review.directions

-- the notes on lines of a numbered book, as many as its review lists
abbrev pub book_lines : LineKind → ℕ → Listed ℕ → List Note
book_lines kind book lines = map (λ line. Line kind book line) lines.first.items

-- how many lines of all books are odd in a way
abbrev pub count_of_lines : LineKind → List BookReview → ℕ
count_of_lines kind reviews = sum (map (λ review. (lines_of kind review).count) reviews)

-- the notes on the lines of all books that are odd in a way: the first ones, and how many more there are
abbrev pub line_notes : LineKind → List BookReview → List Note
line_notes kind reviews =
    take max_listed (flat_map (λ book. book_lines kind book.0 (lines_of kind book.1)) (enumerate_from 1 reviews))
    ++ rest_note (Lines kind) (count_of_lines kind reviews)

-- the note on a row of the weights, unless its pair was `observed`; it says if the pair was observed the other way round (`turned`)
abbrev pub pair_note : ℕ → List ℕ × List ℕ → Bool → Bool → Option Note
pair_note row (station, target) observed turned =
    if observed then None
    else (if turned then Some (TurnedWeight row station target)
    else Some (UnusedWeight row station target))

-- the note on a row of the weights, given the observations
abbrev pub weight_note : List Observed → ℕ × ((List ℕ × List ℕ) × ℕ) → Option Note
weight_note observations (row, (ends, weight)) = pair_note row ends (was_observed observations ends) (was_observed observations (ends.1, ends.0))

-- the notes on the table of weights, whose first row is record 2
abbrev pub weight_notes : List Observed → WeightRows → List Note
weight_notes observations weights = limited Weights (filter_map (weight_note observations) (enumerate_from 2 weights))

-- the note on a row of the benchmarks, unless it was `seen` in an observation
abbrev pub name_note : ℕ → List ℕ → Bool → Option Note
name_note row name seen = if seen then None else Some (UnseenBenchmark row name)

-- the note on a row of the benchmarks, given the observations
abbrev pub benchmark_note : List Observed → ℕ × (List ℕ × ℤ) → Option Note
benchmark_note observations (row, (name, height)) = name_note row name (was_seen observations name)

-- the notes on the table of benchmarks, whose first row is record 2
abbrev pub benchmark_notes : List Observed → BenchmarkRows → List Note
benchmark_notes observations benchmarks = limited Benchmarks (filter_map (benchmark_note observations) (enumerate_from 2 benchmarks))

-- the notes on names that are spelled in another way than before
abbrev pub spelling_notes : Listed Spelling → List Note
spelling_notes spellings =
    map (λ spelling. Respelled spelling.book spelling.line spelling.name) spellings.first.items ++ rest_note Spellings spellings.count

-- all notes of a review, given a height of each point: on the books, then on the weights, the benchmarks, the points and the names
abbrev pub notes_of : Survey → (List ℕ → ℤ) → List BookReview → Listed Spelling → List Note
notes_of survey heights reviews spellings =
    sight_notes reviews
    ++ same_notes survey.observations (counts_of_books reviews)
    ++ line_notes Lookalike reviews
    ++ line_notes OtherHeight reviews
    ++ line_notes Direction reviews
    ++ weight_notes survey.observations survey.weights
    ++ benchmark_notes survey.observations survey.benchmarks
    ++ hanging_notes survey
    ++ once_notes survey.observations survey.benchmarks
    ++ twin_notes survey heights
    ++ spelling_notes spellings
    ++ formula_notes (points_of survey)
