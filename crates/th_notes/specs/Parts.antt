-- The parts of a network: points that observations join, in any number of steps.
use Rattle.std.specs.Prelude.{ℕ, ◌==◌, ◌&&◌, Bool, List, [], ◌∷◌, Option, Some, None, if◌then◌else◌, fold, is_some, length, map, option_to_list, slice_index}
use Rattle.std.specs.List.{filter, flat_map, range_with_len, zip}
use Rattle.gsi_word.specs.Names.{same_name}
use Rattle.th_network.specs.Networks.{Survey, points_of}
use Rattle.th_points.specs.Ends.{ends_of}
use Rattle.th_tables.specs.Rows.{height_of}
use Rattle.th_notes.specs.Limited.{limited}
use Rattle.th_notes.specs.Seen.{was_seen}
use Rattle.th_notes.specs.declared.notes.Kind.TheVariants.{Hanging}
use Rattle.th_notes.specs.declared.notes.Note.{Note}
use Rattle.th_notes.specs.declared.notes.Note.TheVariants.{OneBenchmark, TwoBenchmarks}
use Rattle.th_notes.specs.declared.parts.Mark.{Mark}

-- the numbers of parts, where one number is changed to another
abbrev pub renamed : ℕ → ℕ → List ℕ → List ℕ
renamed from to parts = map (λ part. if part == from then to else part) parts

-- the numbers of the parts of places, after an observation that ends at two of them: the part of its target joins that of its station
abbrev pub joined : List ℕ → ℕ × ℕ → List ℕ
joined parts ends = renamed (slice_index parts ends.1) (slice_index parts ends.0) parts

-- the numbers of the parts of so many places, under observations that end at these: without any, each place is a part of its own
abbrev pub parts_of : ℕ → List (ℕ × ℕ) → List ℕ
parts_of count ends = fold joined (range_with_len 0 count) ends

-- the mark of a point with its part, if it has one
abbrev pub mark_if : Bool → List ℕ → ℕ → List Mark
mark_if marked name part = if marked then record { name = name; part = part } ∷ [] else []

-- a point has a mark if it is a benchmark that was observed
abbrev pub mark_of : Survey → List ℕ × ℕ → List Mark
mark_of survey point = mark_if (is_some (height_of survey.benchmarks point.0) && was_seen survey.observations point.0) point.0 point.1

-- the benchmarks that were observed, in the order of points
abbrev pub marks_of : Survey → List Mark
marks_of survey = flat_map (mark_of survey) (zip (points_of survey) (parts_of (length (points_of survey)) (ends_of survey.observations survey.benchmarks)))

-- the benchmarks of a part
abbrev pub together : ℕ → List Mark → List Mark
together part marks = filter (λ mark. mark.part == part) marks

-- the note on a benchmark, given all benchmarks of its part: it is the only one there, or the first of two
abbrev pub hanging_note : List ℕ → List Mark → Option Note
hanging_note name [] = None
hanging_note name (one ∷ []) = Some (OneBenchmark one.name)
hanging_note name (one ∷ other ∷ []) = if same_name one.name name then Some (TwoBenchmarks one.name other.name) else None
hanging_note name (one ∷ other ∷ third ∷ rest) = None

-- the notes on parts that hang on one benchmark or on two, given all benchmarks that were observed
abbrev pub notes_among : List Mark → List Note
notes_among marks = limited Hanging (flat_map (λ mark. option_to_list (hanging_note mark.name (together mark.part marks))) marks)

-- the notes on the parts of a survey that hang on one benchmark or on two
abbrev pub hanging_notes : Survey → List Note
hanging_notes survey = notes_among (marks_of survey)
