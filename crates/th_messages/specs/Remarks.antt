-- Remarks on a survey, as lines on standard error.
use Rattle.std.specs.Prelude.{ℕ, pos, ◌==◌, List, [], ◌++◌, Option, None, Some, codes, flat_map, if◌then◌else◌}
use Rattle.std.specs.Fmt.{decimal}
use Rattle.th_messages.specs.Notes.{many_heights_note}
use Rattle.th_remarks.specs.declared.cases.Alike.{Alike}
use Rattle.th_remarks.specs.declared.cases.PointAt.{PointAt}
use Rattle.th_remarks.specs.declared.heights.ManyHeights.{ManyHeights}
use Rattle.th_remarks.specs.declared.residuals.Marks.{Marks}
use Rattle.th_remarks.specs.declared.residuals.Outlier.{Outlier}
use Rattle.th_remarks.specs.declared.collected.Remarks.{Remarks}
use Rattle.th_remarks.specs.declared.repeats.Repeat.{Repeat}
use Rattle.th_units.specs.Metres.{metres}

-- a line of a book
abbrev pub place_text : ℕ → ℕ → List ℕ
place_text book line = codes "book " ++ (decimal book ++ (codes " line " ++ decimal line))

-- the line of a book of which many sights are in an earlier one
abbrev pub repeat_begin : Repeat → List ℕ
repeat_begin note = codes "note: book " ++ (decimal note.book ++ (codes ": " ++ decimal note.count))

abbrev pub repeat_end : Repeat → List ℕ
repeat_end note = codes " of " ++ (decimal note.sights ++ (codes " sights are in book " ++ (decimal note.earlier ++ codes " too\n")))

abbrev pub repeat_note : Repeat → List ℕ
repeat_note note = repeat_begin note ++ repeat_end note

-- the text after how many of how many sights are marked
abbrev pub marked_end : ℕ → ℕ → List ℕ
marked_end count sights =
    if sights == 1 then codes " sight is marked, up to "
    else (if count == 1 then codes " sights is marked, up to " else codes " sights are marked, up to ")

abbrev pub marked_begin : ℕ → ℕ → List ℕ
marked_begin count sights = codes "note: " ++ (decimal count ++ (codes " of " ++ (decimal sights ++ marked_end count sights)))

-- the line of marked sights
abbrev pub marks_note : Marks → List ℕ
marks_note note = marked_begin note.count note.sights ++ (metres (pos note.largest) ++ codes " m: explain names the number that may be wrong\n")

-- the line of a sight that is far beyond the others, and not marked
abbrev pub outlier_begin : Outlier → List ℕ
outlier_begin note = codes "note: a residual of " ++ (metres (pos note.size) ++ (codes " m (" ++ place_text note.book note.line))

abbrev pub outlier_end : Outlier → List ℕ
outlier_end note =
    codes ") is within the limit, and " ++ (decimal note.times ++ (codes " times the usual one: --blunder " ++ (decimal note.limit ++ codes " marks it\n")))

abbrev pub outlier_note : Outlier → List ℕ
outlier_note note = outlier_begin note ++ outlier_end note

-- a point, with its first line in the books if it has one
abbrev pub place_end : Option (ℕ × ℕ) → List ℕ
place_end None = []
place_end (Some (book, line)) = codes " (" ++ (place_text book line ++ codes ")")

abbrev pub point_text : PointAt → List ℕ
point_text point = point.name ++ place_end point.place

-- the line of two names that differ only in upper and lower case
abbrev pub alike_note : Alike → List ℕ
alike_note note = codes "note: " ++ (point_text note.first ++ (codes " and " ++ (point_text note.second ++ codes " differ only in upper and lower case\n")))

-- the line of a remark, if there is one
abbrev pub heights_line : Option ManyHeights → List ℕ
heights_line None = []
heights_line (Some note) = many_heights_note note

abbrev pub marks_line : Option Marks → List ℕ
marks_line None = []
marks_line (Some note) = marks_note note

abbrev pub outlier_line : Option Outlier → List ℕ
outlier_line None = []
outlier_line (Some note) = outlier_note note

-- the lines of remarks: on books, on heights, on residuals, and on names
abbrev pub remarks_lines : Remarks → List ℕ
remarks_lines remarks =
    flat_map repeat_note remarks.repeats.items
    ++ (heights_line remarks.heights ++ (marks_line remarks.marks ++ (outlier_line remarks.outlier ++ flat_map alike_note remarks.alike.items)))
