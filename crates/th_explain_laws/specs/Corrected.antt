-- The observations of a book with just these numbers and names changed. Places count lines from 0.
use Rattle.std.specs.Prelude.{ℕ, ℤ, ◌+◌, ◌+ℤ◌, ◌-ℤ◌, ◌==◌, ◌&&◌, neg_ℤ, not, Bool, true, false, List, Option, Some, None, filter, find, length, map, option_and_then}
use Rattle.std.specs.List.{range_with_len}
use Rattle.gsi_word.specs.Indexes.{height_difference, instrument_height, point_number, reflector_height}
use Rattle.th_observations.specs.Observed.{Observed}
use Rattle.th_book.specs.Books.{known, known_name}
use Rattle.th_book.specs.Lines.{ParsedLine, is_sight, length_in, point_name}
use Rattle.th_book.specs.Places.{height_at, setup_of, station_at, words_at}
use Rattle.th_mend.specs.declared.changes.What.{What}
use Rattle.th_mend.specs.declared.changes.What.TheVariants.{Height, LeftOut, OtherSign, Sighted, Station, Target}
use Rattle.th_mend.specs.Edits.{covers, index_changed}
use Rattle.th_mend.specs.declared.edits.Edit.{Edit}

-- the edit of an index that reaches a place, if there is one; no two edits clash, so there is at most one
abbrev pub edit_on : List Edit → ℕ → ℕ → Option Edit
edit_on edits index place = find (λ edit. covers place edit && (index_changed edit.what == index)) edits

-- what a length becomes
abbrev pub edited : What → ℤ → ℤ
edited (Height kind reach own) before = own
edited (Sighted own) before = own
edited OtherSign before = neg_ℤ before
edited LeftOut before = before
edited (Target name) before = before
edited (Station name) before = before

abbrev pub edited_by : Option Edit → ℤ → ℤ
edited_by None before = before
edited_by (Some edit) before = edited edit.what before

-- what a name becomes
abbrev pub renamed : What → List ℕ → List ℕ
renamed (Target name) before = name
renamed (Station name) before = name
renamed (Height kind reach own) before = before
renamed (Sighted own) before = before
renamed OtherSign before = before
renamed LeftOut before = before

abbrev pub renamed_by : Option Edit → List ℕ → List ℕ
renamed_by None before = before
renamed_by (Some edit) before = renamed edit.what before

-- the edit of the name of a sight's station, in the line of its setup
abbrev pub station_edit : List Edit → List ParsedLine → ℕ → Option Edit
station_edit edits parsed place = option_and_then (edit_on edits point_number) (setup_of parsed place)

-- a height that a sight uses
abbrev pub corrected_height : List Edit → ℕ → List ParsedLine → ℕ → ℤ
corrected_height edits index parsed place = edited_by (edit_on edits index place) (known (height_at index parsed place))

-- the height difference of its words 33 and 88 and 87
abbrev pub corrected_difference : List Edit → List ParsedLine → ℕ → ℤ
corrected_difference edits parsed place =
    edited_by (edit_on edits height_difference place) (known (length_in height_difference (words_at parsed place)))
    +ℤ corrected_height edits instrument_height parsed place
    -ℤ corrected_height edits reflector_height parsed place

-- the observation of the sight at a place, with these numbers and names changed
abbrev pub corrected_at : List Edit → ℕ → List ParsedLine → ℕ → Observed
corrected_at edits book parsed place = record {
  station = renamed_by (station_edit edits parsed place) (known_name (station_at parsed place));
  target = renamed_by (edit_on edits point_number place) (known_name (point_name (words_at parsed place)));
  difference = corrected_difference edits parsed place;
  book = book;
  line = place + 1;
}

abbrev pub leaves_out : What → Bool
leaves_out LeftOut = true
leaves_out (Height kind reach own) = false
leaves_out (Sighted own) = false
leaves_out OtherSign = false
leaves_out (Target name) = false
leaves_out (Station name) = false

abbrev pub is_left_out : Option Edit → Bool
is_left_out None = false
is_left_out (Some edit) = leaves_out edit.what

-- a sight that is not left out
abbrev pub stays : List Edit → List ParsedLine → ℕ → Bool
stays edits parsed place = is_sight (words_at parsed place) && not (is_left_out (edit_on edits height_difference place))

-- the observations of a book's lines with these numbers and names changed, in the order of their sights
abbrev pub corrected : List Edit → ℕ → List ParsedLine → List Observed
corrected edits book parsed = map (corrected_at edits book parsed) (filter (stays edits parsed) (range_with_len 0 (length parsed)))
