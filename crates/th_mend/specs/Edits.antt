-- The edits of a book: for each change the range of lines that it reaches. Places count lines from 0.
use Rattle.std.specs.Prelude.{ℕ, ◌+◌, ◌==◌, ◌&&◌, Bool, List, [], ◌∷◌, ◌++◌, Option, Some, None, Result, Ok, Err, if◌then◌else◌, length, nat_le, unwrap_or}
use Rattle.std.specs.List.{list_any}
use Rattle.gsi_word.specs.Indexes.{height_difference, point_number}
use Rattle.th_book.specs.Lines.{ParsedLine}
use Rattle.th_entries.specs.Entries.{index_of}
use Rattle.th_mend.specs.declared.changes.Change.{Change}
use Rattle.th_mend.specs.declared.changes.Reach.TheVariants.{Since, Whole}
use Rattle.th_mend.specs.declared.changes.What.{What}
use Rattle.th_mend.specs.declared.changes.What.TheVariants.{Height, LeftOut, OtherSign, Sighted, Station, Target}
use Rattle.th_mend.specs.Reached.{place_of, spot_below}
use Rattle.th_mend.specs.declared.edits.Edit.{Edit}
use Rattle.th_mend.specs.declared.faults.MendKind.{MendKind}
use Rattle.th_mend.specs.declared.faults.MendKind.TheVariants.{Clash, NoLine}
use Rattle.th_mend.specs.declared.faults.RowFault.{RowFault}
use Rattle.th_mend.specs.declared.spots.Spot.{Spot}

-- the index of the words that something changes
abbrev pub index_changed : What → ℕ
index_changed (Height kind reach length) = index_of kind
index_changed (Sighted length) = height_difference
index_changed LeftOut = height_difference
index_changed OtherSign = height_difference
index_changed (Target name) = point_number
index_changed (Station name) = point_number

-- the first place that something reaches: the line of its entry for a whole height, or else its own line
abbrev pub first_of : What → ℕ → ℕ → ℕ
first_of (Height kind Whole length) entry place = entry
first_of (Height kind Since length) entry place = place
first_of other entry place = place

-- the edit of a change without a fault
abbrev pub edit_with : ℕ → Change → Spot → Edit
edit_with row change spot = record {
  row = row;
  what = change.what;
  first = first_of change.what (unwrap_or spot.home (place_of change)) (place_of change);
  last = unwrap_or spot.last (place_of change);
}

abbrev pub edit_unless : Option MendKind → Edit → Result Edit MendKind
edit_unless (Some kind) edit = Err kind
edit_unless None edit = Ok edit

-- the edit of a change in record `row`, or its fault
abbrev pub edit_from : ℕ → Change → Option Spot → Result Edit MendKind
edit_from row change None = Err NoLine
edit_from row change (Some spot) = edit_unless spot.fault (edit_with row change spot)

abbrev pub edit_of : List ParsedLine → ℕ → Change → Result Edit MendKind
edit_of parsed row change = edit_from row change (spot_below change parsed (length parsed))

-- two edits change words of one index in one line
abbrev pub clash : Edit → Edit → Bool
clash edit other =
    (index_changed edit.what == index_changed other.what) && (nat_le edit.first other.last && nat_le other.first edit.last)

-- an edit, unless it clashes with an earlier one
abbrev pub unless_clash : List Edit → Result Edit MendKind → Result Edit MendKind
unless_clash earlier (Err kind) = Err kind
unless_clash earlier (Ok edit) = if list_any (clash edit) earlier then Err Clash else Ok edit

abbrev pub edit_then : ℕ → Result Edit MendKind → (Edit → Result (List Edit) RowFault) → Result (List Edit) RowFault
edit_then row (Err kind) later = Err (record { row = row; kind = kind })
edit_then row (Ok edit) later = later edit

-- the earlier edits and those of the changes from record `row` on, or the fault of the first that has one
abbrev pub edits_after : List ParsedLine → List Edit → ℕ → List Change → Result (List Edit) RowFault
edits_after parsed earlier row [] = Ok earlier
edits_after parsed earlier row (change ∷ later) =
    edit_then row (unless_clash earlier (edit_of parsed row change)) (λ edit. edits_after parsed (earlier ++ edit ∷ []) (row + 1) later)

-- the edits of a table of changes, of which the first is in record 2
abbrev pub edits_of : List ParsedLine → List Change → Result (List Edit) RowFault
edits_of parsed changes = edits_after parsed [] 2 changes

-- an edit reaches a place
abbrev pub covers : ℕ → Edit → Bool
covers place edit = nat_le edit.first place && nat_le place edit.last

-- some edit reaches a place
abbrev pub is_named : List Edit → ℕ → Bool
is_named edits place = list_any (covers place) edits
