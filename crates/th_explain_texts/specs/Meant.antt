-- The heights that may have been meant, in sentences.
use Rattle.std.specs.Prelude.{ℕ, Bool, List, [], ◌++◌, codes, if◌then◌else◌, length, nat_le, slice_get}
use Rattle.std.specs.List.{flat_map}
use Rattle.std.specs.Option.{option_map_or}
use Rattle.th_units.specs.Metres.{metres}
use Rattle.th_columns.specs.Columns.{line_end}
use Rattle.th_entries.specs.declared.entries.HeightKind.{HeightKind}
use Rattle.th_entries.specs.declared.entries.HeightKind.TheVariants as height
use Rattle.th_explain_texts.specs.Called.{called, capital, line_name}
use Rattle.th_explain_texts.specs.Words.{is_sight}
use Rattle.th_explain_texts.specs.declared.rows.Named.{Named}
use Rattle.th_explain_texts.specs.declared.rows.Row.{Row}

-- a height of a sight
abbrev pub sight_height : HeightKind → List ℕ
sight_height height.Reflector = codes "the pole of "
sight_height height.Instrument = codes "the instrument height of "

-- what a sentence calls a height of a row: the number itself, or a height of the sight
abbrev pub height_called : Bool → HeightKind → Row → List ℕ
height_called several own row = if is_sight row.kind then sight_height own ++ line_name several row else called several row.kind row

-- a height that was keyed in, and the one that may have been meant
unfoldable pub named_line : Bool → Named → Row → List ℕ
named_line several named row =
    capital (height_called several named.height row) ++ codes ": typed " ++ metres named.typed ++ codes ", meant " ++ metres named.meant ++ codes "?" ++ line_end

abbrev pub line_in : Bool → List Row → Named → List ℕ
line_in several rows named = option_map_or (λ row. named_line several named row) (slice_get rows named.row) []

-- so many heights are named in sentences; of more none is
abbrev pub most_meant : ℕ
most_meant = 3

unfoldable pub named_lines : Bool → List Row → List Named → List ℕ
named_lines several rows named = if nat_le (length named) most_meant then flat_map (line_in several rows) named else []
