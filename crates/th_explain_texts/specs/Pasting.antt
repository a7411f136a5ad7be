-- The changes that mend a book, as a table to be pasted, where just one height is named.
use Rattle.std.specs.Prelude.{ℕ, ◌&&◌, not, Bool, List, [], ◌∷◌, ◌++◌, codes, if◌then◌else◌, slice_get}
use Rattle.std.specs.Option.{option_map_or}
use Rattle.th_units.specs.Metres.{metres}
use Rattle.th_columns.specs.Columns.{line_end}
use Rattle.th_entries.specs.declared.entries.HeightKind.{HeightKind}
use Rattle.th_entries.specs.declared.entries.HeightKind.TheVariants as height
use Rattle.th_explain_texts.specs.Tables.{number_field}
use Rattle.th_explain_texts.specs.Words.{is_sight}
use Rattle.th_explain_texts.specs.declared.rows.Kind.{Kind}
use Rattle.th_explain_texts.specs.declared.rows.Kind.TheVariants.{Instrument, Reflector, InstrumentSince, ReflectorSince, Sight, Benchmark, Book}
use Rattle.th_explain_texts.specs.declared.rows.Named.{Named}
use Rattle.th_explain_texts.specs.declared.rows.Row.{Row}

-- what a table of changes calls a height of a sight
abbrev pub sight_word : HeightKind → List ℕ
sight_word height.Reflector = codes "87"
sight_word height.Instrument = codes "88"

-- what it calls a height of a row
abbrev pub changed_word : HeightKind → Kind → List ℕ
changed_word own Instrument = codes "88"
changed_word own Reflector = codes "87"
changed_word own InstrumentSince = codes "88 since"
changed_word own ReflectorSince = codes "87 since"
changed_word own Sight = sight_word own
changed_word own Benchmark = []
changed_word own Book = []

-- A height that other sights use too cannot be changed for one sight: that sight is left out.
abbrev pub leaves_out : Named → Row → Bool
leaves_out named row = is_sight row.kind && not named.whole

-- the book that is mended is named if there are several
unfoldable pub of_book : Bool → Row → List ℕ
of_book several row = if several then codes " of book " ++ number_field row.book else []

-- what becomes of the height
unfoldable pub purpose : Named → Row → List ℕ
purpose named row =
    if leaves_out named row then codes "To leave the sight out"
    else (codes "If " ++ metres named.meant ++ codes " was meant")

-- the word and the value of the change
unfoldable pub word_and_value : Named → Row → List ℕ
word_and_value named row =
    if leaves_out named row then codes ",33,"
    else (codes "," ++ changed_word named.height row.kind ++ codes "," ++ metres named.meant)

-- an empty line, and what the table is for
unfoldable pub purpose_line : Bool → Named → Row → List ℕ
purpose_line several named row =
    line_end ++ purpose named row ++ codes ", height_office mend takes these changes" ++ of_book several row ++ codes ":\n"

-- the header and the record
unfoldable pub change_record : Named → Row → List ℕ
change_record named row = codes "line,word,value\n" ++ number_field row.line ++ word_and_value named row ++ line_end

-- the table, behind what it is for
abbrev pub change_table : Bool → Named → Row → List ℕ
change_table several named row = purpose_line several named row ++ change_record named row

abbrev pub table_of : Bool → List Row → Named → List ℕ
table_of several rows named = option_map_or (λ row. change_table several named row) (slice_get rows named.row) []

abbrev pub pasted : Bool → List Row → List Named → List ℕ
pasted several rows [] = []
pasted several rows (named ∷ []) = table_of several rows named
pasted several rows (named ∷ other ∷ others) = []
