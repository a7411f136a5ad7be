-- What sentences call numbers.
use Rattle.std.specs.Prelude.{ℕ, Bool, false, List, [], ◌∷◌, ◌++◌, Option, None, Some, codes, if◌then◌else◌, nat_lt}
use Rattle.std.specs.Char.{to_ascii_uppercase}
use Rattle.std.specs.List.{flat_map}
use Rattle.th_explain_texts.specs.Tables.{name_field, number_field}
use Rattle.th_explain_texts.specs.declared.rows.Kind.{Kind}
use Rattle.th_explain_texts.specs.declared.rows.Kind.TheVariants.{Instrument, Reflector, InstrumentSince, ReflectorSince, Sight, Benchmark, Book}
use Rattle.th_explain_texts.specs.declared.rows.Row.{Row}

-- a line is before another one, where there are both
abbrev pub is_before : Option ℕ → Option ℕ → Bool
is_before (Some line) (Some last) = nat_lt line last
is_before (Some line) None = false
is_before None last = false

-- the line of a row, or the lines of a height that later ones repeat
abbrev pub lines_called : Row → List ℕ
lines_called row =
    if is_before row.line row.last then codes "lines " ++ number_field row.line ++ codes " to " ++ number_field row.last
    else (codes "line " ++ number_field row.line)

-- the lines in a book; the book is named if there are several
abbrev pub line_name : Bool → Row → List ℕ
line_name several row = lines_called row ++ (if several then codes " of book " ++ number_field row.book else [])

-- what a sentence calls a number
abbrev pub called : Bool → Kind → Row → List ℕ
called several Instrument row = codes "word 88 of " ++ line_name several row
called several Reflector row = codes "word 87 of " ++ line_name several row
called several InstrumentSince row = codes "word 88 since " ++ line_name several row
called several ReflectorSince row = codes "word 87 since " ++ line_name several row
called several Sight row = codes "the sight of " ++ line_name several row
called several Benchmark row = codes "the height of " ++ name_field row.from
called several Book row = codes "word 33 of book " ++ number_field row.book

-- what a sentence calls several numbers
abbrev pub or_called : Bool → Row → List ℕ
or_called several row = codes " or " ++ called several row.kind row

unfoldable pub joined : Bool → List Row → List ℕ
joined several [] = []
joined several (row ∷ rows) = called several row.kind row ++ flat_map (or_called several) rows

-- a text with a capital letter, if it begins with a letter
abbrev pub capital : List ℕ → List ℕ
capital [] = []
capital (c ∷ text) = to_ascii_uppercase c ∷ text
