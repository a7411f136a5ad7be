-- Lines of a label and its value.
use Rattle.std.specs.Prelude.{ℕ, ℤ, List, ◌++◌, codes}
use Rattle.th_units.specs.Metres.{metres}
use Rattle.th_columns.specs.Columns.{left_in, line_end, right_in}

-- a line with a label and its value
unfoldable pub label_line : List ℕ → List ℕ → List ℕ
label_line label value = left_in 14 label ++ right_in 26 value ++ line_end

-- the limit of blunders, in metres
abbrev pub limit_line : ℤ → List ℕ
limit_line limit = label_line (codes "blunder limit") (metres limit)
