-- The text for people.
use Rattle.std.specs.Prelude.{ℕ, List, ◌++◌, nat_lt}
use Rattle.th_columns.specs.Columns.{line_end}
use Rattle.th_explain_texts.specs.Columns.{cost_lines, count_lines, row_lines}
use Rattle.th_explain_texts.specs.Pasting.{pasted}
use Rattle.th_explain_texts.specs.Sentences.{sentences}
use Rattle.th_explain_texts.specs.declared.rows.Named.{Named}
use Rattle.th_explain_texts.specs.declared.rows.ReadingRow.{ReadingRow}
use Rattle.th_explain_texts.specs.declared.rows.Row.{Row}
use Rattle.th_explain_texts.specs.declared.rows.Summary.{Summary}

-- what was looked at in numbers, the rows, what they say, and the changes that mend the book
unfoldable pub explanation_text : Summary → List Row → List Named → List ReadingRow → List ℕ
explanation_text summary rows named readings =
    cost_lines summary ++ count_lines summary ++ row_lines rows ++ line_end ++ sentences summary rows named readings
    ++ pasted (nat_lt 1 summary.books) rows named
