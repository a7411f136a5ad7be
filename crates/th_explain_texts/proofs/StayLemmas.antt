-- What the text begins with where marks stay.
use Rattle.std.proofs.Common.{◌≡◌, ◌≢◌, ℕ, Bool, true, false, if◌then◌else◌, ◌==◌, List, [], ◌∷◌, ◌++◌, All, append_assoc, codes, filter, find, nat_lt, refl, subst, sym, ap, ◌∙◌, arith}
use Rattle.std.proofs.lemmas.Bool.Decides.{nat_tests}
use Rattle.std.proofs.lemmas.List.Elements.{All-head, All-tail}
use Rattle.th_columns.specs.Columns.{line_end}
use Rattle.th_explain_texts.specs.Called.{capital, joined}
use Rattle.th_explain_texts.specs.Sentences.{are_few, count_called, first_line, firsts, found_lines, given_lines, is_second, least_blunders, leaves_line, leaves_none, many_most_line, mend_line, most_line, reading_lines, sentences, stay_called, which_line}
use Rattle.th_explain_texts.specs.Meant.{named_lines}
use Rattle.th_explain_texts.specs.declared.rows.Named.{Named}
use Rattle.th_explain_texts.specs.declared.rows.ReadingRow.{ReadingRow}
use Rattle.th_explain_texts.specs.declared.rows.Row.{Row}
use Rattle.th_explain_texts.specs.declared.rows.Summary.{Summary}

abbrev front : List ℕ
front = codes "No one number explains all of this. "

abbrev Begins : List ℕ → Type 0
Begins text = (rest : List ℕ) × (text ≡ front ++ rest)

-- a longer text begins with it too
longer : (text more : List ℕ) → Begins text → Begins (text ++ more)
longer text more (rest, same) = (rest ++ more, ap (λ (own : List ℕ). own ++ more) same ∙ append_assoc front rest more)

most_begins : (several : Bool) (rows : List Row) → Begins (most_line several rows)
unfolding most_line
most_begins several rows =
    longer _ line_end (longer _ (codes ".") (longer _ (stay_called (least_blunders rows)) (longer _ (codes " explains most: ") (capital (joined several rows), refl))))

many_begins : (rows : List Row) → Begins (many_most_line rows)
unfolding many_most_line
many_begins rows =
    longer _ line_end (longer _ (codes ". The books do not say which. Measure one of them again.") (longer _ (stay_called (least_blunders rows)) (longer _ (codes " numbers explain most, equally well: ") (count_called _ _, refl))))

first_begins : (several : Bool) (rows : List Row) → Begins (first_line several rows [])
first_begins several rows = by (are_few rows)
  where
    by : (b : Bool) → Begins (if b then most_line several rows else many_most_line rows)
    by true = most_begins several rows
    by false = many_begins rows

none_explains : (rows : List Row) → All (λ (own : Row). own.blunders ≢ 0) rows → filter leaves_none rows ≡ []
none_explains [] stay = refl
none_explains (row ∷ rows) stay = by (row.blunders == 0) refl (none_explains rows (All-tail (λ (own : Row). own.blunders ≢ 0) row rows stay))
  where
    by : (b : Bool) → (row.blunders == 0) ≡ b → filter leaves_none rows ≡ [] → (if b then row ∷ filter leaves_none rows else filter leaves_none rows) ≡ []
    by true e others = absurd (All-head (λ (own : Row). own.blunders ≢ 0) row rows stay (grind (arith, nat_tests, e)))
    by false e others = others

found_begins : (several : Bool) (firsts rows : List Row) (named : List Named) (readings : List ReadingRow) → Begins (found_lines several firsts [] rows named readings)
unfolding found_lines
found_begins several firsts rows named readings =
    longer _ (mend_line []) (longer _ (leaves_line (find is_second rows)) (longer _ (named_lines several rows named) (longer _ (reading_lines several firsts rows readings) (longer _ (given_lines several firsts) (longer _ (which_line firsts) (first_begins several firsts))))))

pub said : (summary : Summary) (row : Row) (rows : List Row) (named : List Named) (readings : List ReadingRow) → All (λ (own : Row). own.blunders ≢ 0) (firsts (row ∷ rows)) → Begins (sentences summary (row ∷ rows) named readings)
unfolding sentences
said summary row rows named readings stay =
    subst (λ (own : List Row). Begins (found_lines (nat_lt 1 summary.books) (firsts (row ∷ rows)) own (row ∷ rows) named readings)) (sym (none_explains (firsts (row ∷ rows)) stay))
    (found_begins (nat_lt 1 summary.books) (firsts (row ∷ rows)) (row ∷ rows) named readings)
