-- A row has one text, whether rows of other lengths are allowed or not.
use Rattle.std.proofs.Common.{◌≡◌, ◌==◌, ◌++◌, ℕ, Bool, true, false, if◌then◌else◌, List, [], ◌∷◌, length, refl, ap, ◌∙◌}
use Rattle.csv.specs.Writing.{default_writer, escaped, field_text, fields_text, is_blank, needs_quotes, row_text, with_flexible}
use Rattle.csv.specs.declared.writer.WriterBuilder.{WriterBuilder}

-- the settings that allow rows of any lengths
abbrev pub flexible_writer : WriterBuilder
flexible_writer = with_flexible default_writer true

escaped_same : (field : List ℕ) → escaped flexible_writer field ≡ escaped default_writer field
unfolding escaped
escaped_same [] = refl
escaped_same (byte ∷ rest) = by (byte == 34) (escaped_same rest)
  where
    by : (quote : Bool) → escaped flexible_writer rest ≡ escaped default_writer rest
        → (if quote then 34 ∷ byte ∷ escaped flexible_writer rest else byte ∷ escaped flexible_writer rest) ≡ (if quote then 34 ∷ byte ∷ escaped default_writer rest else byte ∷ escaped default_writer rest)
    by true more = ap (λ later. 34 ∷ byte ∷ later) more
    by false more = ap (λ later. byte ∷ later) more

field_same : (field : List ℕ) → field_text flexible_writer field ≡ field_text default_writer field
field_same field = ap (λ inside. if needs_quotes default_writer field then 34 ∷ (inside ++ (34 ∷ [])) else field) (escaped_same field)

fields_same : (fields : List (List ℕ)) → fields_text flexible_writer fields ≡ fields_text default_writer fields
unfolding fields_text
fields_same [] = refl
fields_same (field ∷ rest) = ap (λ first. 44 ∷ (first ++ fields_text flexible_writer rest)) (field_same field) ∙ ap (λ later. 44 ∷ (field_text default_writer field ++ later)) (fields_same rest)

blank_same : (fields : List (List ℕ)) → is_blank flexible_writer fields ≡ is_blank default_writer fields
unfolding is_blank
blank_same [] = refl
blank_same (field ∷ []) = ap (λ text. length text == 0) (field_same field)
blank_same (field ∷ next ∷ rest) = refl

pub row_same : (fields : List (List ℕ)) → row_text flexible_writer fields ≡ row_text default_writer fields
unfolding is_blank
row_same [] = refl
row_same (field ∷ rest) = rw (blank_same (field ∷ rest), field_same field, fields_same rest) refl
