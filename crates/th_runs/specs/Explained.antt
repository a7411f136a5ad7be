-- What an explanation prints.
use Rattle.std.specs.Prelude.{◌≡◌, ℕ, ℤ, false, List, [], ◌∷◌, Option}
use Rattle.th_entries.specs.declared.reviews.BookReview.{BookReview}
use Rattle.th_explain_texts.specs.Tables.{table_text}
use Rattle.th_explain_texts.specs.Texts.{explanation_text}
use Rattle.th_network.specs.Networks.{Survey}
use Rattle.th_explain_rows.specs.Explanations.{AreExplained}
use Rattle.th_explain_rows.specs.declared.findings.Explanations.{Explanations}
use Rattle.th_run_parts.specs.Reads.{Run}
use Rattle.th_runs.specs.Reviewed.{AreReviewsOfBooks}
use Rattle.th_run_parts.specs.Writes.{Texts}
use Rattle.th_runs.specs.declared.explaining.Form.{Form}
use Rattle.th_runs.specs.declared.explaining.Form.TheVariants as form
use Rattle.th_run_parts.specs.declared.outputs.Output.TheVariants as output

-- an explanation, and what it writes
abbrev pub explaining : Run
explaining = record { has_certificate = false; outputs = output.Explanations ∷ [] }

-- the text of explanations in a form
abbrev pub text_in : Form → Explanations → List ℕ
text_in form.Text own = explanation_text own.summary own.rows.items own.named.items own.readings.items
text_in form.Table own = table_text own.rows.items own.named.items own.readings.items

-- the text that is printed of a survey whose books have these reviews
abbrev pub ArePrintedOf : List BookReview → ℤ → Form → Survey → Texts → Type 0
ArePrintedOf reviews limit wanted survey texts =
    (own : Explanations) × AreExplained survey reviews limit own × (texts ≡ (output.Explanations, text_in wanted own) ∷ [])

-- a run that ends in an explanation of this survey, and of the books that sources told, writes this text
abbrev pub AreOfExplanation : List (Option (List ℕ)) → ℤ → Form → Survey → Texts → Type 0
AreOfExplanation tolds limit wanted survey texts =
    (reviews : List BookReview) × AreReviewsOfBooks tolds reviews × ArePrintedOf reviews limit wanted survey texts
