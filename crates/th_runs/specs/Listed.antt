-- What a list of a book prints.
use Rattle.std.specs.Prelude.{IfErr, List, [], ◌∷◌, Ok, Result}
use Rattle.std.specs.List.{Contains}
use Rattle.th_observations.specs.Observed.{Observed}
use Rattle.th_devices.specs.Devices.{SinkState, SourceState}
use Rattle.th_report.specs.Lists.{list_text}
use Rattle.th_run_parts.specs.Inputs.{Meets, MeetsRefusal, given, owed_for_book}
use Rattle.th_run_parts.specs.Outcomes.{Outcome}
use Rattle.th_run_parts.specs.Reads.{IsOfBook, IsReadFor, refused}
use Rattle.th_run_parts.specs.Writes.{AreWritten, Texts}
use Rattle.th_inputs.specs.declared.inputs.Input.TheVariants as input
use Rattle.th_run_parts.specs.declared.outputs.Output.{Output}
use Rattle.th_run_parts.specs.declared.outputs.Output.TheVariants as output
use Rattle.th_run_parts.specs.declared.refusals.Refusal.{Refusal}
use Rattle.th_run_parts.specs.declared.refusals.Refusal.TheVariants as refusal

-- what a list of a book writes
abbrev pub listing : List Output
listing = output.List ∷ []

-- the text of its output
abbrev pub listed : List Observed → Texts
listed observations = (output.List, list_text observations) ∷ []

-- the refusal of a list of one book names the book or the list
abbrev pub IsOfList : Refusal → Type 0
IsOfList (refusal.Write which) = Contains listing which
IsOfList own = IsOfBook 1 own

-- What a list of a book leaves: its outcome, and how the book was read. A refusal names the book or the list.
pub record ListedRun {S K X : Type 0} (of_book : S → SourceState) (of_out : K → SinkState) (result : Result X Refusal) (old_book new_book : S)
    (old_outs new_outs : List K) : Type 0 where
  pub outcome : Outcome (MeetsRefusal (owed_for_book 1 (given of_book old_book new_book))) (λ own. Meets (owed_for_book 1 (given of_book old_book new_book)) (Ok own))
      (λ own. AreWritten of_out (refused result) (listed own) old_outs new_outs) result old_outs new_outs
  pub named : IfErr result IsOfList
  pub book : IsReadFor of_book (input.Book 1) (refused result) old_book new_book
