-- The outcome of a run.
use Rattle.std.specs.Prelude.{◌≡◌, IfErr, List, Option, Result, Ok, is_some, length}
use Rattle.th_network.specs.Networks.{Survey}
use Rattle.th_run_parts.specs.Inputs.{IsOwed, MakesNetwork, Meets, Owed, owed_by_sources}
use Rattle.th_devices.specs.Devices.{SinkState, SourceState}
use Rattle.th_run_parts.specs.Reads.{AreRead, IsNamed, Run, refused}
use Rattle.th_run_parts.specs.Writes.{AreWritten, IsWritten, Texts, UnlessWrite}
use Rattle.th_run_parts.specs.declared.refusals.Refusal.{Refusal}

-- If outputs were begun, something was given and written. Any other refusal is one that the run must return, and the outputs are unchanged.
pub record Outcome {A X K : Type 0} (Owes : Refusal → Type 0) (IsGiven HasWritten : A → Type 0) (result : Result X Refusal) (old new : K) : Type 0 where
  pub written : IsWritten result → ((found : A) × IsGiven found × HasWritten found)
  pub refused : IfErr result (λ own. UnlessWrite own (Owes own))
  pub untouched : IfErr result (λ own. UnlessWrite own (new ≡ old))

-- the inputs of a run are accepted: they give this, as far as that is known, and its survey makes a network
pub record Accepted {A : Type 0} (survey_of : A → Survey) (owed : Owed A) (found : A) : Type 0 where
  pub given : Meets owed (Ok found)
  pub network : MakesNetwork (survey_of found)

-- the outcome of a run whose inputs give a survey, or something that has one
abbrev pub SurveyOutcome : {A X K : Type 0} → (A → Survey) → Owed A → (A → Type 0) → Result X Refusal → K → K → Type 0
SurveyOutcome survey_of owed HasWritten result old new = Outcome (IsOwed survey_of owed) (Accepted survey_of owed) HasWritten result old new

-- the outcome of a run that writes texts of a survey
abbrev pub PrintedOutcome : {X K : Type 0} → (K → SinkState) → Owed Survey → (Survey → Texts → Type 0) → Result X Refusal → List K → List K → Type 0
PrintedOutcome state_of owed AreOf result old new =
    SurveyOutcome (λ survey. survey) owed (λ survey. (texts : Texts) × AreOf survey texts × AreWritten state_of (refused result) texts old new) result old new

-- What a run over books, benchmarks and weights leaves that writes texts of their survey: its outcome, and how its sources were read. A refusal
-- names a device of the run.
pub record PrintedRun {B T W K X : Type 0} (of_book : B → SourceState) (of_table : T → SourceState) (of_weights : W → SourceState) (of_out : K → SinkState)
    (run : Run) (AreOf : Survey → Texts → Type 0) (result : Result X Refusal)
    (old_books new_books : List B) (old_benchmarks new_benchmarks : T) (old_weights new_weights : Option W) (old_outs new_outs : List K) : Type 0 where
  pub outcome : PrintedOutcome of_out (owed_by_sources of_book of_table of_weights old_books new_books old_benchmarks new_benchmarks old_weights new_weights) AreOf result old_outs new_outs
  pub named : IfErr result (IsNamed (length old_books) (is_some old_weights) run)
  pub sources : AreRead of_book of_table of_weights (refused result) old_books new_books old_benchmarks new_benchmarks old_weights new_weights
