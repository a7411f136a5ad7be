-- How the sinks of a run are written.
use Rattle.std.specs.Prelude.{◌≡◌, ℕ, List, [], ◌∷◌, ◌⊎◌, Option, Some, None, Result, Ok, Err, length}
use Rattle.std.specs.List.{All, Contains}
use Rattle.th_devices.specs.Devices.{IsReady, SinkState}
use Rattle.th_devices.specs.Transfer.{HasTaken, IsBroken, IsCalledFor}
use Rattle.th_run_parts.specs.declared.outputs.Output.{Output}
use Rattle.th_run_parts.specs.declared.refusals.Refusal.{Refusal}
use Rattle.th_run_parts.specs.declared.refusals.Refusal.TheVariants as refusal

-- the outputs of a run with their texts, in the order in which they are written
abbrev pub Texts : Type 0
Texts = List (Output × List ℕ)

-- how far an output was written: whole, until a call failed, or not at all
pub data Stage : Type 0 where
  Whole : Stage
  Broken : Stage
  Untouched : Stage

-- how far the outputs of a run were written, one after the other: all of them, up to this one, which failed, or none
pub data Progress : Type 0 where
  Complete : Progress
  UpTo : Output → Progress
  NotBegun : Progress

-- how far they were written in a run that ends with this refusal, or with none
abbrev pub progress_of : Option Refusal → Progress
progress_of None = Complete
progress_of (Some (refusal.Write failed)) = UpTo failed
progress_of (Some other) = NotBegun

-- `R` holds of each output: of its stage, its text, and of what it was before and is now. Those before one that failed are whole, and those behind it are
-- untouched.
abbrev pub EachOut : {K : Type 0} → (Stage → List ℕ → K → K → Type 0) → Progress → Texts → List K → List K → Type 0
EachOut R Complete (own ∷ texts) (old ∷ olds) (new ∷ news) = R Whole own.1 old new × EachOut R Complete texts olds news
EachOut R (UpTo failed) (own ∷ texts) (old ∷ olds) (new ∷ news) =
    (R Whole own.1 old new × EachOut R (UpTo failed) texts olds news)
    ⊎ ((own.0 ≡ failed) × R Broken own.1 old new × EachOut R NotBegun texts olds news)
EachOut R NotBegun (own ∷ texts) (old ∷ olds) (new ∷ news) = R Untouched own.1 old new × EachOut R NotBegun texts olds news
EachOut R (UpTo failed) [] [] [] = ⊥
EachOut R progress [] [] [] = Unit {0}
EachOut R progress texts olds news = ⊥

-- how many calls of an output failed at this stage
abbrev pub failures_at : Stage → ℕ
failures_at Whole = 0
failures_at Broken = 1
failures_at Untouched = 0

-- how a sink stands that was to take a text: it has it, it failed to take it, or it is untouched
abbrev pub StandsAt : {K : Type 0} → (K → SinkState) → Stage → List ℕ → K → K → Type 0
StandsAt state_of Whole text old new = HasTaken text (state_of old) (state_of new)
StandsAt state_of Broken text old new = IsBroken text (state_of old) (state_of new)
StandsAt state_of Untouched text old new = new ≡ old

-- how a sink that was to take a text stands at this stage, and that a call of it failed just where it is broken
pub record IsAt {K : Type 0} (state_of : K → SinkState) (stage : Stage) (text : List ℕ) (old new : K) : Type 0 where
  pub stands : StandsAt state_of stage text old new
  pub called : IsCalledFor text (failures_at stage) (state_of old) (state_of new)

-- how the sinks of a run are written that ends with this refusal, or with none
abbrev pub AreWritten : {K : Type 0} → (K → SinkState) → Option Refusal → Texts → List K → List K → Type 0
AreWritten state_of answer = EachOut (IsAt state_of) (progress_of answer)

-- a run may write these sinks: there is one for each of its outputs, and none was called too often before
pub record AreWritable {K : Type 0} (state_of : K → SinkState) (outputs : List Output) (sinks : List K) : Type 0 where
  pub as_many : length sinks ≡ length outputs
  pub each_sink : All (λ sink. IsReady (state_of sink).counts) sinks

-- outputs were begun: all of them are written, or one failed
abbrev pub IsWritten : {X : Type 0} → Result X Refusal → Type 0
IsWritten (Ok x) = Unit {0}
IsWritten (Err (refusal.Write which)) = Unit {0}
IsWritten (Err other) = ⊥

-- the refusal is a failed write of one of these outputs
abbrev pub IsFailedWrite : List Output → Refusal → Type 0
IsFailedWrite outputs (refusal.Write which) = Contains outputs which
IsFailedWrite outputs other = ⊥

-- what holds of a refusal, unless it is a failed write
abbrev pub UnlessWrite : Refusal → Type 0 → Type 0
UnlessWrite (refusal.Write which) Own = Unit {0}
UnlessWrite other Own = Own
