-- What the refusals of the steps of a run say of what is owed.
use Rattle.std.proofs.Common.{◌≡◌, ℕ, Bool, List, Some, None, Ok, Err, IfErr, IfOk, IfSome, ap, sym, subst}
use Rattle.std.specs.Prelude.{Result}
use Rattle.th_network.specs.Networks.{Survey}
use Rattle.th_network.specs.declared.faults.NetFault.{NetFault}
use Rattle.th_run_parts.specs.Inputs.{HasNetFault, IsOwed, MakesNetwork, Meets, MeetsRefusal, Owed, OwesNetFault, and_then}
use Rattle.th_run_parts.specs.Refused.{IsNetRefusal, IsOfNetwork}
use Rattle.th_run_parts.specs.Outcomes.{Accepted, Outcome, SurveyOutcome}
use Rattle.th_run_parts.specs.Reads.{IsBehind, IsFromInput, IsNamed, IsOfBook, IsOfInputs, Run, refused}
use Rattle.th_run_parts.specs.Writes.{IsFailedWrite, IsWritten, UnlessWrite}
use Rattle.th_run_parts.specs.declared.outputs.Output.{Output}
use Rattle.th_inputs.specs.declared.inputs.Input.{Input}
use Rattle.th_run_parts.specs.declared.refusals.Refusal.{Refusal}
use Rattle.th_run_parts.specs.declared.refusals.Refusal.TheVariants as refusal

-- a refusal that is owed for the first of two steps is owed for both
pub first_refused : {X Y : Type 0} (owed : Owed X) (next : X → Owed Y) (own : Refusal) → MeetsRefusal owed own → MeetsRefusal (and_then owed next) own
first_refused None next own meets = λ real. tt
first_refused (Some (Err known)) next own meets = λ real. let is : known ≡ own = cc (meets real) in ap Err is
first_refused (Some (Ok x)) next own meets = λ real. absurd (cc (meets real))

-- so is one of the second step, where the first is met
pub second_refused : {X Y : Type 0} (owed : Owed X) (next : X → Owed Y) (x : X) (own : Refusal) → Meets owed (Ok x) → MeetsRefusal (next x) own
    → MeetsRefusal (and_then owed next) own
second_refused None next x own met meets = λ real. tt
second_refused (Some known) next x own met meets = subst (λ answer. MeetsRefusal (and_then (Some answer) next) own) (sym met) meets

-- a refusal that comes from an input
pub owed_for_input : {X : Type 0} (survey_of : X → Survey) (owed : Owed X) (own : Refusal) → IsFromInput own
    → MeetsRefusal owed own → UnlessWrite own (IsOwed survey_of owed own)
owed_for_input survey_of owed (refusal.Network fault) from meets = absurd from
owed_for_input survey_of owed refusal.NoMemory from meets = tt
owed_for_input survey_of owed (refusal.Book number fault) from meets = meets (λ e. cc)
owed_for_input survey_of owed (refusal.Benchmarks fault) from meets = meets (λ e. cc)
owed_for_input survey_of owed (refusal.Weights fault) from meets = meets (λ e. cc)
owed_for_input survey_of owed (refusal.Certificate fault) from meets = meets (λ e. cc)
owed_for_input survey_of owed (refusal.Differences fault) from meets = meets (λ e. cc)
owed_for_input survey_of owed (refusal.Heights fault) from meets = meets (λ e. cc)
owed_for_input survey_of owed (refusal.Changes fault) from meets = meets (λ e. cc)
owed_for_input survey_of owed (refusal.Unfit fault) from meets = meets (λ e. cc)
owed_for_input survey_of owed (refusal.Mended fault) from meets = meets (λ e. cc)
owed_for_input survey_of owed (refusal.Read which) from meets = meets (λ e. cc)
owed_for_input survey_of owed (refusal.Write which) from meets = tt

owes_fault : {X : Type 0} (survey_of : X → Survey) (owed : Owed X) (x : X) (fault : NetFault) → Meets owed (Ok x) → HasNetFault (survey_of x) fault
    → OwesNetFault survey_of owed fault
owes_fault survey_of None x fault met has = tt
owes_fault survey_of (Some known) x fault met has = subst (λ answer. OwesNetFault survey_of (Some answer) fault) (sym met) has

-- the refusal of the network
pub owed_for_network : {X : Type 0} (survey_of : X → Survey) (owed : Owed X) (x : X) (own : Refusal) → Meets owed (Ok x) → IsNetRefusal (survey_of x) own
    → UnlessWrite own (IsOwed survey_of owed own)
owed_for_network survey_of owed x (refusal.Network fault) met refuses = owes_fault survey_of owed x fault met refuses
owed_for_network survey_of owed x refusal.NoMemory met refuses = tt
owed_for_network survey_of owed x other met refuses = absurd refuses

-- what holds of texts of a network holds of those of its survey
pub of_network : {X : Type 0} (survey network : Survey) (P : Survey → X → Type 0) (result : Result X Refusal) → MakesNetwork survey → network ≡ survey
    → IfOk result (P network) → IfErr result (λ own. own ≡ refusal.NoMemory) → IsOfNetwork survey (P survey) result
of_network survey network P (Ok x) makes same holds refused = (makes, subst (λ own. P own x) same holds)
of_network survey network P (Err own) makes same holds refused = subst (IsNetRefusal survey) (sym refused) tt

-- it comes from behind each input
pub network_behind : (which : Input) (survey : Survey) (own : Refusal) → IsNetRefusal survey own → IsBehind which own
network_behind which survey (refusal.Network fault) refuses = tt
network_behind which survey refusal.NoMemory refuses = tt
network_behind which survey other refuses = absurd refuses

-- so does a refusal once outputs are begun
pub written_behind : {X : Type 0} (which : Input) (result : Result X Refusal) → IsWritten result → IfSome (refused result) (IsBehind which)
written_behind which (Ok x) written = tt
written_behind which (Err (refusal.Write output)) written = tt
written_behind which (Err other) written = absurd written

-- a refusal for a book or a table comes from an input
pub of_inputs : (books : ℕ) (weights : Bool) (own : Refusal) → IsOfInputs books weights own → IsFromInput own
of_inputs books weights (refusal.Network fault) is = is
of_inputs books weights (refusal.Write which) is = is
of_inputs books weights own is = tt

-- what holds holds before outputs are begun
pub unless_of : (own : Refusal) (Own : Type 0) → Own → UnlessWrite own Own
unless_of (refusal.Write which) Own holds = tt
unless_of (refusal.Book number fault) Own holds = holds
unless_of (refusal.Benchmarks fault) Own holds = holds
unless_of (refusal.Weights fault) Own holds = holds
unless_of (refusal.Certificate fault) Own holds = holds
unless_of (refusal.Differences fault) Own holds = holds
unless_of (refusal.Heights fault) Own holds = holds
unless_of (refusal.Changes fault) Own holds = holds
unless_of (refusal.Unfit fault) Own holds = holds
unless_of (refusal.Mended fault) Own holds = holds
unless_of (refusal.Network fault) Own holds = holds
unless_of (refusal.Read which) Own holds = holds
unless_of refusal.NoMemory Own holds = holds

-- once outputs are begun nothing is said of what is before
pub unless_begun : {X : Type 0} (P : Refusal → Type 0) (result : Result X Refusal) → IsWritten result → IfErr result (λ own. UnlessWrite own (P own))
unless_begun P (Ok x) begun = tt
unless_begun P (Err (refusal.Write which)) begun = tt
unless_begun P (Err other) begun = absurd begun

-- outputs are begun where the refusal is for one of them
pub begun_of : {X : Type 0} (outputs : List Output) (result : Result X Refusal) → IfErr result (IsFailedWrite outputs) → IsWritten result
begun_of outputs (Ok x) failed = tt
begun_of outputs (Err (refusal.Write which)) failed = tt
begun_of outputs (Err other) failed = absurd failed

-- so it names one of them
pub named_of : {X : Type 0} (books : ℕ) (weights : Bool) (run : Run) (result : Result X Refusal) → IfErr result (IsFailedWrite run.outputs)
    → IfErr result (IsNamed books weights run)
named_of books weights run (Ok x) failed = tt
named_of books weights run (Err (refusal.Write which)) failed = failed
named_of books weights run (Err other) failed = absurd failed

-- a refusal before any output was begun
pub outcome_refused : {A X K : Type 0} (Owes : Refusal → Type 0) (IsGiven HasWritten : A → Type 0) (own : Refusal) (old new : K)
    → (IsWritten {X = X} (Err own) → ⊥) → UnlessWrite own (Owes own) → new ≡ old → Outcome {X = X} Owes IsGiven HasWritten (Err own) old new
outcome_refused Owes IsGiven HasWritten own old new unwritten owes same = record {
  written = λ begun. absurd (unwritten begun);
  refused = owes;
  untouched = unless_of own (new ≡ old) same;
}

-- an answer once outputs are begun
pub outcome_begun : {A X K : Type 0} (Owes : Refusal → Type 0) (IsGiven HasWritten : A → Type 0) (found : A) (result : Result X Refusal) (old new : K)
    → IsWritten result → IsGiven found → HasWritten found → Outcome Owes IsGiven HasWritten result old new
outcome_begun Owes IsGiven HasWritten found result old new begun given written = record {
  written = λ again. (found, given, written);
  refused = unless_begun Owes result begun;
  untouched = unless_begun (λ own. new ≡ old) result begun;
}

-- the refusal of a run over a survey that comes from an input
pub survey_refused : {A X K : Type 0} (survey_of : A → Survey) (owed : Owed A) (HasWritten : A → Type 0) (own : Refusal) (old new : K)
    → IsFromInput own → MeetsRefusal owed own → new ≡ old → SurveyOutcome {X = X} survey_of owed HasWritten (Err own) old new
survey_refused {X = X} survey_of owed HasWritten own old new from meets same =
    outcome_refused {X = X} (IsOwed survey_of owed) (Accepted survey_of owed) HasWritten own old new (never own from)
    (owed_for_input survey_of owed own from meets) same
  where
    never : (real : Refusal) → IsFromInput real → IsWritten {X = X} (Err real) → ⊥
    never (refusal.Write which) from begun = from
    never other from begun = begun

-- and the refusal of the network
pub network_refused : {A X K : Type 0} (survey_of : A → Survey) (owed : Owed A) (HasWritten : A → Type 0) (found : A) (own : Refusal) (old new : K)
    → Meets owed (Ok found) → IsNetRefusal (survey_of found) own → new ≡ old → SurveyOutcome {X = X} survey_of owed HasWritten (Err own) old new
network_refused {X = X} survey_of owed HasWritten found own old new meets refuses same =
    outcome_refused {X = X} (IsOwed survey_of owed) (Accepted survey_of owed) HasWritten own old new (never own refuses)
    (owed_for_network survey_of owed found own meets refuses) same
  where
    never : (real : Refusal) → IsNetRefusal (survey_of found) real → IsWritten {X = X} (Err real) → ⊥
    never (refusal.Write which) none begun = none
    never other none begun = begun

-- the answer of a run over a survey once its outputs are begun
pub survey_begun : {A X K : Type 0} (survey_of : A → Survey) (owed : Owed A) (HasWritten : A → Type 0) (found : A) (result : Result X Refusal) (old new : K)
    → IsWritten result → Meets owed (Ok found) → MakesNetwork (survey_of found) → HasWritten found → SurveyOutcome survey_of owed HasWritten result old new
survey_begun survey_of owed HasWritten found result old new begun meets network written =
    outcome_begun (IsOwed survey_of owed) (Accepted survey_of owed) HasWritten found result old new begun (record { given = meets; network = network }) written

-- a refusal for a book is none of an output
book_unwritten : (X : Type 0) (number : ℕ) (own : Refusal) → IsOfBook number own → IsWritten {X = X} (Err own) → ⊥
book_unwritten X number (refusal.Write which) is begun = is
book_unwritten X number other is begun = begun

-- so one comes before the list is begun
pub list_refused : {A X K : Type 0} (Owes : Refusal → Type 0) (IsGiven HasWritten : A → Type 0) (number : ℕ) (own : Refusal) (old new : K)
    → IsOfBook number own → Owes own → new ≡ old → Outcome {X = X} Owes IsGiven HasWritten (Err own) old new
list_refused {X = X} Owes IsGiven HasWritten number own old new of_book owes same =
    outcome_refused {X = X} Owes IsGiven HasWritten own old new (book_unwritten X number own of_book) (unless_of own (Owes own) owes) same
