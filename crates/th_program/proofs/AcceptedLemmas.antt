-- What the promise of the program comes to for each command, where its inputs are accepted and no device may fail.
use Rattle.std.proofs.Common.{◌≡◌, ◌≤◌, ◌+◌, ◌⊎◌, ◌∷◌, ℕ, ℤ, Bool, true, false, List, [], Option, Some, None, Ok, Err, refl, ap, ap₂, sym, subst, ◌∙◌, inl, inr, arith}
use Rattle.std.specs.Prelude.{◌≢◌, Result, is_some, length, option_map}
use Rattle.std.specs.List.{Contains}
use Rattle.clap.specs.Words.{IsAmong, fault_of, kind_of}
use Rattle.th_run_parts.specs.Booked.{IsOfBooking, booking, converted, input_of}
use Rattle.th_run_parts.specs.Mended.{IsOfMending, owed_for_mended}
use Rattle.th_run_parts.specs.declared.conversions.Conversion.{Conversion}
use Rattle.th_run_parts.specs.declared.conversions.Conversion.TheVariants.{Differences, Heights}
use Rattle.th_devices.specs.Spots.{Spot, file, output}
use Rattle.th_devices.specs.Folders.{Failing}
use Rattle.th_network.specs.Networks.{Survey}
use Rattle.th_observations.specs.Observed.{Observed}
use Rattle.th_report.specs.Lists.{list_text}
use Rattle.th_commands.specs.Asked.{Asked, Files, adjust, book, book_of_heights, check, check_with_inputs, explain, list, mend, page, review}
use Rattle.th_commands.specs.Plans.{AreTaken, IsFaultOf, IsPlanOf, argument_fault, asked, said_by}
use Rattle.th_commands.specs.Commands.{command_line}
use Rattle.th_commands.specs.declared.faults.PlanFault.{PlanFault}
use Rattle.th_commands.specs.declared.faults.PlanFault.TheVariants as fault
use Rattle.th_commands.specs.declared.plans.Plan.{Plan}
use Rattle.th_commands.specs.declared.plans.Plan.TheVariants as plan
use Rattle.th_files.proofs.OpenedLemmas.{owed-same}
use Rattle.th_files.proofs.OutputLemmas.{spot_among}
use Rattle.th_files.specs.Outputs.{Holds, spot_at, spots_of}
use Rattle.th_files.specs.Owed.{Told, book_owed, converted_owed, given_by, given_by_books, given_from, mended_owed, survey_owed}
use Rattle.th_runs.specs.Explained.{explaining}
use Rattle.th_runs.specs.Paged.{paging}
use Rattle.th_runs.specs.Reviewed.{reviewing}
use Rattle.th_program.specs.Accepted.{IsReadAt, OutputsSpare}
use Rattle.th_program.specs.Done.{AreDone, HoldsBook, IsBooked, IsCarriedOut, IsExplained, IsListed, IsMended, IsPagedFile, IsRefusedBook, IsRefusedBooking, IsRefusedExplain, IsRefusedFor, IsRefusedList, IsRefusedMend, IsRefusedPage, IsRefusedReview, IsReviewed, IsRun, IsUsage, WouldOverwrite, form_of}
use Rattle.th_program.specs.Failing.{HasCause, IsInFiles, IsInMending, Origins}
use Rattle.th_program.specs.Headline.{AskFor, IsAccepted, NoneMayFail, SomeMayFail}
use Rattle.th_runs.specs.Listed.{IsOfList, listing}
use Rattle.th_run_parts.specs.Inputs.{Given, IsOwed, MakesNetwork, Meets, MeetsRefusal, Owed, Untold, given_at, owed_for_book, owed_for_survey}
use Rattle.th_run_parts.specs.Outputs.{ending_of}
use Rattle.th_run_parts.specs.Reads.{IsNamed, Run, failed_reads_of}
use Rattle.th_run_parts.specs.Refusals.{status_of}
use Rattle.th_run_parts.specs.Writes.{UnlessWrite}
use Rattle.th_inputs.specs.declared.inputs.Input.{Input}
use Rattle.th_inputs.specs.declared.inputs.Input.TheVariants as input
use Rattle.th_run_parts.specs.declared.outputs.Output.{Output}
use Rattle.th_run_parts.specs.declared.refusals.Refusal.{Refusal}
use Rattle.th_run_parts.specs.declared.refusals.Refusal.TheVariants as refusal

-- ---- what became of a run of what the words ask for
abbrev DoneAs : Bool → Told → Told → ℕ → Option Asked → Type 0
DoneAs tells old new status None = Unit {0}
DoneAs tells old new status (Some (list name)) = (status ≡ 0) × IsListed tells old new (file name)
DoneAs tells old new status (Some (adjust from limit prefix)) = Unit {0}
DoneAs tells old new status (Some (review from limit prefix)) = (status ≡ 0) × IsReviewed tells old new from limit prefix None
DoneAs tells old new status (Some (explain from limit table)) = (status ≡ 0) × IsExplained tells old new from limit (form_of table)
DoneAs tells old new status (Some (page from limit prefix title)) = (status ≡ 0) × IsPagedFile tells old new from limit prefix title None
DoneAs tells old new status (Some (check from certificate)) = Unit {0}
DoneAs tells old new status (Some (check_with_inputs from certificate)) = Unit {0}
DoneAs tells old new status (Some (book table)) = (status ≡ 0) × IsBooked tells old new Differences table
DoneAs tells old new status (Some (book_of_heights name)) = (status ≡ 0) × IsBooked tells old new Heights name
DoneAs tells old new status (Some (mend changes name)) = (status ≡ 0) × IsMended tells old new changes name

abbrev RefusedAs : Bool → Failing → Told → Told → Refusal → Option Asked → Type 0
RefusedAs tells failing old new own None = Unit {0}
RefusedAs tells failing old new own (Some (list name)) = IsRefusedList failing old (file name) own
RefusedAs tells failing old new own (Some (adjust from limit prefix)) = Unit {0}
RefusedAs tells failing old new own (Some (review from limit prefix)) = IsRefusedReview tells failing old new from limit prefix own
RefusedAs tells failing old new own (Some (explain from limit table)) = IsRefusedExplain failing old from own
RefusedAs tells failing old new own (Some (page from limit prefix title)) = IsRefusedPage tells failing old new from limit prefix title own
RefusedAs tells failing old new own (Some (check from certificate)) = Unit {0}
RefusedAs tells failing old new own (Some (check_with_inputs from certificate)) = Unit {0}
RefusedAs tells failing old new own (Some (book table)) = IsRefusedBook failing old Differences table own
RefusedAs tells failing old new own (Some (book_of_heights name)) = IsRefusedBook failing old Heights name own
RefusedAs tells failing old new own (Some (mend changes name)) = IsRefusedMend failing old changes name own

abbrev StoppedAs : Bool → Option Asked → Type 0
StoppedAs tells None = Unit {0}
StoppedAs tells (Some (list name)) = ⊥
StoppedAs tells (Some (adjust from limit prefix)) = Unit {0}
StoppedAs tells (Some (review from limit prefix)) = tells ≡ true → OutputsSpare reviewing.outputs from prefix → ⊥
StoppedAs tells (Some (explain from limit table)) = ⊥
StoppedAs tells (Some (page from limit prefix title)) = tells ≡ true → OutputsSpare paging.outputs from prefix → ⊥
StoppedAs tells (Some (check from certificate)) = Unit {0}
StoppedAs tells (Some (check_with_inputs from certificate)) = Unit {0}
StoppedAs tells (Some (book table)) = ⊥
StoppedAs tells (Some (book_of_heights name)) = ⊥
StoppedAs tells (Some (mend changes name)) = ⊥

abbrev BecameAs : Bool → Failing → Told → Told → ℕ → Option Asked → Type 0
BecameAs tells failing old new status wanted =
    DoneAs tells old new status wanted ⊎ ((own : Refusal) × (status ≡ status_of own) × RefusedAs tells failing old new own wanted) ⊎ StoppedAs tells wanted ⊎ (status ≡ 4)

no_file : (name : List ℕ) → file name ≡ output → ⊥
no_file name e = cc

module _ {F : Type 0} (tells : Bool) (held : F → Told) (has_failed : F → Spot → Bool) (failing : F → Failing) (old new : F) (status : ℕ) where
  abbrev Became : Option Asked → Type 0
  Became = BecameAs tells (failing old) (held old) (held new) status

  carried : (own : Plan) → IsCarriedOut tells held has_failed failing old new own status → Became (said_by own)
  carried plan.Standard run = inl tt
  carried (plan.List name) (inl run) = inl run.done
  carried (plan.List name) (inr (own, run)) = inr (inl (own, run.status_is, run.refused))
  carried (plan.Adjust inputs limit prefix) run = inl tt
  carried (plan.Review inputs limit prefix) (inl run) = inl run.done
  carried (plan.Review inputs limit prefix) (inr (own, run)) = inr (inl (own, run.status_is, run.refused))
  carried (plan.Explain inputs limit table) (inl run) = inl run.done
  carried (plan.Explain inputs limit table) (inr (own, run)) = inr (inl (own, run.status_is, run.refused))
  carried (plan.Page inputs limit prefix title) (inl run) = inl run.done
  carried (plan.Page inputs limit prefix title) (inr (own, run)) = inr (inl (own, run.status_is, run.refused))
  carried (plan.Check inputs certificate true) run = inl tt
  carried (plan.Check inputs certificate false) run = inl tt
  carried (plan.Book table) (inl run) = inl run.done
  carried (plan.Book table) (inr (own, run)) = inr (inl (own, run.status_is, run.refused))
  carried (plan.BookOfHeights name) (inl run) = inl run.done
  carried (plan.BookOfHeights name) (inr (own, run)) = inr (inl (own, run.status_is, run.refused))
  carried (plan.Mend changes name) (inl run) = inl run.done
  carried (plan.Mend changes name) (inr (own, run)) = inr (inl (own, run.status_is, run.refused))

  stopped : (own : Plan) (written : List ℕ) (which : Input) (name : List ℕ) → WouldOverwrite tells own written which name → StoppedAs tells (said_by own)
  stopped plan.Standard written which name would = tt
  stopped (plan.List name') written which name would = no_file written would.is_written
  stopped (plan.Adjust inputs limit prefix) written which name would = tt
  stopped (plan.Review inputs limit prefix) written which name would =
      λ telling spare. spare which name would.is_read (subst (λ (own : List ℕ). Contains (spots_of prefix.now reviewing.outputs) (file own)) (would.same telling) would.is_written)
  stopped (plan.Explain inputs limit table) written which name would = no_file written would.is_written
  stopped (plan.Page inputs limit prefix title) written which name would =
      λ telling spare. spare which name would.is_read (subst (λ (own : List ℕ). Contains (spots_of prefix.now paging.outputs) (file own)) (would.same telling) would.is_written)
  stopped (plan.Check inputs certificate true) written which name would = tt
  stopped (plan.Check inputs certificate false) written which name would = tt
  stopped (plan.Book table) written which name would = no_file written would.is_written
  stopped (plan.BookOfHeights name') written which name would = no_file written would.is_written
  stopped (plan.Mend changes name') written which name would = no_file written would.is_written

  became : (own : Plan) → IsRun tells held has_failed failing old new own status → Became (said_by own)
  became own (inl (keeps, run)) = carried own run
  became own (inr (inl (is, (written, which, name, would, begun)))) = inr (inr (inl (stopped own written which name would)))
  became own (inr (inr (is, begun))) = inr (inr (inr is))

  said_is : (words : List (List ℕ)) (own : Plan) (wanted : Asked) → IsPlanOf words own → AskFor words wanted → said_by own ≡ Some wanted
  said_is words plan.Standard wanted is asks = absurd (omega (arith, is, asks.0))
  said_is words (plan.List name) wanted is asks = sym is.2 ∙ asks.2
  said_is words (plan.Adjust inputs limit prefix) wanted is asks = sym is.2 ∙ asks.2
  said_is words (plan.Review inputs limit prefix) wanted is asks = sym is.2 ∙ asks.2
  said_is words (plan.Explain inputs limit table) wanted is asks = sym is.2 ∙ asks.2
  said_is words (plan.Page inputs limit prefix title) wanted is asks = sym is.2 ∙ asks.2
  said_is words (plan.Check inputs certificate with_inputs) wanted is asks = sym is.2 ∙ asks.2
  said_is words (plan.Book table) wanted is asks = sym is.2 ∙ asks.2
  said_is words (plan.BookOfHeights name) wanted is asks = sym is.2 ∙ asks.2
  said_is words (plan.Mend changes name) wanted is asks = sym is.2 ∙ asks.2

  no_plan : (words : List (List ℕ)) (own : PlanFault) (wanted : Asked) → IsFaultOf words own → AskFor words wanted → IsUsage held old new own status → status ≡ 4
  no_plan words (fault.Line error) wanted is asks usage = absurd (by is.2)
    where
      by : IsAmong (kind_of error) (fault_of command_line words) ⊎ (AreTaken words × (asked words ≡ None) × (argument_fault words ≡ None)) → ⊥
      by (inl among) = subst (IsAmong (kind_of error)) asks.1 among
      by (inr none) = let bad : None ≡ Some wanted = sym none.1 ∙ asks.2 in cc
  no_plan words (fault.Argument fault) wanted is asks usage = let bad : None ≡ Some wanted = sym is.2 ∙ asks.2 in cc
  no_plan words fault.NoMemory wanted is asks usage = usage.status_is

  ran : (words : List (List ℕ)) (wanted : Asked) → AreDone tells held has_failed failing old new words status → AskFor words wanted → Became (Some wanted)
  ran words wanted (inl (own, is, run)) asks = subst Became (said_is words own wanted is asks) (became own run)
  ran words wanted (inr (own, is, usage)) asks = inr (inr (inr (no_plan words own wanted is asks usage)))

-- ---- no read failed behind a refusal that blames no device
abbrev NoneFailed : Refusal → Type 0
NoneFailed own = (which : Input) → failed_reads_of which (Some own) ≡ 0

from_same : (told : Told) (own : Refusal) → NoneFailed own → (which : Input) (spot : Spot) → given_from told (Some own) which spot ≡ given_from told None which spot
from_same told own none which spot = ap (λ (failed : ℕ). given_at 0 failed (told spot)) (none which)

books_same : (told : Told) (own : Refusal) → NoneFailed own → (number : ℕ) (names : List (List ℕ)) → given_by_books told (Some own) number names ≡ given_by_books told None number names
books_same told own none number [] = refl
books_same told own none number (name ∷ names) =
    ap₂ (λ (one : Given) (more : List Given). one ∷ more) (from_same told own none (input.Book number) (file name)) (books_same told own none (number + 1) names)

weights_same : (told : Told) (own : Refusal) → NoneFailed own → (weights : Option (List ℕ)) → option_map (given_by told (Some own) input.Weights) weights ≡ option_map (given_by told None input.Weights) weights
weights_same told own none None = refl
weights_same told own none (Some name) = ap Some (from_same told own none input.Weights (file name))

survey_same : (told : Told) (own : Refusal) → NoneFailed own → (from : Files) → survey_owed told (Some own) from ≡ survey_owed told None from
survey_same told own none from =
    owed-same _ _ _ _ _ _ (books_same told own none 1 from.books) (from_same told own none input.Benchmarks (file from.benchmarks)) (weights_same told own none from.weights)

-- ---- a refusal where no device may fail is one for memory
may_fail : (failing : Failing) (origins : Origins) (prefix : List ℕ) (outputs : List Output) (which : Output) → Contains outputs which
    → failing.writing (spot_at prefix (ending_of which)) ≡ true → SomeMayFail failing origins (spots_of prefix outputs)
may_fail failing origins prefix outputs which (place, within, there) may =
    inr (
      spot_at prefix (ending_of which),
      subst (λ (own : Output). Contains (spots_of prefix outputs) (spot_at prefix (ending_of own))) there (spot_among prefix outputs place which within),
      may,
    )

-- so it is none but for memory, if no other may be owed
only_memory : (Named : Refusal → Type 0) (Owes : Type 0) (failing : Failing) (origins : Origins) (prefix : List ℕ) (outputs : List Output) (own : Refusal) (status : ℕ)
    → ((which : Output) → Named (refusal.Write which) → Contains outputs which) → Named own → HasCause failing origins prefix own → NoneMayFail failing origins (spots_of prefix outputs)
    → UnlessWrite own Owes → (NoneFailed own → own ≢ refusal.NoMemory → Owes → ⊥) → status ≡ status_of own → status ≡ 4
only_memory Named Owes failing origins prefix outputs (refusal.Write which) status of_write named cause none owes nothing is = absurd (none (may_fail failing origins prefix outputs which (of_write which named) cause))
only_memory Named Owes failing origins prefix outputs (refusal.Read which) status of_write named cause none owes nothing is = absurd (none (inl (which, cause.0, cause.1, cause.2)))
only_memory Named Owes failing origins prefix outputs refusal.NoMemory status of_write named cause none owes nothing is = is
only_memory Named Owes failing origins prefix outputs (refusal.Book number fault) status of_write named cause none owes nothing is = absurd (nothing (λ which. refl) (λ e. cc) owes)
only_memory Named Owes failing origins prefix outputs (refusal.Benchmarks fault) status of_write named cause none owes nothing is = absurd (nothing (λ which. refl) (λ e. cc) owes)
only_memory Named Owes failing origins prefix outputs (refusal.Weights fault) status of_write named cause none owes nothing is = absurd (nothing (λ which. refl) (λ e. cc) owes)
only_memory Named Owes failing origins prefix outputs (refusal.Certificate fault) status of_write named cause none owes nothing is = absurd (nothing (λ which. refl) (λ e. cc) owes)
only_memory Named Owes failing origins prefix outputs (refusal.Differences fault) status of_write named cause none owes nothing is = absurd (nothing (λ which. refl) (λ e. cc) owes)
only_memory Named Owes failing origins prefix outputs (refusal.Heights fault) status of_write named cause none owes nothing is = absurd (nothing (λ which. refl) (λ e. cc) owes)
only_memory Named Owes failing origins prefix outputs (refusal.Changes fault) status of_write named cause none owes nothing is = absurd (nothing (λ which. refl) (λ e. cc) owes)
only_memory Named Owes failing origins prefix outputs (refusal.Unfit fault) status of_write named cause none owes nothing is = absurd (nothing (λ which. refl) (λ e. cc) owes)
only_memory Named Owes failing origins prefix outputs (refusal.Mended fault) status of_write named cause none owes nothing is = absurd (nothing (λ which. refl) (λ e. cc) owes)
only_memory Named Owes failing origins prefix outputs (refusal.Network fault) status of_write named cause none owes nothing is = absurd (nothing (λ which. refl) (λ e. cc) owes)

abbrev RefusesForMemory : Type 0
RefusesForMemory = (owed : Owed Survey) (survey : Survey) (own : Refusal) → owed ≡ Some (Ok survey) → MakesNetwork survey → IsOwed (λ survey. survey) owed own → own ≡ refusal.NoMemory

-- of a run over named files
over_files : RefusesForMemory → (run : Run) (from : Files) (told : Told) (HasLeft : Option Refusal → Type 0) (failing : Failing) (prefix : List ℕ) (survey : Survey) (own : Refusal) (status : ℕ)
    → IsAccepted told from survey → NoneMayFail failing (IsInFiles from) (spots_of prefix run.outputs)
    → IsRefusedFor run from (λ survey. survey) (survey_owed told (Some own) from) HasLeft (HasCause failing (IsInFiles from) prefix) own → status ≡ status_of own → status ≡ 4
over_files law run from told HasLeft failing prefix survey own status accepted none refused is =
    only_memory (IsNamed (length from.books) (is_some from.weights) run) (IsOwed (λ survey. survey) (survey_owed told (Some own) from) own) failing (IsInFiles from) prefix run.outputs own status
    (λ which named. named) refused.named refused.cause none refused.owes nothing_else is
  where
    nothing_else : NoneFailed own → own ≢ refusal.NoMemory → IsOwed (λ survey. survey) (survey_owed told (Some own) from) own → ⊥
    nothing_else failed differs owes = differs (law (survey_owed told (Some own) from) survey own (survey_same told own failed from ∙ accepted.given) accepted.network owes)

-- ---- each command
same_ok : {X : Type 0} (x y : X) → ◌≡◌ {A = Result X Refusal} (Ok x) (Ok y) → y ≡ x
same_ok x y e = cc

not_refused : {X : Type 0} (owed : Owed X) (x : X) (own : Refusal) → owed ≡ Some (Ok x) → own ≢ refusal.NoMemory → MeetsRefusal owed own → ⊥
not_refused {X = X} owed x own is differs meets = by (subst (λ (known : Owed X). Meets known (Err own)) is (meets differs))
  where
    by : Ok x ≡ Err own → ⊥
    by e = cc

-- a folder that tells nothing has no inputs that are known to be accepted
untold_tables : (benchmarks : Given) (weights : Option Given) (survey : Survey) → benchmarks ≡ Untold → owed_for_survey [] benchmarks weights ≡ Some (Ok survey) → ⊥
untold_tables benchmarks weights survey is e =
    let none : None ≡ Some (Ok survey) = rw is at e in
    cc

untold : (told : Told) (from : Files) (survey : Survey) → ((spot : Spot) → told spot ≡ None) → survey_owed told None from ≡ Some (Ok survey) → ⊥
untold told from survey none e = go from.books e
  where
    go : (books : List (List ℕ))
        → owed_for_survey (given_by_books told None 1 books) (given_by told None input.Benchmarks from.benchmarks) (option_map (given_by told None input.Weights) from.weights) ≡ Some (Ok survey) → ⊥
    go [] owed = untold_tables (given_by told None input.Benchmarks from.benchmarks) (option_map (given_by told None input.Weights) from.weights) survey (ap (given_at 0 0) (none (file from.benchmarks))) owed
    go (name ∷ names) owed =
        let nothing : None ≡ Some (Ok survey) = rw (none (file name)) at owed in
        cc

module _ {F : Type 0} (tells : Bool) (held : F → Told) (has_failed : F → Spot → Bool) (failing : F → Failing) (tells_or_not : (folder : F) (spot : Spot) → tells ≡ false → held folder spot ≡ None) (old new : F) (words : List (List ℕ)) (status : ℕ) where
  pub listed : (name : List ℕ) (observations : List Observed) → AreDone tells held has_failed failing old new words status → AskFor words (list name)
      → book_owed (held old) None (file name) ≡ Some (Ok observations) → NoneMayFail (failing old) (IsReadAt (file name)) (spots_of [] listing)
      → ((status ≡ 0) × Holds tells (held new) output (list_text observations)) ⊎ (status ≡ 4)
  listed name observations done asks accepted none = by (ran tells held has_failed failing old new status words (list name) done asks)
    where
      refused : (own : Refusal) → IsRefusedList (failing old) (held old) (file name) own → status ≡ status_of own → status ≡ 4
      refused own is same =
          only_memory IsOfList (MeetsRefusal (book_owed (held old) (Some own) (file name)) own) (failing old) (IsReadAt (file name)) [] listing own status
          (λ which named. named) is.named is.cause none is.owes (λ failed differs owes. not_refused _ observations own (ap (owed_for_book 1) (from_same (held old) own failed (input.Book 1) (file name)) ∙ accepted) differs owes) same

      is_it : (found : List Observed) → Meets (book_owed (held old) None (file name)) (Ok found) → found ≡ observations
      is_it found meets = same_ok observations found (subst (λ (known : Owed (List Observed)). Meets known (Ok found)) accepted meets)

      by : BecameAs tells (failing old) (held old) (held new) status (Some (list name)) → ((status ≡ 0) × Holds tells (held new) output (list_text observations)) ⊎ (status ≡ 4)
      by (inl (is, done)) = inl (is, subst (λ (found : List Observed). Holds tells (held new) output (list_text found)) (is_it done.observations done.given) done.listed)
      by (inr (inl (own, is, gone))) = inr (refused own gone is)
      by (inr (inr (inl never))) = absurd never
      by (inr (inr (inr memory))) = inr memory

  -- what stops a run over files that no output of it is
  spared : (from : Files) (survey : Survey) (Spare : Type 0) → IsAccepted (held old) from survey → Spare → (tells ≡ true → Spare → ⊥) → ⊥
  spared from survey Spare accepted spare stopped = by tells refl
    where
      by : (telling : Bool) → tells ≡ telling → ⊥
      by true is = stopped is spare
      by false is = untold (held old) from survey (λ spot. tells_or_not old spot is) accepted.given

  pub reviewed : RefusesForMemory → (from : Files) (limit : ℤ) (prefix : List ℕ) (survey : Survey) → AreDone tells held has_failed failing old new words status → AskFor words (review from limit prefix)
      → IsAccepted (held old) from survey → OutputsSpare reviewing.outputs from prefix → NoneMayFail (failing old) (IsInFiles from) (spots_of prefix reviewing.outputs)
      → ((status ≡ 0) × IsReviewed tells (held old) (held new) from limit prefix None) ⊎ (status ≡ 4)
  reviewed law from limit prefix survey done asks accepted spare none = by (ran tells held has_failed failing old new status words (review from limit prefix) done asks)
    where
      by : BecameAs tells (failing old) (held old) (held new) status (Some (review from limit prefix)) → ((status ≡ 0) × IsReviewed tells (held old) (held new) from limit prefix None) ⊎ (status ≡ 4)
      by (inl well) = inl well
      by (inr (inl (own, is, refused))) =
          inr (over_files law reviewing from (held old) (IsReviewed tells (held old) (held new) from limit prefix) (failing old) prefix survey own status accepted none refused is)
      by (inr (inr (inl stopped))) = absurd (spared from survey (OutputsSpare reviewing.outputs from prefix) accepted spare stopped)
      by (inr (inr (inr memory))) = inr memory

  pub explained : RefusesForMemory → (from : Files) (limit : ℤ) (table : Bool) (survey : Survey) → AreDone tells held has_failed failing old new words status → AskFor words (explain from limit table)
      → IsAccepted (held old) from survey → NoneMayFail (failing old) (IsInFiles from) (spots_of [] explaining.outputs)
      → ((status ≡ 0) × IsExplained tells (held old) (held new) from limit (form_of table)) ⊎ (status ≡ 4)
  explained law from limit table survey done asks accepted none = by (ran tells held has_failed failing old new status words (explain from limit table) done asks)
    where
      by : BecameAs tells (failing old) (held old) (held new) status (Some (explain from limit table)) → ((status ≡ 0) × IsExplained tells (held old) (held new) from limit (form_of table)) ⊎ (status ≡ 4)
      by (inl well) = inl well
      by (inr (inl (own, is, refused))) = inr (over_files law explaining from (held old) (λ answer. Unit {0}) (failing old) [] survey own status accepted none refused is)
      by (inr (inr (inl never))) = absurd never
      by (inr (inr (inr memory))) = inr memory

  pub paged : RefusesForMemory → (from : Files) (limit : ℤ) (prefix title : List ℕ) (survey : Survey) → AreDone tells held has_failed failing old new words status → AskFor words (page from limit prefix title)
      → IsAccepted (held old) from survey → OutputsSpare paging.outputs from prefix → NoneMayFail (failing old) (IsInFiles from) (spots_of prefix paging.outputs)
      → ((status ≡ 0) × IsPagedFile tells (held old) (held new) from limit prefix title None) ⊎ (status ≡ 4)
  paged law from limit prefix title survey done asks accepted spare none = by (ran tells held has_failed failing old new status words (page from limit prefix title) done asks)
    where
      by : BecameAs tells (failing old) (held old) (held new) status (Some (page from limit prefix title)) → ((status ≡ 0) × IsPagedFile tells (held old) (held new) from limit prefix title None) ⊎ (status ≡ 4)
      by (inl well) = inl well
      by (inr (inl (own, is, refused))) =
          inr (over_files law paging from (held old) (IsPagedFile tells (held old) (held new) from limit prefix title) (failing old) prefix survey own status accepted none refused is)
      by (inr (inr (inl stopped))) = absurd (spared from survey (OutputsSpare paging.outputs from prefix) accepted spare stopped)
      by (inr (inr (inr memory))) = inr memory

  made_as : (Named : Refusal → Type 0) (owed_of : Option Refusal → Owed (List ℕ)) (origins : Origins) (text : List ℕ)
      → ((which : Output) → Named (refusal.Write which) → Contains booking which) → ((own : Refusal) → NoneFailed own → owed_of (Some own) ≡ owed_of None)
      → owed_of None ≡ Some (Ok text) → NoneMayFail (failing old) origins (spots_of [] booking)
      → ((status ≡ 0) × HoldsBook tells (held new) (owed_of None)) ⊎ ((own : Refusal) × (status ≡ status_of own) × IsRefusedBooking Named (owed_of (Some own)) (failing old) origins own) ⊎ ⊥ ⊎ (status ≡ 4)
      → ((status ≡ 0) × Holds tells (held new) output text) ⊎ (status ≡ 4)
  made_as Named owed_of origins text of_write unfailed accepted none = by
    where
      refused : (own : Refusal) → IsRefusedBooking Named (owed_of (Some own)) (failing old) origins own → status ≡ status_of own → status ≡ 4
      refused own is same =
          only_memory Named (MeetsRefusal (owed_of (Some own)) own) (failing old) origins [] booking own status
          of_write is.named is.cause none is.owes (λ failed differs owes. not_refused _ text own (unfailed own failed ∙ accepted) differs owes) same

      is_it : (found : List ℕ) → Meets (owed_of None) (Ok found) → found ≡ text
      is_it found meets = same_ok text found (subst (λ (known : Owed (List ℕ)). Meets known (Ok found)) accepted meets)

      by : ((status ≡ 0) × HoldsBook tells (held new) (owed_of None)) ⊎ ((own : Refusal) × (status ≡ status_of own) × IsRefusedBooking Named (owed_of (Some own)) (failing old) origins own) ⊎ ⊥ ⊎ (status ≡ 4)
          → ((status ≡ 0) × Holds tells (held new) output text) ⊎ (status ≡ 4)
      by (inl (is, done)) = inl (is, subst (λ (found : List ℕ). Holds tells (held new) output found) (is_it done.book done.given) done.booked)
      by (inr (inl (own, is, gone))) = inr (refused own gone is)
      by (inr (inr (inl never))) = absurd never
      by (inr (inr (inr memory))) = inr memory

  booked_as : (conversion : Conversion) (name text : List ℕ)
      → converted_owed (held old) None conversion name ≡ Some (Ok text) → NoneMayFail (failing old) (IsReadAt (file name)) (spots_of [] booking)
      → ((status ≡ 0) × IsBooked tells (held old) (held new) conversion name) ⊎ ((own : Refusal) × (status ≡ status_of own) × IsRefusedBook (failing old) (held old) conversion name own) ⊎ ⊥ ⊎ (status ≡ 4)
      → ((status ≡ 0) × Holds tells (held new) output text) ⊎ (status ≡ 4)
  booked_as conversion name text =
      made_as (IsOfBooking conversion) (λ answer. converted_owed (held old) answer conversion name) (IsReadAt (file name)) text (λ which named. named)
      (λ own failed. ap (converted conversion) (from_same (held old) own failed (input_of conversion) (file name)))

  pub booked : (name text : List ℕ) → AreDone tells held has_failed failing old new words status → AskFor words (book name)
      → converted_owed (held old) None Differences name ≡ Some (Ok text) → NoneMayFail (failing old) (IsReadAt (file name)) (spots_of [] booking) → ((status ≡ 0) × Holds tells (held new) output text) ⊎ (status ≡ 4)
  booked name text done asks accepted none = booked_as Differences name text accepted none (ran tells held has_failed failing old new status words (book name) done asks)

  pub booked_of_heights : (name text : List ℕ) → AreDone tells held has_failed failing old new words status → AskFor words (book_of_heights name)
      → converted_owed (held old) None Heights name ≡ Some (Ok text) → NoneMayFail (failing old) (IsReadAt (file name)) (spots_of [] booking) → ((status ≡ 0) × Holds tells (held new) output text) ⊎ (status ≡ 4)
  booked_of_heights name text done asks accepted none = booked_as Heights name text accepted none (ran tells held has_failed failing old new status words (book_of_heights name) done asks)

  pub mended : (changes name text : List ℕ) → AreDone tells held has_failed failing old new words status → AskFor words (mend changes name)
      → mended_owed (held old) None changes name ≡ Some (Ok text) → NoneMayFail (failing old) (IsInMending changes name) (spots_of [] booking) → ((status ≡ 0) × Holds tells (held new) output text) ⊎ (status ≡ 4)
  mended changes name text done asks accepted none =
      made_as IsOfMending (λ answer. mended_owed (held old) answer changes name) (IsInMending changes name) text (λ which named. named)
      (λ own failed. ap₂ owed_for_mended (from_same (held old) own failed input.Changes (file changes)) (from_same (held old) own failed (input.Book 1) (file name)))
      accepted none (ran tells held has_failed failing old new status words (mend changes name) done asks)
