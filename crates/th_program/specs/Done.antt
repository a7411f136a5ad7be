-- What the program does, in terms of what a folder reports before and after.
use Rattle.th_messages.specs.Said.{IsReported, IsSaid, overwrite_lines}
use Rattle.std.specs.Prelude.{◌⊎◌, ◌≢◌, ◌≡◌, ◌∷◌, [], ℕ, ℤ, Bool, true, false, List, Option, Some, None, Ok, codes, is_some, length, map}
use Rattle.std.specs.List.{Contains}
use Rattle.clap.specs.Words.{kind_of}
use Rattle.clap.specs.declared.error.kind.ErrorKind.TheVariants.{DisplayHelp, DisplayVersion}
use Rattle.th_checker.specs.declared.verdicts.Verdict.{Verdict}
use Rattle.th_observations.specs.Observed.{Observed}
use Rattle.th_devices.specs.Spots.{Spot, errors, file, input, output}
use Rattle.th_devices.specs.Folders.{Failing}
use Rattle.th_network.specs.Networks.{Survey}
use Rattle.th_runs.specs.Paged.{AreOfPage, paging}
use Rattle.th_commands.specs.Asked.{Files}
use Rattle.th_commands.specs.Plans.{IsFaultOf, IsPlanOf, files}
use Rattle.th_commands.specs.declared.faults.PlanFault.{PlanFault}
use Rattle.th_commands.specs.declared.faults.PlanFault.TheVariants as fault
use Rattle.th_commands.specs.declared.plans.Plan.{Plan}
use Rattle.th_commands.specs.declared.plans.Plan.TheVariants as plan
use Rattle.th_report.specs.Lists.{list_text}
use Rattle.th_run_parts.specs.Booked.{IsOfBooking}
use Rattle.th_run_parts.specs.Mended.{IsOfMending}
use Rattle.th_run_parts.specs.declared.conversions.Conversion.{Conversion}
use Rattle.th_run_parts.specs.declared.conversions.Conversion.TheVariants.{Differences, Heights}
use Rattle.th_runs.specs.Adjusted.{AreOfAdjustment, adjusting}
use Rattle.th_runs.specs.Checked.{IsRight, check_text, checking, verdict_line, verdict_on}
use Rattle.th_runs.specs.Explained.{AreOfExplanation, explaining}
use Rattle.th_run_parts.specs.Inputs.{Claim, IsOwed, MakesNetwork, Meets, MeetsRefusal, Owed}
use Rattle.th_runs.specs.Listed.{IsOfList}
use Rattle.th_runs.specs.Noted.{AreNone}
use Rattle.th_run_parts.specs.Reads.{IsNamed, Run}
use Rattle.th_run_parts.specs.Refusals.{status_of, status_of_verdict}
use Rattle.th_run_parts.specs.Summed.{AreClaimSummed}
use Rattle.th_runs.specs.Reviewed.{AreOfReview, reviewing}
use Rattle.th_run_parts.specs.Writes.{Texts, UnlessWrite}
use Rattle.th_runs.specs.declared.notes.Notes.{Notes}
use Rattle.th_inputs.specs.declared.inputs.Input.{Input}
use Rattle.th_inputs.specs.declared.inputs.Input.TheVariants as source
use Rattle.th_inputs.specs.declared.sums.Sum.{Sum}
use Rattle.th_runs.specs.declared.explaining.Form.{Form}
use Rattle.th_runs.specs.declared.explaining.Form.TheVariants as form
use Rattle.th_run_parts.specs.declared.outputs.Output.{Output}
use Rattle.th_run_parts.specs.declared.outputs.Output.TheVariants as out
use Rattle.th_run_parts.specs.declared.refusals.Refusal.{Refusal}
use Rattle.th_run_parts.specs.declared.refusals.Refusal.TheVariants as refusal
use Rattle.th_program.specs.Failing.{HasCause, IsInClaim, IsInFiles, IsInMending, Origins}
use Rattle.th_program.specs.Noted.{AreNotesOf}
use Rattle.th_messages.specs.Noted.{notes_lines}
use Rattle.th_files.specs.Outputs.{AreLeft, Holds, HoldsPart, spots_of}
use Rattle.th_files.specs.Owed.{HasName, Told, all_names, book_owed, claim_names, claim_owed, converted_owed, mended_owed, survey_owed, tolds_in}

-- standard output has the list of the book at this spot
pub record IsListed (tells : Bool) (old new : Told) (book : Spot) : Type 0 where
  pub observations : List Observed
  pub given : Meets (book_owed old None book) (Ok observations)
  pub listed : Holds tells new output (list_text observations)

-- standard output has the book that must be returned
pub record HoldsBook (tells : Bool) (new : Told) (owed : Owed (List ℕ)) : Type 0 where
  pub book : List ℕ
  pub given : Meets owed (Ok book)
  pub booked : Holds tells new output book

-- it has the book that the file of this name becomes, and the mended book of the files of these names
abbrev pub IsBooked : Bool → Told → Told → Conversion → List ℕ → Type 0
IsBooked tells old new conversion name = HoldsBook tells new (converted_owed old None conversion name)

abbrev pub IsMended : Bool → Told → Told → List ℕ → List ℕ → Type 0
IsMended tells old new changes book = HoldsBook tells new (mended_owed old None changes book)

-- The files of these outputs have texts of the survey in the named files: all of them, if there is no refusal. If a write failed, all files are unchanged;
-- or one could not take its name, those before it are complete, and its own and those after it are unchanged.
pub record IsPrinted (tells : Bool) (old new : Told) (from : Files) (prefix : List ℕ) (outputs : List Output) (AreOf : Survey → Texts → Type 0)
    (answer : Option Refusal) : Type 0 where
  pub survey : Survey
  pub texts : Texts
  pub given : Meets (survey_owed old answer from) (Ok survey)
  pub network : MakesNetwork survey
  pub printed : AreOf survey texts
  pub left : AreLeft tells old new answer texts (spots_of prefix outputs)

-- the files of an adjustment have its texts
abbrev pub IsAdjusted : Bool → Told → Told → Files → ℤ → List ℕ → Option Refusal → Type 0
IsAdjusted tells old new from limit prefix = IsPrinted tells old new from prefix adjusting.outputs (AreOfAdjustment limit)

-- the files of a review have its texts: of the survey in the named files, of what else their books contain, and of the names and sums of all these files
abbrev pub IsReviewed : Bool → Told → Told → Files → ℤ → List ℕ → Option Refusal → Type 0
IsReviewed tells old new from limit prefix =
    IsPrinted tells old new from prefix reviewing.outputs (AreOfReview (all_names from) (tolds_in old from) limit)

-- the file of a page has its text: with this title, of the survey in the named files, of what else their books contain, and of the names and sums of all these files
abbrev pub IsPagedFile : Bool → Told → Told → Files → ℤ → List ℕ → List ℕ → Option Refusal → Type 0
IsPagedFile tells old new from limit prefix title =
    IsPrinted tells old new from prefix paging.outputs (AreOfPage title (all_names from) (tolds_in old from) limit)

-- the form in which a plan requests explanations
abbrev pub form_of : Bool → Form
form_of true = form.Table
form_of false = form.Text

-- standard output has the text of an explanation: of the survey in the named files, and of what else their books contain
pub record IsExplained (tells : Bool) (old new : Told) (from : Files) (limit : ℤ) (wanted : Form) : Type 0 where
  pub survey : Survey
  pub text : List ℕ
  pub given : Meets (survey_owed old None from) (Ok survey)
  pub network : MakesNetwork survey
  pub explained : AreOfExplanation (map (λ name. old (file name)) from.books) limit wanted survey ((out.Explanations, text) ∷ [])
  pub printed : Holds tells new output text

-- standard output has the line of the verdict on the claim in the named files, and a `yes` is right
pub record IsChecked (tells : Bool) (old new : Told) (from : Files) (certificate : List ℕ) (verdict : Verdict) : Type 0 where
  pub claim : Claim
  pub given : Meets (claim_owed old None from certificate) (Ok claim)
  pub network : MakesNetwork claim.survey
  pub answered : verdict ≡ verdict_on claim
  pub line : Holds tells new output (verdict_line verdict)
  pub right : status_of_verdict verdict ≡ 0 → IsRight claim

-- the same with the line of each file behind a `yes`, the certificate last: its name, and the sum of the bytes that were read
pub record IsCheckedInputs (tells : Bool) (old new : Told) (from : Files) (certificate : List ℕ) (verdict : Verdict) : Type 0 where
  pub claim : Claim
  pub sums : List Sum
  pub given : Meets (claim_owed old None from certificate) (Ok claim)
  pub network : MakesNetwork claim.survey
  pub answered : verdict ≡ verdict_on claim
  pub summed : AreClaimSummed (tolds_in old from) (old (file certificate)) sums
  pub text : Holds tells new output (check_text (Some (claim_names from certificate)) sums verdict)
  pub right : status_of_verdict verdict ≡ 0 → IsRight claim

-- a check was done in the form that a plan requests
abbrev pub IsCheckedAs : Bool → Bool → Told → Told → Files → List ℕ → Verdict → Type 0
IsCheckedAs false = IsChecked
IsCheckedAs true = IsCheckedInputs

-- what a plan requests was done, with this status
abbrev pub IsDone : Bool → Told → Told → Plan → ℕ → Type 0
IsDone tells old new plan.Standard status = (status ≡ 0) × IsListed tells old new input
IsDone tells old new (plan.List book) status = (status ≡ 0) × IsListed tells old new (file book.now)
IsDone tells old new (plan.Adjust inputs limit prefix) status = (status ≡ 0) × IsAdjusted tells old new (files inputs) limit prefix.now None
IsDone tells old new (plan.Review inputs limit prefix) status = (status ≡ 0) × IsReviewed tells old new (files inputs) limit prefix.now None
IsDone tells old new (plan.Explain inputs limit table) status = (status ≡ 0) × IsExplained tells old new (files inputs) limit (form_of table)
IsDone tells old new (plan.Page inputs limit prefix title) status = (status ≡ 0) × IsPagedFile tells old new (files inputs) limit prefix.now title.now None
IsDone tells old new (plan.Check inputs certificate with_inputs) status =
    (verdict : Verdict) × (status ≡ status_of_verdict verdict) × IsCheckedAs with_inputs tells old new (files inputs) certificate.now verdict
IsDone tells old new (plan.Book table) status = (status ≡ 0) × IsBooked tells old new Differences table.now
IsDone tells old new (plan.BookOfHeights book) status = (status ≡ 0) × IsBooked tells old new Heights book.now
IsDone tells old new (plan.Mend changes book) status = (status ≡ 0) × IsMended tells old new changes.now book.now

-- an output was not written
abbrev pub IsWrite : Refusal → Type 0
IsWrite (refusal.Write which) = Unit {0}
IsWrite other = ⊥

-- The refusal of a list of the book at this spot. It names the book or the list. Unless it
-- is a failed write, it is the one that the run must return for the book. If it blames a device, that one may fail.
pub record IsRefusedList (failing : Failing) (old : Told) (book : Spot) (own : Refusal) : Type 0 where
  pub named : IsOfList own
  pub owes : UnlessWrite own (MeetsRefusal (book_owed old (Some own) book) own)
  pub cause : HasCause failing (λ which spot. spot ≡ book) [] own

-- The refusal of a run that makes a book, whose inputs are at these spots. It names a device of the run. Unless it is a failed write, it is the one that
-- must be returned. If it blames a device, that one may fail.
pub record IsRefusedBooking (Named : Refusal → Type 0) (owed : Owed (List ℕ)) (failing : Failing) (origins : Origins) (own : Refusal) : Type 0 where
  pub named : Named own
  pub owes : UnlessWrite own (MeetsRefusal owed own)
  pub cause : HasCause failing origins [] own

-- of the book that the file of this name becomes, and of the mended book of the files of these names
abbrev pub IsRefusedBook : Failing → Told → Conversion → List ℕ → Refusal → Type 0
IsRefusedBook failing old conversion name own =
    IsRefusedBooking (IsOfBooking conversion) (converted_owed old (Some own) conversion name) failing (λ which spot. spot ≡ file name) own

abbrev pub IsRefusedMend : Failing → Told → List ℕ → List ℕ → Refusal → Type 0
IsRefusedMend failing old changes book own = IsRefusedBooking IsOfMending (mended_owed old (Some own) changes book) failing (IsInMending changes book) own

-- The refusal of a run over the named files. It names a device of this run. Unless it is a failed write, it is the one
-- that the run must return for its inputs; after a failed write, `HasLeft` says what the outputs have. If it blames a device, it has a cause.
pub record IsRefusedFor {X : Type 0} (run : Run) (from : Files) (survey_of : X → Survey) (owed : Owed X) (HasLeft : Option Refusal → Type 0) (Caused : Refusal → Type 0)
    (own : Refusal) : Type 0 where
  pub named : IsNamed (length from.books) (is_some from.weights) run own
  pub owes : UnlessWrite own (IsOwed survey_of owed own)
  pub left : IsWrite own → HasLeft (Some own)
  pub cause : Caused own

-- the refusal of an adjustment, of a review, of an explanation, of a page, and of a check
abbrev pub IsRefusedAdjust : Bool → Failing → Told → Told → Files → ℤ → List ℕ → Refusal → Type 0
IsRefusedAdjust tells failing old new from limit prefix own =
    IsRefusedFor adjusting from (λ survey. survey) (survey_owed old (Some own) from) (IsAdjusted tells old new from limit prefix)
    (HasCause failing (IsInFiles from) prefix) own

abbrev pub IsRefusedReview : Bool → Failing → Told → Told → Files → ℤ → List ℕ → Refusal → Type 0
IsRefusedReview tells failing old new from limit prefix own =
    IsRefusedFor reviewing from (λ survey. survey) (survey_owed old (Some own) from) (IsReviewed tells old new from limit prefix)
    (HasCause failing (IsInFiles from) prefix) own

abbrev pub IsRefusedExplain : Failing → Told → Files → Refusal → Type 0
IsRefusedExplain failing old from own =
    IsRefusedFor explaining from (λ survey. survey) (survey_owed old (Some own) from) (λ answer. Unit {0})
    (HasCause failing (IsInFiles from) []) own

abbrev pub IsRefusedPage : Bool → Failing → Told → Told → Files → ℤ → List ℕ → List ℕ → Refusal → Type 0
IsRefusedPage tells failing old new from limit prefix title own =
    IsRefusedFor paging from (λ survey. survey) (survey_owed old (Some own) from) (IsPagedFile tells old new from limit prefix title)
    (HasCause failing (IsInFiles from) prefix) own

abbrev pub IsRefusedCheck : Failing → Told → Files → List ℕ → Refusal → Type 0
IsRefusedCheck failing old from certificate own =
    IsRefusedFor checking from (λ claim. claim.survey) (claim_owed old (Some own) from certificate) (λ answer. Unit {0})
    (HasCause failing (IsInClaim from certificate) []) own

-- the refusal of what a plan requests: the one that it must return for the bytes at its inputs, as far as the folder reports them
abbrev pub IsRefused : Bool → Failing → Told → Told → Plan → Refusal → Type 0
IsRefused tells failing old new plan.Standard own = IsRefusedList failing old input own
IsRefused tells failing old new (plan.List book) own = IsRefusedList failing old (file book.now) own
IsRefused tells failing old new (plan.Adjust inputs limit prefix) own = IsRefusedAdjust tells failing old new (files inputs) limit prefix.now own
IsRefused tells failing old new (plan.Review inputs limit prefix) own = IsRefusedReview tells failing old new (files inputs) limit prefix.now own
IsRefused tells failing old new (plan.Explain inputs limit table) own = IsRefusedExplain failing old (files inputs) own
IsRefused tells failing old new (plan.Page inputs limit prefix title) own = IsRefusedPage tells failing old new (files inputs) limit prefix.now title.now own
IsRefused tells failing old new (plan.Check inputs certificate with_inputs) own = IsRefusedCheck failing old (files inputs) certificate.now own
IsRefused tells failing old new (plan.Book table) own = IsRefusedBook failing old Differences table.now own
IsRefused tells failing old new (plan.BookOfHeights book) own = IsRefusedBook failing old Heights book.now own
IsRefused tells failing old new (plan.Mend changes book) own = IsRefusedMend failing old changes.now book.now own

-- Standard output has a beginning of the list of the book at this spot, after a refusal; and the same of the book that a file becomes, of a mended book, of
-- the text of an explanation, and of what a check prints.
abbrev pub IsCutList : Bool → Told → Told → Spot → Refusal → Type 0
IsCutList tells old new book own =
    (observations : List Observed) × Meets (book_owed old (Some own) book) (Ok observations) × HoldsPart tells new (list_text observations)

abbrev pub HoldsPartOfBook : Bool → Told → Owed (List ℕ) → Type 0
HoldsPartOfBook tells new owed = (book : List ℕ) × Meets owed (Ok book) × HoldsPart tells new book

abbrev pub IsCutBook : Bool → Told → Told → Conversion → List ℕ → Refusal → Type 0
IsCutBook tells old new conversion name own = HoldsPartOfBook tells new (converted_owed old (Some own) conversion name)

abbrev pub IsCutMend : Bool → Told → Told → List ℕ → List ℕ → Refusal → Type 0
IsCutMend tells old new changes book own = HoldsPartOfBook tells new (mended_owed old (Some own) changes book)

abbrev pub IsCutExplanation : Bool → Told → Told → Files → ℤ → Form → Refusal → Type 0
IsCutExplanation tells old new from limit wanted own =
    (survey : Survey) × (text : List ℕ) × Meets (survey_owed old (Some own) from) (Ok survey)
    × AreOfExplanation (map (λ name. old (file name)) from.books) limit wanted survey ((out.Explanations, text) ∷ []) × HoldsPart tells new text

abbrev pub IsCutVerdict : Bool → Bool → Told → Told → Files → List ℕ → Refusal → Type 0
IsCutVerdict false tells old new from certificate own =
    (claim : Claim) × Meets (claim_owed old (Some own) from certificate) (Ok claim) × HoldsPart tells new (verdict_line (verdict_on claim))
IsCutVerdict true tells old new from certificate own =
    (claim : Claim) × (sums : List Sum) × Meets (claim_owed old (Some own) from certificate) (Ok claim)
    × AreClaimSummed (tolds_in old from) (old (file certificate)) sums × HoldsPart tells new (check_text (Some (claim_names from certificate)) sums (verdict_on claim))

-- what standard output has of what a plan prints there, after a refusal
abbrev pub IsCut : Bool → Told → Told → Plan → Refusal → Type 0
IsCut tells old new plan.Standard own = IsCutList tells old new input own
IsCut tells old new (plan.List book) own = IsCutList tells old new (file book.now) own
IsCut tells old new (plan.Explain inputs limit table) own = IsCutExplanation tells old new (files inputs) limit (form_of table) own
IsCut tells old new (plan.Check inputs certificate with_inputs) own = IsCutVerdict with_inputs tells old new (files inputs) certificate.now own
IsCut tells old new (plan.Book table) own = IsCutBook tells old new Differences table.now own
IsCut tells old new (plan.BookOfHeights book) own = IsCutBook tells old new Heights book.now own
IsCut tells old new (plan.Mend changes book) own = IsCutMend tells old new changes.now book.now own
IsCut tells old new other own = Unit {0}

-- the spots that an adjustment with this prefix writes to, those of a review, and that of a page
abbrev pub IsAdjustOutput : List ℕ → Spot → Type 0
IsAdjustOutput prefix spot = Contains (spots_of prefix adjusting.outputs) spot

abbrev pub IsReviewOutput : List ℕ → Spot → Type 0
IsReviewOutput prefix spot = Contains (spots_of prefix reviewing.outputs) spot

abbrev pub IsPageOutput : List ℕ → Spot → Type 0
IsPageOutput prefix spot = Contains (spots_of prefix paging.outputs) spot

-- a plan writes to this spot
abbrev pub IsOutputOf : Plan → Spot → Type 0
IsOutputOf (plan.Adjust inputs limit prefix) spot = IsAdjustOutput prefix.now spot
IsOutputOf (plan.Review inputs limit prefix) spot = IsReviewOutput prefix.now spot
IsOutputOf (plan.Page inputs limit prefix title) spot = IsPageOutput prefix.now spot
IsOutputOf other spot = spot ≡ output

-- a plan reads this input from the file of this name
abbrev pub IsInputOf : Plan → Input → List ℕ → Type 0
IsInputOf plan.Standard which name = ⊥
IsInputOf (plan.List book) which name = (which ≡ source.Book 1) × (name ≡ book.now)
IsInputOf (plan.Adjust inputs limit prefix) which name = HasName (files inputs) which name
IsInputOf (plan.Review inputs limit prefix) which name = HasName (files inputs) which name
IsInputOf (plan.Explain inputs limit table) which name = HasName (files inputs) which name
IsInputOf (plan.Page inputs limit prefix title) which name = HasName (files inputs) which name
IsInputOf (plan.Check inputs certificate with_inputs) which name = HasName (files inputs) which name ⊎ ((which ≡ source.Certificate) × (name ≡ certificate.now))
IsInputOf (plan.Book table) which name = (which ≡ source.Differences) × (name ≡ table.now)
IsInputOf (plan.BookOfHeights book) which name = (which ≡ source.Book 1) × (name ≡ book.now)
IsInputOf (plan.Mend changes book) which name = ((which ≡ source.Changes) × (name ≡ changes.now)) ⊎ ((which ≡ source.Book 1) × (name ≡ book.now))

-- no file that a plan writes is one that it reads
abbrev pub KeepsInputs : Plan → Type 0
KeepsInputs asked = (which : Input) (name : List ℕ) → IsInputOf asked which name → IsOutputOf asked (file name) → ⊥

-- A file that a plan would write, and an input of the plan that this would change. If the folder reports its bytes, the
-- input has the name of that file. The system's folder also finds other names of the input's file.
pub record WouldOverwrite (tells : Bool) (asked : Plan) (written : List ℕ) (which : Input) (name : List ℕ) : Type 0 where
  pub is_written : IsOutputOf asked (file written)
  pub is_read : IsInputOf asked which name
  pub same : tells ≡ true → written ≡ name

-- A plan was refused: the status is that of the refusal, and unless standard error failed, its lines are
-- there. Only standard error changes, and after a failed write the plan's outputs too: standard output then has a beginning of what the plan prints there.
pub record IsRefusedRun {F : Type 0} (tells : Bool) (held : F → Told) (has_failed : F → Spot → Bool) (failing : F → Failing) (old new : F) (asked : Plan) (status : ℕ) (own : Refusal) : Type 0 where
  pub refused : IsRefused tells (failing old) (held old) (held new) asked own
  pub status_is : status ≡ status_of own
  pub reported : has_failed new errors ≡ false → IsReported tells (held new) asked own
  pub untouched : UnlessWrite own ((spot : Spot) → spot ≢ errors → held new spot ≡ held old spot)
  pub left : IsWrite own → IsCut tells (held old) (held new) asked own
  pub others : (spot : Spot) → spot ≢ errors → (IsOutputOf asked spot → ⊥) → held new spot ≡ held old spot

-- A plan was done, and these are its notes: unless standard error failed, just their lines are there. Without a note it is unchanged. No other spot changed but those
-- of the plan's outputs.
pub record IsDoneRun {F : Type 0} (tells : Bool) (held : F → Told) (has_failed : F → Spot → Bool) (old new : F) (asked : Plan) (status : ℕ) : Type 0 where
  pub done : IsDone tells (held old) (held new) asked status
  pub notes : Notes
  pub of_plan : AreNotesOf (held old) asked notes
  pub silent : AreNone notes → held new errors ≡ held old errors
  pub noted : (AreNone notes → ⊥) → has_failed new errors ≡ false → Holds tells (held new) errors (notes_lines notes)
  pub others : (spot : Spot) → spot ≢ errors → (IsOutputOf asked spot → ⊥) → held new spot ≡ held old spot

-- a plan was carried out: it was done, or it was refused
abbrev pub IsCarriedOut : {F : Type 0} → Bool → (F → Told) → (F → Spot → Bool) → (F → Failing) → F → F → Plan → ℕ → Type 0
IsCarriedOut tells held has_failed failing old new asked status =
    IsDoneRun tells held has_failed old new asked status ⊎ ((own : Refusal) × IsRefusedRun tells held has_failed failing old new asked status own)

-- a plan was not begun: this is on standard error, unless that failed, and nothing else changed
pub record IsNotBegun {F : Type 0} (tells : Bool) (held : F → Told) (has_failed : F → Spot → Bool) (old new : F) (line : List ℕ) : Type 0 where
  pub reported : has_failed new errors ≡ false → IsSaid tells (held new) line
  pub untouched : (spot : Spot) → spot ≢ errors → held new spot ≡ held old spot

-- A plan was run. Either it was carried out, and none of its outputs is an input if the folder reports its bytes. Or it
-- was not begun: with status 3 since it would overwrite an input, or with status 4 since memory ran out.
abbrev pub IsRun : {F : Type 0} → Bool → (F → Told) → (F → Spot → Bool) → (F → Failing) → F → F → Plan → ℕ → Type 0
IsRun tells held has_failed failing old new asked status =
    ((tells ≡ true → KeepsInputs asked) × IsCarriedOut tells held has_failed failing old new asked status)
    ⊎ ((status ≡ 3) × ((written : List ℕ) × (which : Input) × (name : List ℕ) × WouldOverwrite tells asked written which name
    × IsNotBegun tells held has_failed old new (overwrite_lines written which name)))
    ⊎ ((status ≡ 4) × IsNotBegun tells held has_failed old new (codes "out of memory"))

-- the status after arguments that are no plan: 4 if memory ran out, else 3
abbrev pub status_of_fault : PlanFault → ℕ
status_of_fault fault.NoMemory = 4
status_of_fault other = 3

-- a fault that is no request for help or for the version, whose texts go to standard output
abbrev pub IsNoHelp : PlanFault → Type 0
IsNoHelp (fault.Line error) = (kind_of error ≢ DisplayHelp) × (kind_of error ≢ DisplayVersion)
IsNoHelp other = Unit {0}

-- Arguments that are no plan give the status of their fault. A fault changes nothing but standard
-- error; help and the version change nothing but standard error and standard output.
pub record IsUsage {F : Type 0} (held : F → Told) (old new : F) (own : PlanFault) (status : ℕ) : Type 0 where
  pub status_is : status ≡ status_of_fault own
  pub fault : IsNoHelp own → (spot : Spot) → spot ≢ errors → held new spot ≡ held old spot
  pub others : (spot : Spot) → spot ≢ errors → spot ≢ output → held new spot ≡ held old spot

-- the program did what the arguments request, the program's name first: it ran their plan, or they are no plan and it reported why
abbrev pub AreDone : {F : Type 0} → Bool → (F → Told) → (F → Spot → Bool) → (F → Failing) → F → F → List (List ℕ) → ℕ → Type 0
AreDone tells held has_failed failing old new words status =
    ((asked : Plan) × IsPlanOf words asked × IsRun tells held has_failed failing old new asked status)
    ⊎ ((own : PlanFault) × IsFaultOf words own × IsUsage held old new own status)
