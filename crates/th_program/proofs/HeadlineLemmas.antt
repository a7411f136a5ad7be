-- What the promise of the program comes to where its inputs are accepted.
use Rattle.std.proofs.Common.{◌≡◌, ◌≤◌, ◌+◌, ◌⊎◌, ◌∷◌, ℕ, ℤ, Bool, true, false, List, [], Some, None, Ok, Err, refl, ap, ap₂, sym, subst, ◌∙◌, inl, inr, arith}
use Rattle.std.specs.Prelude.{Option, option_map}
use Rattle.std.specs.List.{Contains}
use Rattle.clap.specs.Words.{IsAmong, fault_of, kind_of}
use Rattle.th_certificate.specs.Certified.{Certified}
use Rattle.th_checker.specs.declared.verdicts.Verdict.{Verdict}
use Rattle.th_checker.specs.declared.verdicts.Verdict.TheVariants.{Yes}
use Rattle.th_devices.specs.Spots.{Spot, file, output}
use Rattle.th_devices.specs.Folders.{Failing}
use Rattle.th_network.specs.Networks.{Survey}
use Rattle.th_commands.specs.Asked.{Asked, Files, adjust, check}
use Rattle.th_commands.specs.Plans.{AreTaken, IsFaultOf, IsPlanOf, argument_fault, asked, said_by}
use Rattle.th_commands.specs.Commands.{command_line}
use Rattle.th_commands.specs.declared.faults.PlanFault.{PlanFault}
use Rattle.th_commands.specs.declared.faults.PlanFault.TheVariants as fault
use Rattle.th_commands.specs.declared.plans.Plan.{Plan}
use Rattle.th_commands.specs.declared.plans.Plan.TheVariants as plan
use Rattle.th_files.proofs.OpenedLemmas.{owed-same}
use Rattle.th_files.proofs.OutputLemmas.{spot_among}
use Rattle.th_program.specs.Done.{AreDone, IsAdjustOutput, IsAdjusted, IsChecked, IsRefusedAdjust, IsRefusedCheck, IsRun, IsUsage}
use Rattle.th_program.specs.Failing.{IsInClaim, IsInFiles, Origins}
use Rattle.th_program.specs.Headline.{AskFor, IsAccepted, IsEndedAdjust, IsEndedCheck, IsUnlucky, SomeMayFail, SparesInputs}
use Rattle.th_files.specs.Outputs.{spot_at, spots_of}
use Rattle.th_files.specs.Owed.{Told, claim_owed, given_by, given_by_books, survey_owed}
use Rattle.th_runs.specs.Adjusted.{AreOutputs, OutTexts, adjusting}
use Rattle.th_runs.specs.Checked.{IsRight, IsVerdictOn, checking, verdict_on}
use Rattle.th_run_parts.specs.Inputs.{Claim, Given, IsOwed, MakesNetwork, Meets, Owed, Text, Untold, and_then, given_at, owed_for_certificate, owed_for_claim, owed_for_survey}
use Rattle.th_run_parts.specs.Outputs.{ending_of}
use Rattle.th_run_parts.specs.Reads.{failed_reads_of}
use Rattle.th_run_parts.specs.Refusals.{status_of, status_of_verdict}
use Rattle.th_inputs.specs.declared.inputs.Input.{Input}
use Rattle.th_inputs.specs.declared.inputs.Input.TheVariants as input
use Rattle.th_run_parts.specs.declared.outputs.Output.{Output}
use Rattle.th_run_parts.specs.declared.refusals.Refusal.{Refusal}
use Rattle.th_run_parts.specs.declared.refusals.Refusal.TheVariants as refusal

-- what a plan is that says what the words ask for; standard input is listed for no words at all
said_is : (words : List (List ℕ)) (own : Plan) (wanted : Asked) → IsPlanOf words own → AskFor words wanted → said_by own ≡ Some wanted
said_is words plan.Standard wanted is asks = absurd (omega (arith, is, asks.0))
said_is words (plan.List book) wanted is asks = sym is.2 ∙ asks.2
said_is words (plan.Adjust inputs limit prefix) wanted is asks = sym is.2 ∙ asks.2
said_is words (plan.Review inputs limit prefix) wanted is asks = sym is.2 ∙ asks.2
said_is words (plan.Explain inputs limit table) wanted is asks = sym is.2 ∙ asks.2
said_is words (plan.Page inputs limit prefix title) wanted is asks = sym is.2 ∙ asks.2
said_is words (plan.Check inputs certificate with_inputs) wanted is asks = sym is.2 ∙ asks.2
said_is words (plan.Book table) wanted is asks = sym is.2 ∙ asks.2
said_is words (plan.BookOfHeights book) wanted is asks = sym is.2 ∙ asks.2
said_is words (plan.Mend changes book) wanted is asks = sym is.2 ∙ asks.2

-- words that ask for something have no fault but that there is no memory
only_memory : {F : Type 0} (held : F → Told) (old new : F) (words : List (List ℕ)) (own : PlanFault) (status : ℕ) (wanted : Asked)
    → IsFaultOf words own → AskFor words wanted → IsUsage held old new own status → status ≡ 4
only_memory held old new words (fault.Line error) status wanted is asks usage = absurd (by is.2)
  where
    by : IsAmong (kind_of error) (fault_of command_line words) ⊎ (AreTaken words × (asked words ≡ None) × (argument_fault words ≡ None)) → ⊥
    by (inl among) = subst (IsAmong (kind_of error)) asks.1 among
    by (inr none) =
        let bad : None ≡ Some wanted = sym none.1 ∙ asks.2 in
        cc
only_memory held old new words (fault.Argument fault) status wanted is asks usage =
    let bad : None ≡ Some wanted = sym is.2 ∙ asks.2 in
    cc
only_memory held old new words fault.NoMemory status wanted is asks usage = usage.status_is

-- no read failed behind a refusal
abbrev pub NoneFailed : Refusal → Type 0
NoneFailed own = (which : Input) → failed_reads_of which (Some own) ≡ 0

given_same : (told : Told) (own : Refusal) → NoneFailed own → (which : Input) (name : List ℕ) → given_by told (Some own) which name ≡ given_by told None which name
given_same told own none which name = ap (λ (failed : ℕ). given_at 0 failed (told (file name))) (none which)

books_same : (told : Told) (own : Refusal) → NoneFailed own → (number : ℕ) (names : List (List ℕ))
    → given_by_books told (Some own) number names ≡ given_by_books told None number names
books_same told own none number [] = refl
books_same told own none number (name ∷ names) =
    ap₂ (λ (book : Given) (books : List Given). book ∷ books) (given_same told own none (input.Book number) name) (books_same told own none (number + 1) names)

weights_same : (told : Told) (own : Refusal) → NoneFailed own → (weights : Option (List ℕ))
    → option_map (given_by told (Some own) input.Weights) weights ≡ option_map (given_by told None input.Weights) weights
weights_same told own none None = refl
weights_same told own none (Some name) = ap Some (given_same told own none input.Weights name)

-- so what is owed is what is owed to a run with no refusal
pub survey_same : (told : Told) (own : Refusal) → NoneFailed own → (from : Files) → survey_owed told (Some own) from ≡ survey_owed told None from
survey_same told own none from =
    owed-same _ _ _ _ _ _ (books_same told own none 1 from.books) (given_same told own none input.Benchmarks from.benchmarks) (weights_same told own none from.weights)

claim_same : (told : Told) (own : Refusal) → NoneFailed own → (from : Files) (certificate : List ℕ)
    → claim_owed told (Some own) from certificate ≡ claim_owed told None from certificate
claim_same told own none from certificate =
    ap (λ (books : List Given). owed_for_claim books (given_by told (Some own) input.Benchmarks from.benchmarks) (option_map (given_by told (Some own) input.Weights) from.weights) (given_by told (Some own) input.Certificate certificate))
    (books_same told own none 1 from.books)
    ∙ ap (λ (benchmarks : Given). owed_for_claim (given_by_books told None 1 from.books) benchmarks (option_map (given_by told (Some own) input.Weights) from.weights) (given_by told (Some own) input.Certificate certificate))
    (given_same told own none input.Benchmarks from.benchmarks)
    ∙ ap (λ (weights : Option Given). owed_for_claim (given_by_books told None 1 from.books) (given_by told None input.Benchmarks from.benchmarks) weights (given_by told (Some own) input.Certificate certificate))
    (weights_same told own none from.weights)
    ∙ ap (λ (stated : Given). owed_for_claim (given_by_books told None 1 from.books) (given_by told None input.Benchmarks from.benchmarks) (option_map (given_by told None input.Weights) from.weights) stated)
    (given_same told own none input.Certificate certificate)

-- inputs that are accepted are refused for memory alone
abbrev RefusesForMemory : Type 0
RefusesForMemory = (owed : Owed Survey) (survey : Survey) (own : Refusal) → owed ≡ Some (Ok survey) → MakesNetwork survey → IsOwed (λ survey. survey) owed own
    → own ≡ refusal.NoMemory

abbrev RefusesClaimsForMemory : Type 0
RefusesClaimsForMemory = (owed : Owed Claim) (claim : Claim) (own : Refusal) → owed ≡ Some (Ok claim) → MakesNetwork claim.survey
    → IsOwed (λ claim. claim.survey) owed own → own ≡ refusal.NoMemory

-- so a refusal that is owed has the status of memory, unless a device failed
by_status : (MayFail : Type 0) (own : Refusal) (status : ℕ) → status ≡ status_of own → own ≡ refusal.NoMemory → IsUnlucky MayFail status
by_status MayFail own status is memory = inl (is ∙ ap status_of memory)

-- an output of a run that may fail is at one of its spots
output_may_fail : (failing : Failing) (origins : Origins) (prefix : List ℕ) (outputs : List Output) (which : Output) → Contains outputs which
    → failing.writing (spot_at prefix (ending_of which)) ≡ true → SomeMayFail failing origins (spots_of prefix outputs)
output_may_fail failing origins prefix outputs which (place, within, there) may =
    inr (
      spot_at prefix (ending_of which),
      subst (λ (own : Output). Contains (spots_of prefix outputs) (spot_at prefix (ending_of own))) there (spot_among prefix outputs place which within),
      may,
    )

-- what may fail of an adjustment, and of a check
abbrev AdjustMayFail : Failing → Files → List ℕ → Type 0
AdjustMayFail failing from prefix = SomeMayFail failing (IsInFiles from) (spots_of prefix adjusting.outputs)

abbrev CheckMayFail : Failing → Files → List ℕ → Type 0
CheckMayFail failing from certificate = SomeMayFail failing (IsInClaim from certificate) (spots_of [] checking.outputs)

unlucky : RefusesForMemory → (tells : Bool) (failing : Failing) (old new : Told) (from : Files) (limit : ℤ) (prefix : List ℕ) (survey : Survey) (own : Refusal) (status : ℕ)
    → IsAccepted old from survey → status ≡ status_of own → IsRefusedAdjust tells failing old new from limit prefix own
    → IsUnlucky (AdjustMayFail failing from prefix) status
unlucky law tells failing old new from limit prefix survey (refusal.Write which) status accepted is refused =
    inr (is, output_may_fail failing (IsInFiles from) prefix adjusting.outputs which refused.named refused.cause)
unlucky law tells failing old new from limit prefix survey (refusal.Read which) status accepted is refused = inr (is, inl (which, refused.cause.0, refused.cause.1, refused.cause.2))
unlucky law tells failing old new from limit prefix survey refusal.NoMemory status accepted is refused = inl is
unlucky law tells failing old new from limit prefix survey (refusal.Book number fault) status accepted is refused =
    by_status (AdjustMayFail failing from prefix) (refusal.Book number fault) status is (law (survey_owed old (Some (refusal.Book number fault)) from) survey (refusal.Book number fault) (survey_same old (refusal.Book number fault) (λ which. refl) from ∙ accepted.given) accepted.network refused.owes)
unlucky law tells failing old new from limit prefix survey (refusal.Benchmarks fault) status accepted is refused =
    by_status (AdjustMayFail failing from prefix) (refusal.Benchmarks fault) status is (law (survey_owed old (Some (refusal.Benchmarks fault)) from) survey (refusal.Benchmarks fault) (survey_same old (refusal.Benchmarks fault) (λ which. refl) from ∙ accepted.given) accepted.network refused.owes)
unlucky law tells failing old new from limit prefix survey (refusal.Weights fault) status accepted is refused =
    by_status (AdjustMayFail failing from prefix) (refusal.Weights fault) status is (law (survey_owed old (Some (refusal.Weights fault)) from) survey (refusal.Weights fault) (survey_same old (refusal.Weights fault) (λ which. refl) from ∙ accepted.given) accepted.network refused.owes)
unlucky law tells failing old new from limit prefix survey (refusal.Certificate fault) status accepted is refused =
    by_status (AdjustMayFail failing from prefix) (refusal.Certificate fault) status is (law (survey_owed old (Some (refusal.Certificate fault)) from) survey (refusal.Certificate fault) (survey_same old (refusal.Certificate fault) (λ which. refl) from ∙ accepted.given) accepted.network refused.owes)
unlucky law tells failing old new from limit prefix survey (refusal.Differences fault) status accepted is refused =
    by_status (AdjustMayFail failing from prefix) (refusal.Differences fault) status is (law (survey_owed old (Some (refusal.Differences fault)) from) survey (refusal.Differences fault) (survey_same old (refusal.Differences fault) (λ which. refl) from ∙ accepted.given) accepted.network refused.owes)
unlucky law tells failing old new from limit prefix survey (refusal.Heights fault) status accepted is refused =
    by_status (AdjustMayFail failing from prefix) (refusal.Heights fault) status is (law (survey_owed old (Some (refusal.Heights fault)) from) survey (refusal.Heights fault) (survey_same old (refusal.Heights fault) (λ which. refl) from ∙ accepted.given) accepted.network refused.owes)
unlucky law tells failing old new from limit prefix survey (refusal.Changes fault) status accepted is refused =
    by_status (AdjustMayFail failing from prefix) (refusal.Changes fault) status is (law (survey_owed old (Some (refusal.Changes fault)) from) survey (refusal.Changes fault) (survey_same old (refusal.Changes fault) (λ which. refl) from ∙ accepted.given) accepted.network refused.owes)
unlucky law tells failing old new from limit prefix survey (refusal.Unfit fault) status accepted is refused =
    by_status (AdjustMayFail failing from prefix) (refusal.Unfit fault) status is (law (survey_owed old (Some (refusal.Unfit fault)) from) survey (refusal.Unfit fault) (survey_same old (refusal.Unfit fault) (λ which. refl) from ∙ accepted.given) accepted.network refused.owes)
unlucky law tells failing old new from limit prefix survey (refusal.Mended fault) status accepted is refused =
    by_status (AdjustMayFail failing from prefix) (refusal.Mended fault) status is (law (survey_owed old (Some (refusal.Mended fault)) from) survey (refusal.Mended fault) (survey_same old (refusal.Mended fault) (λ which. refl) from ∙ accepted.given) accepted.network refused.owes)
unlucky law tells failing old new from limit prefix survey (refusal.Network fault) status accepted is refused =
    by_status (AdjustMayFail failing from prefix) (refusal.Network fault) status is (law (survey_owed old (Some (refusal.Network fault)) from) survey (refusal.Network fault) (survey_same old (refusal.Network fault) (λ which. refl) from ∙ accepted.given) accepted.network refused.owes)

-- how what was asked for ended; of other commands nothing is said
abbrev EndedAs : Bool → Failing → Told → Told → ℕ → Option Asked → Type 0
EndedAs tells failing old new status (Some (adjust from limit prefix)) = IsEndedAdjust tells failing old new from limit prefix status
EndedAs tells failing old new status (Some (check from certificate)) = IsEndedCheck tells failing old new from certificate status
EndedAs tells failing old new status other = Unit {0}

no_file : (name : List ℕ) → file name ≡ output → ⊥
no_file name e = cc

ended_plan : {F : Type 0} (tells : Bool) (held : F → Told) (has_failed : F → Spot → Bool) (failing : F → Failing) (old new : F) (own : Plan) (status : ℕ)
    → IsRun tells held has_failed failing old new own status → EndedAs tells (failing old) (held old) (held new) status (said_by own)
ended_plan tells held has_failed failing old new plan.Standard status run = tt
ended_plan tells held has_failed failing old new (plan.List book) status run = tt
ended_plan tells held has_failed failing old new (plan.Adjust inputs limit prefix) status (inl (keeps, inl run)) = inl run.done
ended_plan tells held has_failed failing old new (plan.Adjust inputs limit prefix) status (inl (keeps, inr (own, run))) = inr (inl (own, run.status_is, run.refused))
ended_plan tells held has_failed failing old new (plan.Adjust inputs limit prefix) status (inr (inl (is, (written, which, name, would, begun)))) =
    inr (inr (inl (is, λ telling spares. spares which name would.is_read (subst (λ (own : List ℕ). IsAdjustOutput prefix.now (file own)) (would.same telling) would.is_written))))
ended_plan tells held has_failed failing old new (plan.Adjust inputs limit prefix) status (inr (inr (is, begun))) = inr (inr (inr is))
ended_plan tells held has_failed failing old new (plan.Review inputs limit prefix) status run = tt
ended_plan tells held has_failed failing old new (plan.Explain inputs limit table) status run = tt
ended_plan tells held has_failed failing old new (plan.Page inputs limit prefix title) status run = tt
ended_plan tells held has_failed failing old new (plan.Check inputs certificate false) status (inl (keeps, inl run)) = inl run.done
ended_plan tells held has_failed failing old new (plan.Check inputs certificate false) status (inl (keeps, inr (own, run))) = inr (inl (own, run.status_is, run.refused))
ended_plan tells held has_failed failing old new (plan.Check inputs certificate false) status (inr (inl (is, (written, which, name, would, begun)))) =
    absurd (no_file written would.is_written)
ended_plan tells held has_failed failing old new (plan.Check inputs certificate false) status (inr (inr (is, begun))) = inr (inr is)
ended_plan tells held has_failed failing old new (plan.Check inputs certificate true) status run = tt
ended_plan tells held has_failed failing old new (plan.Book table) status run = tt
ended_plan tells held has_failed failing old new (plan.BookOfHeights book) status run = tt
ended_plan tells held has_failed failing old new (plan.Mend changes book) status run = tt

-- a run of arguments that ask for an adjustment, and of those that ask for a check
pub adjust_ended : {F : Type 0} (tells : Bool) (held : F → Told) (has_failed : F → Spot → Bool) (failing : F → Failing) (old new : F) (words : List (List ℕ)) (status : ℕ) (from : Files) (limit : ℤ) (prefix : List ℕ)
    → AreDone tells held has_failed failing old new words status → AskFor words (adjust from limit prefix)
    → IsEndedAdjust tells (failing old) (held old) (held new) from limit prefix status
adjust_ended tells held has_failed failing old new words status from limit prefix (inl (own, is, run)) asks =
    subst (EndedAs tells (failing old) (held old) (held new) status) (said_is words own (adjust from limit prefix) is asks) (ended_plan tells held has_failed failing old new own status run)
adjust_ended tells held has_failed failing old new words status from limit prefix (inr (own, is, usage)) asks =
    inr (inr (inr (only_memory held old new words own status (adjust from limit prefix) is asks usage)))

pub check_ended : {F : Type 0} (tells : Bool) (held : F → Told) (has_failed : F → Spot → Bool) (failing : F → Failing) (old new : F) (words : List (List ℕ)) (status : ℕ) (from : Files) (certificate : List ℕ)
    → AreDone tells held has_failed failing old new words status → AskFor words (check from certificate)
    → IsEndedCheck tells (failing old) (held old) (held new) from certificate status
check_ended tells held has_failed failing old new words status from certificate (inl (own, is, run)) asks =
    subst (EndedAs tells (failing old) (held old) (held new) status) (said_is words own (check from certificate) is asks) (ended_plan tells held has_failed failing old new own status run)
check_ended tells held has_failed failing old new words status from certificate (inr (own, is, usage)) asks =
    inr (inr (only_memory held old new words own status (check from certificate) is asks usage))

-- a folder that tells nothing has no inputs that are known to be accepted
untold_tables : (benchmarks : Given) (weights : Option Given) (survey : Survey) → benchmarks ≡ Untold → owed_for_survey [] benchmarks weights ≡ Some (Ok survey) → ⊥
untold_tables benchmarks weights survey is e =
    let none : None ≡ Some (Ok survey) = rw is at e in
    cc

untold : (told : Told) (from : Files) (survey : Survey) → ((spot : Spot) → told spot ≡ None) → survey_owed told None from ≡ Some (Ok survey) → ⊥
untold told from survey none e = go from.books e
  where
    go : (books : List (List ℕ))
        → owed_for_survey (given_by_books told None 1 books) (given_by told None input.Benchmarks from.benchmarks) (option_map (given_by told None input.Weights) from.weights) ≡ Some (Ok survey) → ⊥
    go [] owed = untold_tables (given_by told None input.Benchmarks from.benchmarks) (option_map (given_by told None input.Weights) from.weights) survey (ap (given_at 0 0) (none (file from.benchmarks))) owed
    go (name ∷ names) owed =
        let nothing : None ≡ Some (Ok survey) = rw (none (file name)) at owed in
        cc

-- an adjustment of inputs that are accepted
pub adjusted : {F : Type 0} (tells : Bool) (held : F → Told) (failing : F → Failing) → ((folder : F) (spot : Spot) → tells ≡ false → held folder spot ≡ None)
    → RefusesForMemory → (old new : F) (status : ℕ) (from : Files) (limit : ℤ) (prefix : List ℕ) (survey : Survey)
    → IsEndedAdjust tells (failing old) (held old) (held new) from limit prefix status → IsAccepted (held old) from survey → SparesInputs from prefix
    → ((status ≡ 0) × IsAdjusted tells (held old) (held new) from limit prefix None) ⊎ IsUnlucky (AdjustMayFail (failing old) from prefix) status
adjusted tells held failing tells_or_not law old new status from limit prefix survey ended accepted spares = by ended
  where
    never : (telling : Bool) → tells ≡ telling → (tells ≡ true → SparesInputs from prefix → ⊥) → ⊥
    never true is stopped = stopped is spares
    never false is stopped = untold (held old) from survey (λ spot. tells_or_not old spot is) accepted.given

    by : IsEndedAdjust tells (failing old) (held old) (held new) from limit prefix status
        → ((status ≡ 0) × IsAdjusted tells (held old) (held new) from limit prefix None) ⊎ IsUnlucky (AdjustMayFail (failing old) from prefix) status
    by (inl well) = inl well
    by (inr (inl (own, is, refused))) = inr (unlucky law tells (failing old) (held old) (held new) from limit prefix survey own status accepted is refused)
    by (inr (inr (inl (is, stopped)))) = absurd (never tells refl stopped)
    by (inr (inr (inr memory))) = inr (inl memory)

-- a check that says yes
pub believed : {F : Type 0} (tells : Bool) (held : F → Told) (failing : F → Failing) (old new : F) (from : Files) (certificate : List ℕ)
    → IsEndedCheck tells (failing old) (held old) (held new) from certificate 0
    → (claim : Claim) × Meets (claim_owed (held old) None from certificate) (Ok claim) × IsRight claim
believed tells held failing old new from certificate ended = by ended
  where
    never : (own : Refusal) → 0 ≡ status_of own → ⊥
    never (refusal.Book number fault) e = omega (arith, e)
    never (refusal.Benchmarks fault) e = omega (arith, e)
    never (refusal.Weights fault) e = omega (arith, e)
    never (refusal.Certificate fault) e = omega (arith, e)
    never (refusal.Differences fault) e = omega (arith, e)
    never (refusal.Heights fault) e = omega (arith, e)
    never (refusal.Changes fault) e = omega (arith, e)
    never (refusal.Unfit fault) e = omega (arith, e)
    never (refusal.Mended fault) e = omega (arith, e)
    never (refusal.Network fault) e = omega (arith, e)
    never (refusal.Read which) e = omega (arith, e)
    never (refusal.Write which) e = omega (arith, e)
    never refusal.NoMemory e = omega (arith, e)

    by : IsEndedCheck tells (failing old) (held old) (held new) from certificate 0
        → (claim : Claim) × Meets (claim_owed (held old) None from certificate) (Ok claim) × IsRight claim
    by (inl (verdict, is, checked)) = (checked.claim, checked.given, checked.right (sym is))
    by (inr (inl (own, is, refused))) = absurd (never own is)
    by (inr (inr memory)) = absurd (omega (arith, memory))

-- the survey of a claim is the one that is owed
claim_on : (survey : Survey) (claim : Claim) (stated : Owed Certified)
    → and_then stated (λ own. Some (Ok (record { survey = survey; certificate = own }))) ≡ Some (Ok claim) → claim.survey ≡ survey
claim_on survey claim None e = cc
claim_on survey claim (Some (Err own)) e = cc
claim_on survey claim (Some (Ok own)) e =
    let same : record { survey = survey; certificate = own } ≡ claim = cc in
    sym (ap (λ (c : Claim). c.survey) same)

survey_of_claim : (books : List Given) (benchmarks : Given) (weights : Option Given) (stated : Given) (survey : Survey) (claim : Claim)
    → owed_for_survey books benchmarks weights ≡ Some (Ok survey) → owed_for_claim books benchmarks weights stated ≡ Some (Ok claim) → claim.survey ≡ survey
survey_of_claim books benchmarks weights stated survey claim is owed =
    claim_on survey claim (owed_for_certificate stated)
    (subst (λ (known : Owed Survey). and_then known (λ own. and_then (owed_for_certificate stated) (λ cert. Some (Ok (record { survey = own; certificate = cert })))) ≡ Some (Ok claim)) is owed)

-- what the printed certificate is owed, and that it is answered with yes
abbrev IsOwedYes : Type 0
IsOwedYes = (books : List Given) (benchmarks : Given) (weights : Option Given) (survey : Survey) (limit : ℤ) (texts : OutTexts)
    → owed_for_survey books benchmarks weights ≡ Some (Ok survey) → AreOutputs survey limit texts
    → (claim : Claim) × (owed_for_claim books benchmarks weights (Text texts.certificate) ≡ Some (Ok claim)) × (verdict_on claim ≡ Yes)

abbrev IsAnsweredYes : Type 0
IsAnsweredYes = (books : List Given) (benchmarks : Given) (weights : Option Given) (survey : Survey) (limit : ℤ) (texts : OutTexts) (claim : Claim) (verdict : Verdict)
    → owed_for_survey books benchmarks weights ≡ Some (Ok survey) → AreOutputs survey limit texts
    → Meets (owed_for_claim books benchmarks weights (Text texts.certificate)) (Ok claim) → IsVerdictOn claim verdict → verdict ≡ Yes

-- a check of a certificate that was printed
abbrev claimed : Told → Files → Option (List ℕ) → Owed Claim
claimed told from stated =
    owed_for_claim (given_by_books told None 1 from.books) (given_by told None input.Benchmarks from.benchmarks) (option_map (given_by told None input.Weights) from.weights) (given_at 0 0 stated)

confirmed_well : IsAnsweredYes → (tells : Bool) (old new : Told) (from : Files) (certificate : List ℕ) (survey : Survey) (limit : ℤ) (texts : OutTexts) (verdict : Verdict) (status : ℕ)
    → IsAccepted old from survey → AreOutputs survey limit texts → old (file certificate) ≡ Some texts.certificate
    → status ≡ status_of_verdict verdict → IsChecked tells old new from certificate verdict → status ≡ 0
confirmed_well answered tells old new from certificate survey limit texts verdict status accepted outputs there is checked =
    let meets : Meets (claimed old from (Some texts.certificate)) (Ok checked.claim) =
    subst (λ (stated : Option (List ℕ)). Meets (claimed old from stated) (Ok checked.claim)) there checked.given in
    let judged : IsVerdictOn checked.claim verdict = record { answered = checked.answered; least = λ yes. checked.right (ap status_of_verdict yes) } in
    is ∙ ap status_of_verdict (answered (given_by_books old None 1 from.books) (given_by old None input.Benchmarks from.benchmarks) (option_map (given_by old None input.Weights) from.weights) survey limit texts checked.claim verdict accepted.given outputs meets judged)

confirmed_refused : (MayFail : Type 0) → RefusesClaimsForMemory → IsOwedYes → (old : Told) (from : Files) (certificate : List ℕ) (survey : Survey) (limit : ℤ) (texts : OutTexts) (own : Refusal) (status : ℕ)
    → IsAccepted old from survey → AreOutputs survey limit texts → old (file certificate) ≡ Some texts.certificate → status ≡ status_of own
    → NoneFailed own → IsOwed (λ claim. claim.survey) (claim_owed old (Some own) from certificate) own → IsUnlucky MayFail status
confirmed_refused MayFail law owed old from certificate survey limit texts own status accepted outputs there is none refused =
    let known = owed (given_by_books old None 1 from.books) (given_by old None input.Benchmarks from.benchmarks) (option_map (given_by old None input.Weights) from.weights) survey limit texts accepted.given outputs in
    let stated : claimed old from (old (file certificate)) ≡ Some (Ok known.0) = ap (claimed old from) there ∙ known.1 in
    let same : known.0.survey ≡ survey = survey_of_claim (given_by_books old None 1 from.books) (given_by old None input.Benchmarks from.benchmarks) (option_map (given_by old None input.Weights) from.weights) (Text texts.certificate) survey known.0 accepted.given known.1 in
    by_status MayFail own status is
    (law (claim_owed old (Some own) from certificate) known.0 own (claim_same old own none from certificate ∙ stated) (subst MakesNetwork (sym same) accepted.network) refused)

pub confirmed : {F : Type 0} (tells : Bool) (held : F → Told) (failing : F → Failing) → RefusesClaimsForMemory → IsOwedYes → IsAnsweredYes
    → (old new : F) (status : ℕ) (from : Files) (certificate : List ℕ) (survey : Survey) (limit : ℤ) (texts : OutTexts)
    → IsEndedCheck tells (failing old) (held old) (held new) from certificate status → IsAccepted (held old) from survey
    → AreOutputs survey limit texts → held old (file certificate) ≡ Some texts.certificate
    → (status ≡ 0) ⊎ IsUnlucky (CheckMayFail (failing old) from certificate) status
confirmed tells held failing law owed answered old new status from certificate survey limit texts ended accepted outputs there =
    by ended
  where
    refused : (own : Refusal) → status ≡ status_of own → IsRefusedCheck (failing old) (held old) from certificate own
        → IsUnlucky (CheckMayFail (failing old) from certificate) status
    refused (refusal.Write which) is owes =
        inr (is, output_may_fail (failing old) (IsInClaim from certificate) [] checking.outputs which owes.named owes.cause)
    refused (refusal.Read which) is owes = inr (is, inl (which, owes.cause.0, owes.cause.1, owes.cause.2))
    refused refusal.NoMemory is owes = inl is
    refused (refusal.Book number fault) is owes = confirmed_refused (CheckMayFail (failing old) from certificate) law owed (held old) from certificate survey limit texts (refusal.Book number fault) status accepted outputs there is (λ which. refl) owes.owes
    refused (refusal.Benchmarks fault) is owes = confirmed_refused (CheckMayFail (failing old) from certificate) law owed (held old) from certificate survey limit texts (refusal.Benchmarks fault) status accepted outputs there is (λ which. refl) owes.owes
    refused (refusal.Weights fault) is owes = confirmed_refused (CheckMayFail (failing old) from certificate) law owed (held old) from certificate survey limit texts (refusal.Weights fault) status accepted outputs there is (λ which. refl) owes.owes
    refused (refusal.Certificate fault) is owes = confirmed_refused (CheckMayFail (failing old) from certificate) law owed (held old) from certificate survey limit texts (refusal.Certificate fault) status accepted outputs there is (λ which. refl) owes.owes
    refused (refusal.Differences fault) is owes = confirmed_refused (CheckMayFail (failing old) from certificate) law owed (held old) from certificate survey limit texts (refusal.Differences fault) status accepted outputs there is (λ which. refl) owes.owes
    refused (refusal.Heights fault) is owes = confirmed_refused (CheckMayFail (failing old) from certificate) law owed (held old) from certificate survey limit texts (refusal.Heights fault) status accepted outputs there is (λ which. refl) owes.owes
    refused (refusal.Changes fault) is owes = confirmed_refused (CheckMayFail (failing old) from certificate) law owed (held old) from certificate survey limit texts (refusal.Changes fault) status accepted outputs there is (λ which. refl) owes.owes
    refused (refusal.Unfit fault) is owes = confirmed_refused (CheckMayFail (failing old) from certificate) law owed (held old) from certificate survey limit texts (refusal.Unfit fault) status accepted outputs there is (λ which. refl) owes.owes
    refused (refusal.Mended fault) is owes = confirmed_refused (CheckMayFail (failing old) from certificate) law owed (held old) from certificate survey limit texts (refusal.Mended fault) status accepted outputs there is (λ which. refl) owes.owes
    refused (refusal.Network fault) is owes = confirmed_refused (CheckMayFail (failing old) from certificate) law owed (held old) from certificate survey limit texts (refusal.Network fault) status accepted outputs there is (λ which. refl) owes.owes

    by : IsEndedCheck tells (failing old) (held old) (held new) from certificate status → (status ≡ 0) ⊎ IsUnlucky (CheckMayFail (failing old) from certificate) status
    by (inl (verdict, is, checked)) =
        inl (confirmed_well answered tells (held old) (held new) from certificate survey limit texts verdict status accepted outputs there is checked)
    by (inr (inl (own, is, owes))) = inr (refused own is owes)
    by (inr (inr memory)) = inr (inl memory)

-- where no device may fail, only memory is left
pub sure : (MayFail Well : Type 0) (status : ℕ) → Well ⊎ IsUnlucky MayFail status → (MayFail → ⊥) → Well ⊎ (status ≡ 4)
sure MayFail Well status (inl well) none = inl well
sure MayFail Well status (inr (inl memory)) none = inr memory
sure MayFail Well status (inr (inr (is, may))) none = absurd (none may)
