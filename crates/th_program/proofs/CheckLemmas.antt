-- What a check over a folder comes to.
use Rattle.std.proofs.Common.{◌≡◌, ◌∷◌, [], ℕ, Bool, true, false, List, Ok, Err, Some, None, IfErr, IfOk, ap, sym, subst, refl}
use Rattle.std.specs.List.{AllByRecursion}
use Rattle.std.specs.Bool.{then_some}
use Rattle.std.specs.Prelude.{Option, Result, option_map}
use Rattle.th_checker.specs.declared.verdicts.Verdict.{Verdict}
use Rattle.th_checker.specs.declared.verdicts.Verdict.TheVariants as verdict
use Rattle.th_devices.specs.Devices.{SinkState}
use Rattle.th_devices.specs.Spots.{Spot, file, output}
use Rattle.th_commands.specs.Asked.{Files}
use Rattle.th_program.specs.Done.{IsCheckedAs, IsCutVerdict, IsWrite}
use Rattle.th_files.specs.Outputs.{Holds, HoldsPart}
use Rattle.th_files.specs.Owed.{Told, claim_names, claim_owed, tolds_in}
use Rattle.th_files.specs.Opened.{AreMade, IsTaken}
use Rattle.th_files.proofs.OutputLemmas.{all_whole, part_left}
use Rattle.th_inputs.specs.declared.sums.Sum.{Sum}
use Rattle.th_runs.specs.Checked.{AreSummedIfNamed, IsRight, IsVerdictOn, check_text, judged, verdict_on}
use Rattle.th_run_parts.specs.Inputs.{Claim, MakesNetwork, Meets, Owed}
use Rattle.th_run_parts.specs.Outcomes.{Accepted}
use Rattle.th_run_parts.specs.Reads.{refused}
use Rattle.th_run_parts.specs.Summed.{Tolds}
use Rattle.th_run_parts.specs.Refusals.{status_of_verdict}
use Rattle.th_run_parts.specs.Writes.{AreWritten, IsWritten}
use Rattle.th_run_parts.specs.declared.refusals.Refusal.{Refusal}
use Rattle.th_run_parts.specs.declared.refusals.Refusal.TheVariants as refusal

-- a verdict that is right where it is yes
right : (claim : Claim) (own : Verdict) → IsVerdictOn claim own → status_of_verdict own ≡ 0 → IsRight claim
right claim verdict.Yes is zero = is.least (λ e. verdict.Yes)
right claim (verdict.No reason) is zero = absurd (cc zero)

-- the names of the files that a check lists, if it lists them
abbrev pub names_if : Bool → Files → List ℕ → Option (List (List ℕ))
names_if true files certificate = Some (claim_names files certificate)
names_if false files certificate = None

-- those that are handed to its run
pub wanted_names : {A : Type 0} (view : A → List (List ℕ)) (wanted : Bool) (given : A) (files : Files) (certificate : List ℕ) → view given ≡ claim_names files certificate
    → option_map view (then_some wanted given) ≡ names_if wanted files certificate
wanted_names view true given files certificate is = ap Some is
wanted_names view false given files certificate is = refl

-- what the run of a check wrote
abbrev pub HasWrittenCheck : {K : Type 0} → Bool → Told → Files → List ℕ → (K → SinkState) → Result Verdict Refusal → List K → List K → Claim → Type 0
HasWrittenCheck with_inputs before files certificate state_of result olds news claim =
    IfOk result (IsVerdictOn claim) × (sums : List Sum) × AreSummedIfNamed (names_if with_inputs files certificate) (tolds_in before files) (before (file certificate)) sums
    × AreWritten state_of (refused result) (judged (names_if with_inputs files certificate) sums (verdict_on claim)) olds news

-- the same, where the names, the bytes and the certificate are those of the files
pub of-files : {K : Type 0} (with_inputs : Bool) (before : Told) (files : Files) (certificate : List ℕ) (state_of : K → SinkState) (result : Result Verdict Refusal) (olds news : List K)
    (given_owed : Owed Claim) (names : Option (List (List ℕ))) (tolds : Tolds) (stated : Option (List ℕ))
    → names ≡ names_if with_inputs files certificate → tolds ≡ tolds_in before files → stated ≡ before (file certificate)
    → (IsWritten result → ((claim : Claim) × Accepted (λ (own : Claim). own.survey) given_owed claim × (IfOk result (IsVerdictOn claim)
    × (sums : List Sum) × AreSummedIfNamed names tolds stated sums × AreWritten state_of (refused result) (judged names sums (verdict_on claim)) olds news)))
    → IsWritten result → ((claim : Claim) × Accepted (λ (own : Claim). own.survey) given_owed claim × HasWrittenCheck with_inputs before files certificate state_of result olds news claim)
of-files with_inputs before files certificate state_of result olds news given_owed names tolds stated are_named are_told is_stated written = rw (are_named, are_told, is_stated) at written

-- a verdict that was printed is a check in the form that was wanted
printed : (with_inputs tells : Bool) (before after : Told) (files : Files) (certificate : List ℕ) (claim : Claim) (sums : List Sum) (own : Verdict)
    → Meets (claim_owed before None files certificate) (Ok claim) → MakesNetwork claim.survey → IsVerdictOn claim own
    → AreSummedIfNamed (names_if with_inputs files certificate) (tolds_in before files) (before (file certificate)) sums
    → Holds tells after output (check_text (names_if with_inputs files certificate) sums own) → IsCheckedAs with_inputs tells before after files certificate own
printed false tells before after files certificate claim sums own given network answers summed text = record {
  claim = claim;
  given = given;
  network = network;
  answered = answers.answered;
  line = text;
  right = right claim own answers;
}
printed true tells before after files certificate claim sums own given network answers summed text = record {
  claim = claim;
  sums = sums;
  given = given;
  network = network;
  answered = answers.answered;
  summed = summed;
  text = text;
  right = right claim own answers;
}

-- a check that was done
pub checked : {K : Type 0} (with_inputs tells : Bool) (writing : Spot → Bool) (before after : Told) (files : Files) (certificate : List ℕ) (state_of : K → SinkState) (olds news : List K)
    (given_owed : Owed Claim) (result : Result Verdict Refusal) → given_owed ≡ claim_owed before (refused result) files certificate
    → AreMade state_of tells writing (output ∷ []) olds → AllByRecursion (λ own. IsTaken before after (state_of own)) news
    → (IsWritten result → ((claim : Claim) × Accepted (λ (own : Claim). own.survey) given_owed claim × HasWrittenCheck with_inputs before files certificate state_of result olds news claim))
    → IfOk result (IsCheckedAs with_inputs tells before after files certificate)
checked with_inputs tells writing before after files certificate state_of olds news given_owed (Err own) owed made taken written = tt
checked with_inputs tells writing before after files certificate state_of olds news given_owed (Ok own) owed made taken written =
    let (claim, accepted, (answers, sums, summed, of_text)) = written tt in
    let names = names_if with_inputs files certificate in
    let whole = all_whole state_of tells writing before after (judged names sums (verdict_on claim)) (output ∷ []) olds news (refl, tt) made taken of_text in
    printed with_inputs tells before after files certificate claim sums own (subst (λ (known : Owed Claim). Meets known (Ok claim)) owed accepted.given) accepted.network answers summed
    (subst (λ (known : Verdict). Holds tells after output (check_text names sums known)) (sym answers.answered) whole.0)

-- the beginning of what a check prints, in the form that was wanted
pub cut : (with_inputs tells : Bool) (before after : Told) (files : Files) (certificate : List ℕ) (claim : Claim) (sums : List Sum) (own : Refusal)
    → Meets (claim_owed before (Some own) files certificate) (Ok claim) → AreSummedIfNamed (names_if with_inputs files certificate) (tolds_in before files) (before (file certificate)) sums
    → HoldsPart tells after (check_text (names_if with_inputs files certificate) sums (verdict_on claim)) → IsCutVerdict with_inputs tells before after files certificate own
cut false tells before after files certificate claim sums own given summed part = (claim, given, part)
cut true tells before after files certificate claim sums own given summed part = (claim, sums, given, summed, part)

-- a check whose text could not be written whole
pub cut-verdict : {K : Type 0} (with_inputs tells : Bool) (writing : Spot → Bool) (before after : Told) (files : Files) (certificate : List ℕ) (state_of : K → SinkState) (olds news : List K)
    (given_owed : Owed Claim) (result : Result Verdict Refusal) → given_owed ≡ claim_owed before (refused result) files certificate
    → AreMade state_of tells writing (output ∷ []) olds → AllByRecursion (λ own. IsTaken before after (state_of own)) news
    → (IsWritten result → ((claim : Claim) × Accepted (λ (own : Claim). own.survey) given_owed claim × HasWrittenCheck with_inputs before files certificate state_of result olds news claim))
    → IfErr result (λ own. IsWrite own → IsCutVerdict with_inputs tells before after files certificate own)
cut-verdict with_inputs tells writing before after files certificate state_of olds news given_owed (Ok own) owed made taken written = tt
cut-verdict with_inputs tells writing before after files certificate state_of olds news given_owed (Err (refusal.Write which)) owed made taken written = λ write.
    let (claim, accepted, (answers, sums, summed, of_text)) = written tt in
    cut with_inputs tells before after files certificate claim sums (refusal.Write which) (subst (λ (known : Owed Claim). Meets known (Ok claim)) owed accepted.given) summed
    (part_left state_of tells writing before after which _ olds news made taken of_text)
cut-verdict with_inputs tells writing before after files certificate state_of olds news given_owed (Err other) owed made taken written = λ write. absurd write
