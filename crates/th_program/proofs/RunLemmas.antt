-- What a run leaves after its refusal was reported.
use Rattle.std.proofs.Common.{◌≡◌, ◌≢◌, ◌∙◌, ℕ, Bool, true, false, List, None, Some, get_or, map, refl, [], ◌∷◌, ap₂, subst, sym}
use Rattle.std.proofs.lemmas.List.Elements.{All-from_recursion}
use Rattle.std.specs.List.{AllByRecursion, Contains}
use Rattle.th_devices.specs.Spots.{Spot, errors, file, input, is_file, output}
use Rattle.th_devices.specs.Folders.{Failing}
use Rattle.th_runs.specs.Paged.{paging}
use Rattle.th_commands.specs.Plans.{files}
use Rattle.th_commands.specs.declared.plans.Plan.{Plan}
use Rattle.th_commands.specs.declared.plans.Plan.TheVariants as plan
use Rattle.th_files.proofs.OutputLemmas.{all_files, no_errors}
use Rattle.th_program.proofs.RefusalLemmas.{refused-for-map}
use Rattle.th_program.specs.Done.{HoldsBook, IsCut, IsDone, IsListed, IsOutputOf, IsRefused, IsPrinted}
use Rattle.th_files.specs.Owed.{Told, survey_owed}
use Rattle.th_files.specs.Outputs.{spots_of, AreLeftAs, HoldsPart}
use Rattle.th_run_parts.specs.Inputs.{Owed}
use Rattle.th_runs.specs.Adjusted.{adjusting}
use Rattle.th_runs.specs.Reviewed.{reviewing}
use Rattle.th_run_parts.specs.declared.refusals.Refusal.{Refusal}
use Rattle.std.specs.Prelude.{Option}
use Rattle.th_network.specs.Networks.{Survey}
use Rattle.th_commands.specs.Asked.{Files}
use Rattle.th_run_parts.specs.Outputs.{ending_of}
use Rattle.th_run_parts.specs.Writes.{Texts}
use Rattle.th_run_parts.specs.declared.outputs.Output.{Output}

same_told : (after later : Told) (spots : List Spot) → AllByRecursion (λ spot. is_file spot ≡ true) spots
    → ((spot : Spot) → spot ≢ errors → later spot ≡ after spot) → map later spots ≡ map after spots
same_told after later [] files same = refl
same_told after later (spot ∷ spots) files same = ap₂ (λ one more. one ∷ more) (same spot (no_errors spot files.0)) (same_told after later spots files.1 same)

-- what is said on standard error changes no file
pub printed_after : (tells : Bool) (before after later : Told) (from : Files) (prefix : List ℕ) (outputs : List Output) (AreOf : Survey → Texts → Type 0)
    → AllByRecursion (λ spot. is_file spot ≡ true) (spots_of prefix outputs) → ((spot : Spot) → spot ≢ errors → later spot ≡ after spot) → (answer : Option Refusal)
    → IsPrinted tells before after from prefix outputs AreOf answer → IsPrinted tells before later from prefix outputs AreOf answer
printed_after tells before after later from prefix outputs AreOf files same answer is = record {
  survey = is.survey;
  texts = is.texts;
  given = is.given;
  network = is.network;
  printed = is.printed;
  left = subst (λ known. AreLeftAs tells answer is.texts (map before (spots_of prefix outputs)) known) (sym (same_told after later (spots_of prefix outputs) files same)) is.left;
}

-- what is said on standard error changes no refusal
pub refused-after : (tells : Bool) (failing : Failing) (before after later : Told) (asked : Plan) (own : Refusal) → ((spot : Spot) → spot ≢ errors → later spot ≡ after spot)
    → IsRefused tells failing before after asked own → IsRefused tells failing before later asked own
refused-after tells failing before after later plan.Standard own same is = is
refused-after tells failing before after later (plan.List book) own same is = is
refused-after tells failing before after later (plan.Adjust inputs limit prefix) own same is =
    refused-for-map adjusting (files inputs) _ (survey_owed before (Some own) (files inputs)) _ _ _ own
    (printed_after tells before after later (files inputs) prefix.now adjusting.outputs _ (all_files prefix.now (map ending_of adjusting.outputs) refl) same) is
refused-after tells failing before after later (plan.Review inputs limit prefix) own same is =
    refused-for-map reviewing (files inputs) _ (survey_owed before (Some own) (files inputs)) _ _ _ own
    (printed_after tells before after later (files inputs) prefix.now reviewing.outputs _ (all_files prefix.now (map ending_of reviewing.outputs) refl) same) is
refused-after tells failing before after later (plan.Page inputs limit prefix title) own same is =
    refused-for-map paging (files inputs) _ (survey_owed before (Some own) (files inputs)) _ _ _ own
    (printed_after tells before after later (files inputs) prefix.now paging.outputs _ (all_files prefix.now (map ending_of paging.outputs) refl) same) is
refused-after tells failing before after later (plan.Explain inputs limit table) own same is = is
refused-after tells failing before after later (plan.Check inputs certificate with_inputs) own same is = is
refused-after tells failing before after later (plan.Book table) own same is = is
refused-after tells failing before after later (plan.BookOfHeights book) own same is = is
refused-after tells failing before after later (plan.Mend changes book) own same is = is

-- standard output is not standard error
output_apart : output ≢ errors
output_apart = λ e. cc e

listed-after : (tells : Bool) (before after later : Told) (book : Spot) → ((spot : Spot) → spot ≢ errors → later spot ≡ after spot)
    → IsListed tells before after book → IsListed tells before later book
listed-after tells before after later book same is = record {
  observations = is.observations;
  given = is.given;
  listed = λ tell. same output output_apart ∙ is.listed tell;
}

booked-after : (tells : Bool) (after later : Told) (owed : Owed (List ℕ)) → ((spot : Spot) → spot ≢ errors → later spot ≡ after spot)
    → HoldsBook tells after owed → HoldsBook tells later owed
booked-after tells after later owed same is = record {
  book = is.book;
  given = is.given;
  booked = λ tell. same output output_apart ∙ is.booked tell;
}

-- nor does it change what was done
pub done-after : (tells : Bool) (before after later : Told) (asked : Plan) (status : ℕ) → ((spot : Spot) → spot ≢ errors → later spot ≡ after spot)
    → IsDone tells before after asked status → IsDone tells before later asked status
done-after tells before after later plan.Standard status same is = (is.0, listed-after tells before after later input same is.1)
done-after tells before after later (plan.List book) status same is = (is.0, listed-after tells before after later (file book.now) same is.1)
done-after tells before after later (plan.Adjust inputs limit prefix) status same is =
    (is.0, printed_after tells before after later (files inputs) prefix.now adjusting.outputs _ (all_files prefix.now (map ending_of adjusting.outputs) refl) same None is.1)
done-after tells before after later (plan.Review inputs limit prefix) status same is =
    (is.0, printed_after tells before after later (files inputs) prefix.now reviewing.outputs _ (all_files prefix.now (map ending_of reviewing.outputs) refl) same None is.1)
done-after tells before after later (plan.Page inputs limit prefix title) status same is =
    (is.0, printed_after tells before after later (files inputs) prefix.now paging.outputs _ (all_files prefix.now (map ending_of paging.outputs) refl) same None is.1)
done-after tells before after later (plan.Explain inputs limit table) status same is = (
  is.0,
  record {
    survey = is.1.survey;
    text = is.1.text;
    given = is.1.given;
    network = is.1.network;
    explained = is.1.explained;
    printed = λ tell. same output output_apart ∙ is.1.printed tell;
  },
)
done-after tells before after later (plan.Check inputs certificate false) status same (verdict, of_verdict, is) = (
  verdict,
  of_verdict,
  record {
    claim = is.claim;
    given = is.given;
    network = is.network;
    answered = is.answered;
    line = λ tell. same output output_apart ∙ is.line tell;
    right = is.right;
  },
)
done-after tells before after later (plan.Check inputs certificate true) status same (verdict, of_verdict, is) = (
  verdict,
  of_verdict,
  record {
    claim = is.claim;
    sums = is.sums;
    given = is.given;
    network = is.network;
    answered = is.answered;
    summed = is.summed;
    text = λ tell. same output output_apart ∙ is.text tell;
    right = is.right;
  },
)
done-after tells before after later (plan.Book table) status same is = (is.0, booked-after tells after later _ same is.1)
done-after tells before after later (plan.BookOfHeights book) status same is = (is.0, booked-after tells after later _ same is.1)
done-after tells before after later (plan.Mend changes book) status same is = (is.0, booked-after tells after later _ same is.1)

-- nor does it change what standard output has of a text
part_after : (tells : Bool) (after later : Told) (text : List ℕ) → ((spot : Spot) → spot ≢ errors → later spot ≡ after spot) → HoldsPart tells after text → HoldsPart tells later text
part_after tells after later text same part = λ tell. let (n, is) = part tell in (n, same output output_apart ∙ is)

pub cut-after : (tells : Bool) (before after later : Told) (asked : Plan) (own : Refusal) → ((spot : Spot) → spot ≢ errors → later spot ≡ after spot)
    → IsCut tells before after asked own → IsCut tells before later asked own
cut-after tells before after later plan.Standard own same (text, given, part) = (text, given, part_after tells after later _ same part)
cut-after tells before after later (plan.List book) own same (text, given, part) = (text, given, part_after tells after later _ same part)
cut-after tells before after later (plan.Explain inputs limit table) own same (survey, text, given, is, part) = (survey, text, given, is, part_after tells after later text same part)
cut-after tells before after later (plan.Check inputs certificate false) own same (claim, given, part) = (claim, given, part_after tells after later _ same part)
cut-after tells before after later (plan.Check inputs certificate true) own same (claim, sums, given, summed, part) = (claim, sums, given, summed, part_after tells after later _ same part)
cut-after tells before after later (plan.Book table) own same (text, given, part) = (text, given, part_after tells after later _ same part)
cut-after tells before after later (plan.BookOfHeights book) own same (text, given, part) = (text, given, part_after tells after later _ same part)
cut-after tells before after later (plan.Mend changes book) own same (text, given, part) = (text, given, part_after tells after later _ same part)
cut-after tells before after later other own same is = is

-- no plan writes its outputs to standard error
none_among : (spots : List Spot) → AllByRecursion (λ spot. is_file spot ≡ true) spots → Contains spots errors → ⊥
none_among spots files (place, within, is) =
    let there : is_file (get_or spots place errors) ≡ true = All-from_recursion (λ spot. is_file spot ≡ true) spots files place errors within in
    cc

pub errors_apart : (asked : Plan) → IsOutputOf asked errors → ⊥
errors_apart (plan.Adjust inputs limit prefix) is = none_among (spots_of prefix.now adjusting.outputs) (all_files prefix.now (map ending_of adjusting.outputs) refl) is
errors_apart (plan.Review inputs limit prefix) is = none_among (spots_of prefix.now reviewing.outputs) (all_files prefix.now (map ending_of reviewing.outputs) refl) is
errors_apart (plan.Page inputs limit prefix title) is = none_among (spots_of prefix.now paging.outputs) (all_files prefix.now (map ending_of paging.outputs) refl) is
errors_apart plan.Standard is = cc
errors_apart (plan.List book) is = cc
errors_apart (plan.Explain inputs limit table) is = cc
errors_apart (plan.Check inputs certificate with_inputs) is = cc
errors_apart (plan.Book table) is = cc
errors_apart (plan.BookOfHeights book) is = cc
errors_apart (plan.Mend changes book) is = cc
