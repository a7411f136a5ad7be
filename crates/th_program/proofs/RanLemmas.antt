-- What the run of a command over named files comes to.
use Rattle.std.proofs.Common.{◌≡◌, ◌∙◌, ℕ, Bool, true, false, List, Err, ap, length, map, refl, subst, sym}
use Rattle.std.proofs.lemmas.List.{length-map}
use Rattle.std.specs.List.{AllByRecursion}
use Rattle.std.specs.Prelude.{OnOk, Option, Result}
use Rattle.th_commands.specs.Asked.{Files}
use Rattle.th_devices.specs.Devices.{SinkState, SourceState}
use Rattle.th_devices.specs.Folders.{Failing}
use Rattle.th_devices.specs.Spots.{Spot, is_file}
use Rattle.th_files.proofs.OpenedLemmas.{named-opened, survey-opened, tolds-opened}
use Rattle.th_files.proofs.OutputLemmas.{none_among, not_among, of_map, spots_after}
use Rattle.th_files.specs.Opened.{AreApart, AreGivenBack, AreMade, AreOpened}
use Rattle.th_files.specs.Outputs.{spot_at, spots_of}
use Rattle.th_files.specs.Owed.{Told, survey_owed, tolds_in}
use Rattle.th_network.specs.Networks.{Survey}
use Rattle.th_program.proofs.CauseLemmas.{files_caused, given_caused, output_caused, run_caused}
use Rattle.th_program.proofs.PlaceLemmas.{apart_map, finished_given, others_given, printed_given, refused_given, untouched_given}
use Rattle.th_program.specs.Done.{IsPrinted}
use Rattle.th_program.specs.Failing.{HasCause, IsInFiles}
use Rattle.th_program.specs.Inside.Ran.{HasRun, HasWrittenFiles}
use Rattle.th_run_parts.specs.Inputs.{Owed, owed_by_sources}
use Rattle.th_run_parts.specs.Outcomes.{PrintedOutcome, PrintedRun}
use Rattle.th_run_parts.specs.Outputs.{ending_of}
use Rattle.th_run_parts.specs.Reads.{Run, refused}
use Rattle.th_run_parts.specs.Summed.{Tolds, tolds_of}
use Rattle.th_run_parts.specs.Writes.{Texts}
use Rattle.th_run_parts.specs.declared.refusals.Refusal.{Refusal}
use Rattle.th_run_parts.specs.declared.refusals.Refusal.TheVariants as refusal
use Rattle.th_runs.specs.Commands.{AreFor}

-- a run over sources that a folder opened, and sinks that it made
pub has_run : {S K : Type 0} (in_state : S → SourceState) (out_state : K → SinkState) (tells : Bool) (failing : Failing) (told : Told) (from : Files) (prefix : List ℕ) (run : Run)
    (AreOf : Tolds → Survey → Texts → Type 0) (result : Result (Unit {0}) Refusal) (books books' : List S) (benchmarks benchmarks' : S) (weights weights' : Option S) (made sinks : List K)
    → run.has_certificate ≡ false → ((tolds : Tolds) (survey : Survey) (texts : Texts) → AreOf tolds survey texts → AreFor run texts)
    → AreOpened in_state failing.reading told from books benchmarks weights
    → AreMade out_state tells failing.writing (spots_of prefix run.outputs) made
    → PrintedRun in_state in_state in_state out_state run (AreOf (tolds_of in_state in_state in_state books benchmarks weights)) result books books' benchmarks benchmarks' weights weights' made sinks
    → HasRun out_state tells failing told from prefix run (AreOf (tolds_in told from)) result sinks
has_run in_state out_state tells failing told from prefix run AreOf result books books' benchmarks benchmarks' weights weights' made sinks without in_order opened are_made printed =
    let tolds = tolds-opened in_state failing.reading told from books benchmarks weights opened in
    let owed = survey-opened in_state failing.reading told from (refused result) books books' benchmarks benchmarks' weights weights' opened printed.sources in
    record {
      made = made;
      are_made = are_made;
      are_for = in_order (tolds_in told from);
      outcome = subst (λ (known : Owed Survey). PrintedOutcome out_state known (AreOf (tolds_in told from)) result made sinks) owed
          (subst (λ (own : Tolds). PrintedOutcome out_state (owed_by_sources in_state in_state in_state books books' benchmarks benchmarks' weights weights') (AreOf own) result made sinks) tolds printed.outcome);
      named = named-opened in_state failing.reading told from run result books benchmarks weights opened printed.named;
      caused = run_caused failing (IsInFiles from) prefix result
          (files_caused in_state failing.reading told from run (IsInFiles from) result books books' benchmarks benchmarks' weights weights' (λ own spot is. is) opened printed.sources printed.named
          (λ is has. absurd (never (sym without ∙ has))))
          (output_caused out_state tells failing.writing prefix run.outputs result made sinks are_made
          (λ begun. let (survey, accepted, has) = printed.outcome.written begun in (has.0, in_order (tolds_of in_state in_state in_state books benchmarks weights) survey has.0 has.1, has.2)));
    }
  where
    never : false ≡ true → ⊥
    never e = cc

-- its sinks are at the spots of its outputs
pub ran_there : {K : Type 0} (state_of : K → SinkState) (tells : Bool) (failing : Failing) (told : Told) (from : Files) (prefix : List ℕ) (run : Run) (AreOf : Survey → Texts → Type 0)
    (answer : Result (Unit {0}) Refusal) (sinks : List K) → HasRun state_of tells failing told from prefix run AreOf answer sinks
    → map (λ own. (state_of own).spot) sinks ≡ spots_of prefix run.outputs
ran_there state_of tells failing told from prefix run AreOf answer sinks ran =
    spots_after state_of tells failing.writing (spots_of prefix run.outputs) _ _ _ answer ran.made sinks ran.outcome ran.are_made (λ survey has. (has.0, has.2))

-- so there are as many as outputs, and where these are files they are, and are finished
pub ran_as_many : {K : Type 0} (state_of : K → SinkState) (tells : Bool) (failing : Failing) (told : Told) (from : Files) (prefix : List ℕ) (run : Run) (AreOf : Survey → Texts → Type 0)
    (answer : Result (Unit {0}) Refusal) (sinks : List K) → HasRun state_of tells failing told from prefix run AreOf answer sinks → length sinks ≡ length run.outputs
ran_as_many state_of tells failing told from prefix run AreOf answer sinks ran =
    sym (length-map sinks (λ own. (state_of own).spot)) ∙ ap length (ran_there state_of tells failing told from prefix run AreOf answer sinks ran)
    ∙ length-map run.outputs (λ which. spot_at prefix (ending_of which))

pub ran_files : {K : Type 0} (state_of : K → SinkState) (tells : Bool) (failing : Failing) (told : Told) (from : Files) (prefix : List ℕ) (run : Run) (AreOf : Survey → Texts → Type 0)
    (answer : Result (Unit {0}) Refusal) (sinks : List K) → HasRun state_of tells failing told from prefix run AreOf answer sinks
    → AllByRecursion (λ spot. is_file spot ≡ true) (spots_of prefix run.outputs) → AllByRecursion (λ own. is_file (state_of own).spot ≡ true) sinks
ran_files state_of tells failing told from prefix run AreOf answer sinks ran files =
    of_map (λ own. (state_of own).spot) (λ spot. is_file spot ≡ true) sinks
    (subst (AllByRecursion (λ spot. is_file spot ≡ true)) (sym (ran_there state_of tells failing told from prefix run AreOf answer sinks ran)) files)

pub ran_finished : {K : Type 0} (state_of : K → SinkState) (tells : Bool) (failing : Failing) (told : Told) (from : Files) (prefix : List ℕ) (run : Run) (AreOf : Survey → Texts → Type 0)
    (answer : Result (Unit {0}) Refusal) (sinks : List K) → HasRun state_of tells failing told from prefix run AreOf answer sinks
    → OnOk answer (AllByRecursion (λ own. (state_of own).is_finished ≡ true) sinks)
ran_finished state_of tells failing told from prefix run AreOf answer sinks ran =
    finished_given state_of AreOf (survey_owed told (refused answer) from) ran.made sinks answer ran.outcome.written

-- once its files have their places
pub has_written_files : {F K : Type 0} (tells : Bool) (held : F → Told) (has_failed : F → Spot → Bool) (failing : F → Failing) (from : Files) (prefix : List ℕ) (run : Run)
    (AreOf : Survey → Texts → Type 0) (state_of : K → SinkState) (sinks : List K) (answer result : Result (Unit {0}) Refusal) (before after : F)
    → AreApart (spots_of prefix run.outputs) → HasRun state_of tells (failing before) (held before) from prefix run AreOf answer sinks
    → AreGivenBack tells held has_failed failing (map state_of sinks) run.outputs answer result before after
    → HasWrittenFiles tells held failing before after from prefix run AreOf result
has_written_files tells held has_failed failing from prefix run AreOf state_of sinks answer result before after apart ran given =
    let printed = printed_given tells held has_failed failing from prefix run.outputs AreOf state_of ran.made sinks (survey_owed (held before) (refused answer) from) answer result before after
    refl apart ran.are_made ran.are_for ran.outcome.written given in
    let there = ran_there state_of tells (failing before) (held before) from prefix run AreOf answer sinks ran in
    record {
      printed = printed.0;
      refused = refused_given tells held has_failed failing run from (λ (survey : Survey). survey) (λ own. survey_owed (held before) own from)
          (IsPrinted tells (held before) (held after) from prefix run.outputs AreOf) (HasCause (failing before) (IsInFiles from) prefix) (map state_of sinks) answer result before after
          ran.named ran.outcome.refused given printed.1
          (given_caused state_of tells held has_failed failing (IsInFiles from) prefix run.outputs sinks answer result before after there given ran.caused);
      untouched = untouched_given tells held has_failed failing (map state_of sinks) run.outputs answer result before after given;
      others = λ spot none. others_given tells held has_failed failing (map state_of sinks) run.outputs answer result before after given spot
          (apart_map state_of spot sinks (none_among state_of sinks (spots_of prefix run.outputs) spot there (not_among (spots_of prefix run.outputs) spot none)));
    }

-- or if memory ran out before it was begun
pub none_written : {F : Type 0} (tells : Bool) (held : F → Told) (failing : F → Failing) (before after : F) (from : Files) (prefix : List ℕ) (run : Run) (AreOf : Survey → Texts → Type 0)
    → after ≡ before → HasWrittenFiles tells held failing before after from prefix run AreOf (Err refusal.NoMemory)
none_written tells held failing before after from prefix run AreOf same = record {
  printed = tt;
  refused = record { named = tt; owes = tt; left = λ write. absurd write; cause = tt };
  untouched = same;
  others = λ spot none. ap (λ own. held own spot) same;
}
