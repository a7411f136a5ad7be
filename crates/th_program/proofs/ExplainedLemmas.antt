-- What an explanation over a folder comes to.
use Rattle.std.proofs.Common.{◌≡◌, ◌∷◌, [], ℕ, ℤ, Bool, List, Ok, Err, IfErr, map, subst, refl}
use Rattle.std.specs.List.{AllByRecursion}
use Rattle.std.specs.Prelude.{OnOk, Result}
use Rattle.th_devices.specs.Devices.{SinkState}
use Rattle.th_devices.specs.Spots.{Spot, file, output}
use Rattle.th_network.specs.Networks.{Survey}
use Rattle.th_commands.specs.Asked.{Files}
use Rattle.th_program.specs.Done.{IsCutExplanation, IsExplained, IsWrite}
use Rattle.th_files.specs.Owed.{Told, survey_owed}
use Rattle.th_files.specs.Opened.{AreMade, IsTaken}
use Rattle.th_files.proofs.OutputLemmas.{all_whole, part_left}
use Rattle.th_runs.specs.Explained.{AreOfExplanation, text_in}
use Rattle.th_run_parts.specs.Inputs.{Meets, Owed}
use Rattle.th_run_parts.specs.Outcomes.{Accepted}
use Rattle.th_run_parts.specs.Reads.{refused}
use Rattle.th_run_parts.specs.Writes.{AreWritten, IsWritten, Texts}
use Rattle.th_runs.specs.declared.explaining.Form.{Form}
use Rattle.th_run_parts.specs.declared.outputs.Output.TheVariants as out
use Rattle.th_run_parts.specs.declared.refusals.Refusal.{Refusal}
use Rattle.th_run_parts.specs.declared.refusals.Refusal.TheVariants as refusal

-- an explanation that was written
pub explained : {X K : Type 0} (tells : Bool) (writing : Spot → Bool) (before after : Told) (from : Files) (limit : ℤ) (wanted : Form) (state_of : K → SinkState) (olds news : List K)
    (given_owed : Owed Survey) (result : Result X Refusal) → given_owed ≡ survey_owed before (refused result) from
    → AreMade state_of tells writing (output ∷ []) olds → AllByRecursion (λ own. IsTaken before after (state_of own)) news
    → (IsWritten result → ((survey : Survey) × Accepted (λ (own : Survey). own) given_owed survey
    × ((texts : Texts) × AreOfExplanation (map (λ (name : List ℕ). before (file name)) from.books) limit wanted survey texts × AreWritten state_of (refused result) texts olds news)))
    → OnOk result (IsExplained tells before after from limit wanted)
explained tells writing before after from limit wanted state_of olds news given_owed (Err own) owed made taken written = tt
explained {X = X} tells writing before after from limit wanted state_of olds news given_owed (Ok x) owed made taken written =
    let (survey, accepted, (texts, (reviews, are, (own, of_own, is)), of_texts)) = written tt in
    let text = text_in wanted own in
    let whole = all_whole state_of tells writing before after ((out.Explanations, text) ∷ []) (output ∷ []) olds news (refl, tt) made taken
    (subst (λ (known : Texts). AreWritten state_of (refused {X = X} (Ok x)) known olds news) is of_texts) in
    record {
      survey = survey;
      text = text;
      given = subst (λ (known : Owed Survey). Meets known (Ok survey)) owed accepted.given;
      network = accepted.network;
      explained = (reviews, are, (own, of_own, refl));
      printed = whole.0;
    }

-- an explanation that could not be written whole
pub cut-explanation : {X K : Type 0} (tells : Bool) (writing : Spot → Bool) (before after : Told) (from : Files) (limit : ℤ) (wanted : Form) (state_of : K → SinkState) (olds news : List K)
    (given_owed : Owed Survey) (result : Result X Refusal) → given_owed ≡ survey_owed before (refused result) from
    → AreMade state_of tells writing (output ∷ []) olds → AllByRecursion (λ own. IsTaken before after (state_of own)) news
    → (IsWritten result → ((survey : Survey) × Accepted (λ (own : Survey). own) given_owed survey
    × ((texts : Texts) × AreOfExplanation (map (λ (name : List ℕ). before (file name)) from.books) limit wanted survey texts × AreWritten state_of (refused result) texts olds news)))
    → IfErr result (λ own. IsWrite own → IsCutExplanation tells before after from limit wanted own)
cut-explanation tells writing before after from limit wanted state_of olds news given_owed (Ok x) owed made taken written = tt
cut-explanation {X = X} tells writing before after from limit wanted state_of olds news given_owed (Err (refusal.Write which)) owed made taken written = λ write.
    let (survey, accepted, (texts, (reviews, are, (own, of_own, is)), of_texts)) = written tt in (
      survey,
      text_in wanted own,
      subst (λ (known : Owed Survey). Meets known (Ok survey)) owed accepted.given,
      (reviews, are, (own, of_own, refl)),
      part_left state_of tells writing before after which (out.Explanations, text_in wanted own) olds news made taken
          (subst (λ (known : Texts). AreWritten state_of (refused {X = X} (Err (refusal.Write which))) known olds news) is of_texts),
    )
cut-explanation tells writing before after from limit wanted state_of olds news given_owed (Err other) owed made taken written = λ write. absurd write
