-- What a list over a folder comes to.
use Rattle.std.proofs.Common.{◌≡◌, ◌∷◌, [], Bool, List, Ok, Err, IfErr, subst, refl}
use Rattle.std.specs.Prelude.{OnOk, Result}
use Rattle.th_observations.specs.Observed.{Observed}
use Rattle.std.specs.List.{AllByRecursion}
use Rattle.th_devices.specs.Devices.{SinkState}
use Rattle.th_devices.specs.Spots.{Spot, output}
use Rattle.th_devices.specs.Folders.{Failing}
use Rattle.th_program.specs.Done.{IsCutList, IsListed, IsRefusedList, IsWrite}
use Rattle.th_program.specs.Failing.{HasCause}
use Rattle.th_files.specs.Owed.{Told, book_owed}
use Rattle.th_files.specs.Opened.{AreMade, IsTaken}
use Rattle.th_files.proofs.OutputLemmas.{all_whole, part_left}
use Rattle.th_run_parts.specs.Inputs.{Meets, MeetsRefusal, Owed}
use Rattle.th_runs.specs.Listed.{IsOfList, listed as listed_texts}
use Rattle.th_run_parts.specs.Reads.{refused}
use Rattle.th_run_parts.specs.Writes.{AreWritten, IsWritten, UnlessWrite}
use Rattle.th_run_parts.specs.declared.refusals.Refusal.{Refusal}
use Rattle.th_run_parts.specs.declared.refusals.Refusal.TheVariants as refusal

-- a list that was written
pub listed : {X K : Type 0} (tells : Bool) (writing : Spot → Bool) (before after : Told) (book : Spot) (state_of : K → SinkState) (olds news : List K) (given_owed : Owed (List Observed))
    (result : Result X Refusal) → given_owed ≡ book_owed before (refused result) book → AreMade state_of tells writing (output ∷ []) olds
    → AllByRecursion (λ own. IsTaken before after (state_of own)) news
    → (IsWritten result → ((observations : List Observed) × Meets given_owed (Ok observations)
    × AreWritten state_of (refused result) (listed_texts observations) olds news))
    → OnOk result (IsListed tells before after book)
listed tells writing before after book state_of olds news given_owed (Err own) owed made taken written = tt
listed tells writing before after book state_of olds news given_owed (Ok x) owed made taken written =
    let (observations, meets, of_list) = written tt in
    let whole = all_whole state_of tells writing before after (listed_texts observations) (output ∷ []) olds news (refl, tt) made taken of_list in
    record {
      observations = observations;
      given = subst (λ (known : Owed (List Observed)). Meets known (Ok observations)) owed meets;
      listed = whole.0;
    }

-- a list that could not be written whole
pub cut-list : {X K : Type 0} (tells : Bool) (writing : Spot → Bool) (before after : Told) (book : Spot) (state_of : K → SinkState) (olds news : List K) (given_owed : Owed (List Observed))
    (result : Result X Refusal) → given_owed ≡ book_owed before (refused result) book → AreMade state_of tells writing (output ∷ []) olds
    → AllByRecursion (λ own. IsTaken before after (state_of own)) news
    → (IsWritten result → ((observations : List Observed) × Meets given_owed (Ok observations)
    × AreWritten state_of (refused result) (listed_texts observations) olds news))
    → IfErr result (λ own. IsWrite own → IsCutList tells before after book own)
cut-list tells writing before after book state_of olds news given_owed (Ok x) owed made taken written = tt
cut-list tells writing before after book state_of olds news given_owed (Err (refusal.Write which)) owed made taken written = λ write.
    let (observations, meets, of_list) = written tt in (
      observations,
      subst (λ (known : Owed (List Observed)). Meets known (Ok observations)) owed meets,
      part_left state_of tells writing before after which _ olds news made taken of_list,
    )
cut-list tells writing before after book state_of olds news given_owed (Err other) owed made taken written = λ write. absurd write

-- a list that was refused
pub refused-list : {X : Type 0} (failing : Failing) (before : Told) (book : Spot) (given_owed : Owed (List Observed)) (result : Result X Refusal)
    → given_owed ≡ book_owed before (refused result) book → IfErr result IsOfList
    → IfErr result (λ own. UnlessWrite own (MeetsRefusal given_owed own)) → IfErr result (HasCause failing (λ which spot. spot ≡ book) [])
    → IfErr result (IsRefusedList failing before book)
refused-list failing before book given_owed (Ok x) owed named owes caused = tt
refused-list failing before book given_owed (Err own) owed named owes caused = record {
  named = named;
  owes = subst (λ (known : Owed (List Observed)). UnlessWrite own (MeetsRefusal known own)) owed owes;
  cause = caused;
}
