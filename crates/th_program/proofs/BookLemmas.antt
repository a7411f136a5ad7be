-- What a book that is made of files of a folder comes to.
use Rattle.std.proofs.Common.{◌≡◌, ◌∷◌, [], ℕ, Bool, List, Ok, Err, IfErr, subst, refl}
use Rattle.std.specs.Prelude.{OnOk, Option, Result, None, Some}
use Rattle.std.specs.List.{AllByRecursion}
use Rattle.th_run_parts.specs.Booked.{booked as booked_texts}
use Rattle.th_devices.specs.Devices.{SinkState}
use Rattle.th_devices.specs.Spots.{Spot, output}
use Rattle.th_devices.specs.Folders.{Failing}
use Rattle.th_program.specs.Done.{HoldsBook, HoldsPartOfBook, IsRefusedBooking, IsWrite}
use Rattle.th_program.specs.Failing.{HasCause, Origins}
use Rattle.th_files.specs.Owed.{Told}
use Rattle.th_files.specs.Opened.{AreMade, IsTaken}
use Rattle.th_files.proofs.OutputLemmas.{all_whole, part_left}
use Rattle.th_run_parts.specs.Inputs.{Meets, MeetsRefusal, Owed}
use Rattle.th_run_parts.specs.Reads.{refused}
use Rattle.th_run_parts.specs.Writes.{AreWritten, IsWritten, UnlessWrite}
use Rattle.th_run_parts.specs.declared.refusals.Refusal.{Refusal}
use Rattle.th_run_parts.specs.declared.refusals.Refusal.TheVariants as refusal

-- a book that was written
pub booked : {X K : Type 0} (tells : Bool) (writing : Spot → Bool) (before after : Told) (owed_of : Option Refusal → Owed (List ℕ)) (state_of : K → SinkState) (olds news : List K) (given_owed : Owed (List ℕ))
    (result : Result X Refusal) → given_owed ≡ owed_of (refused result) → AreMade state_of tells writing (output ∷ []) olds
    → AllByRecursion (λ own. IsTaken before after (state_of own)) news
    → (IsWritten result → ((book : List ℕ) × Meets given_owed (Ok book) × AreWritten state_of (refused result) (booked_texts book) olds news))
    → OnOk result (HoldsBook tells after (owed_of None))
booked tells writing before after owed_of state_of olds news given_owed (Err own) owed made taken written = tt
booked tells writing before after owed_of state_of olds news given_owed (Ok x) owed made taken written =
    let (book, meets, of_book) = written tt in
    let whole = all_whole state_of tells writing before after (booked_texts book) (output ∷ []) olds news (refl, tt) made taken of_book in
    record {
      book = book;
      given = subst (λ (known : Owed (List ℕ)). Meets known (Ok book)) owed meets;
      booked = whole.0;
    }

-- a book that could not be written whole
pub cut-book : {X K : Type 0} (tells : Bool) (writing : Spot → Bool) (before after : Told) (owed_of : Option Refusal → Owed (List ℕ)) (state_of : K → SinkState) (olds news : List K) (given_owed : Owed (List ℕ))
    (result : Result X Refusal) → given_owed ≡ owed_of (refused result) → AreMade state_of tells writing (output ∷ []) olds
    → AllByRecursion (λ own. IsTaken before after (state_of own)) news
    → (IsWritten result → ((book : List ℕ) × Meets given_owed (Ok book) × AreWritten state_of (refused result) (booked_texts book) olds news))
    → IfErr result (λ own. IsWrite own → HoldsPartOfBook tells after (owed_of (Some own)))
cut-book tells writing before after owed_of state_of olds news given_owed (Ok x) owed made taken written = tt
cut-book tells writing before after owed_of state_of olds news given_owed (Err (refusal.Write which)) owed made taken written = λ write.
    let (book, meets, of_book) = written tt in (
      book,
      subst (λ (known : Owed (List ℕ)). Meets known (Ok book)) owed meets,
      part_left state_of tells writing before after which _ olds news made taken of_book,
    )
cut-book tells writing before after owed_of state_of olds news given_owed (Err other) owed made taken written = λ write. absurd write

-- a book that was refused
pub refused-book : {X : Type 0} (Named : Refusal → Type 0) (owed_of : Option Refusal → Owed (List ℕ)) (failing : Failing) (origins : Origins) (given_owed : Owed (List ℕ)) (result : Result X Refusal)
    → given_owed ≡ owed_of (refused result) → IfErr result Named
    → IfErr result (λ own. UnlessWrite own (MeetsRefusal given_owed own)) → IfErr result (HasCause failing origins [])
    → IfErr result (λ own. IsRefusedBooking Named (owed_of (Some own)) failing origins own)
refused-book Named owed_of failing origins given_owed (Ok x) owed named owes caused = tt
refused-book Named owed_of failing origins given_owed (Err own) owed named owes caused = record {
  named = named;
  owes = subst (λ (known : Owed (List ℕ)). UnlessWrite own (MeetsRefusal known own)) owed owes;
  cause = caused;
}
