-- What the refusal of a run over a folder comes to.
use Rattle.std.proofs.Common.{Some, Ok, Err, IfErr, is_some, length}
use Rattle.std.specs.Prelude.{Option, Result}
use Rattle.th_network.specs.Networks.{Survey}
use Rattle.th_commands.specs.Asked.{Files}
use Rattle.th_program.specs.Done.{IsRefusedFor, IsWrite}
use Rattle.th_run_parts.specs.Inputs.{IsOwed, Owed}
use Rattle.th_run_parts.specs.Reads.{IsNamed, Run, refused}
use Rattle.th_run_parts.specs.Writes.{IsWritten, UnlessWrite}
use Rattle.th_run_parts.specs.declared.refusals.Refusal.{Refusal}
use Rattle.th_run_parts.specs.declared.refusals.Refusal.TheVariants as refusal

-- the refusal of a run over the named files
pub refused-for : {X Y : Type 0} (run : Run) (from : Files) (survey_of : Y → Survey) (owed_at : Option Refusal → Owed Y) (HasLeft : Option Refusal → Type 0)
    (Caused : Refusal → Type 0) (result : Result X Refusal) → IfErr result (IsNamed (length from.books) (is_some from.weights) run)
    → IfErr result (λ own. UnlessWrite own (IsOwed survey_of (owed_at (refused result)) own)) → (IsWritten result → HasLeft (refused result))
    → IfErr result Caused → IfErr result (λ own. IsRefusedFor run from survey_of (owed_at (Some own)) HasLeft Caused own)
refused-for run from survey_of owed_at HasLeft Caused (Ok x) named owes left caused = tt
refused-for {X} run from survey_of owed_at HasLeft Caused (Err own) named owes left caused =
    record { named = named; owes = owes; left = λ write. left (begun own write); cause = caused }
  where
    begun : (real : Refusal) → IsWrite real → IsWritten {X = X} (Err real)
    begun (refusal.Write which) write = tt
    begun other write = absurd write

-- what follows where no output was begun
pub unless-map : (own : Refusal) (A B : Type 0) → (A → B) → UnlessWrite own A → UnlessWrite own B
unless-map (refusal.Write which) A B f known = tt
unless-map (refusal.Book number fault) A B f known = f known
unless-map (refusal.Benchmarks fault) A B f known = f known
unless-map (refusal.Weights fault) A B f known = f known
unless-map (refusal.Certificate fault) A B f known = f known
unless-map (refusal.Differences fault) A B f known = f known
unless-map (refusal.Heights fault) A B f known = f known
unless-map (refusal.Changes fault) A B f known = f known
unless-map (refusal.Unfit fault) A B f known = f known
unless-map (refusal.Mended fault) A B f known = f known
unless-map (refusal.Network fault) A B f known = f known
unless-map (refusal.Read which) A B f known = f known
unless-map refusal.NoMemory A B f known = f known

-- also for an answer that may be none
pub unless-all : {X : Type 0} (A B : Type 0) (result : Result X Refusal) → (A → B) → IfErr result (λ own. UnlessWrite own A) → IfErr result (λ own. UnlessWrite own B)
unless-all A B (Ok x) f known = tt
unless-all A B (Err own) f known = unless-map own A B f known

-- where the files that a failed write leaves are left in another folder as well, so is the refusal
pub refused-for-map : {Y : Type 0} (run : Run) (from : Files) (survey_of : Y → Survey) (owed : Owed Y) (HasLeft HasLeft' : Option Refusal → Type 0) (Caused : Refusal → Type 0)
    (own : Refusal)
    → ((answer : Option Refusal) → HasLeft answer → HasLeft' answer)
    → IsRefusedFor run from survey_of owed HasLeft Caused own → IsRefusedFor run from survey_of owed HasLeft' Caused own
refused-for-map run from survey_of owed HasLeft HasLeft' Caused own f is = record {
  named = is.named;
  owes = is.owes;
  left = λ write. f (Some own) (is.left write);
  cause = is.cause;
}
