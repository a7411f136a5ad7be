-- Inputs stay as they were.
use Rattle.std.proofs.Common.{◌≡◌, ◌∙◌, ℕ, Bool, true, false, List, None, inl, inr, refl, sym}
use Rattle.th_devices.specs.Spots.{Spot, file}
use Rattle.th_devices.specs.Folders.{Failing}
use Rattle.th_commands.specs.declared.plans.Plan.{Plan}
use Rattle.th_files.proofs.OutputLemmas.{file-apart}
use Rattle.th_program.specs.Done.{IsInputOf, IsRun}
use Rattle.th_files.specs.Owed.{Told}
use Rattle.th_inputs.specs.declared.inputs.Input.{Input}

kept_told : {F : Type 0} (tells : Bool) (held : F → Told) (has_failed : F → Spot → Bool) (failing : F → Failing) (old new : F) (asked : Plan) (status : ℕ) → tells ≡ true
    → IsRun tells held has_failed failing old new asked status → (which : Input) (name : List ℕ) → IsInputOf asked which name → held new (file name) ≡ held old (file name)
kept_told tells held has_failed failing old new asked status telling (inl (keeps, inl run)) which name read =
    run.others (file name) (file-apart name) (keeps telling which name read)
kept_told tells held has_failed failing old new asked status telling (inl (keeps, inr (own, run))) which name read =
    run.others (file name) (file-apart name) (keeps telling which name read)
kept_told tells held has_failed failing old new asked status telling (inr (inl (is, (written, overwritten, other, would, begun)))) which name read =
    begun.untouched (file name) (file-apart name)
kept_told tells held has_failed failing old new asked status telling (inr (inr (is, begun))) which name read = begun.untouched (file name) (file-apart name)

-- a run changes no input
pub kept : {F : Type 0} (tells : Bool) (held : F → Told) (has_failed : F → Spot → Bool) (failing : F → Failing) → ((folder : F) (spot : Spot) → tells ≡ false → held folder spot ≡ None)
    → (old new : F) (asked : Plan) (status : ℕ) → IsRun tells held has_failed failing old new asked status → (which : Input) (name : List ℕ) → IsInputOf asked which name
    → held new (file name) ≡ held old (file name)
kept tells held has_failed failing tells_or_not old new asked status run which name read = go tells refl
  where
    go : (telling : Bool) → tells ≡ telling → held new (file name) ≡ held old (file name)
    go true is = kept_told tells held has_failed failing old new asked status is run which name read
    go false is = tells_or_not new (file name) is ∙ sym (tells_or_not old (file name) is)
