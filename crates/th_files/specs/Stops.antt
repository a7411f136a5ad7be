-- Outputs that are not inputs, and what stops a run.
use Rattle.std.specs.Prelude.{◌≡◌, ◌≢◌, ℕ, Bool, true, List, Some, slice_get, string_bytes}
use Rattle.std.specs.List.{Contains}
use Rattle.th_devices.specs.Spots.{Spot, file}
use Rattle.th_commands.specs.Asked.{Files}
use Rattle.th_files.specs.Owed.{HasName}
use Rattle.th_files.specs.declared.overwrites.Stop.{Stop}
use Rattle.th_files.specs.declared.overwrites.Stop.TheVariants as stop
use Rattle.th_inputs.specs.declared.inputs.Input.{Input}

-- the file of this name is none of these books, if the folder reports its bytes
abbrev pub IsNoBook : Bool → List (List ℕ) → List ℕ → Type 0
IsNoBook tells names output = tells ≡ true → (place : ℕ) (name : List ℕ) → slice_get names place ≡ Some name → output ≢ name

-- the file of this name is no input, if the folder reports its bytes
abbrev pub IsApart : Bool → Files → List ℕ → Type 0
IsApart tells from output = tells ≡ true → (which : Input) (name : List ℕ) → HasName from which name → output ≢ name

-- no file at one of these spots is an input, if the folder reports its bytes
abbrev pub AreKept : Bool → Files → List Spot → Type 0
AreKept tells from spots = tells ≡ true → (which : Input) (name : List ℕ) → HasName from which name → Contains spots (file name) → ⊥

-- the file at one of these spots would change an input, or memory ran out
abbrev pub IsStop : Bool → Files → List Spot → Stop → Type 0
IsStop tells from spots (stop.Overwrite own) =
    Contains spots (file (string_bytes own.output)) × HasName from own.input own.name.now × (tells ≡ true → string_bytes own.output ≡ own.name.now)
IsStop tells from spots stop.NoMemory = Unit {0}
