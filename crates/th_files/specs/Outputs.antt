-- Where the outputs of a run go, and what a run leaves there.
use Rattle.std.specs.Prelude.{◌≡◌, ◌++◌, ◌⊎◌, ℕ, Bool, true, List, Option, Some, None, map, take}
use Rattle.th_devices.specs.Spots.{Spot, file, output}
use Rattle.th_files.specs.Owed.{Told}
use Rattle.th_run_parts.specs.Outputs.{ending_of}
use Rattle.th_run_parts.specs.Writes.{Complete, EachOut, Stage, Texts, Whole, Broken, Untouched, progress_of}
use Rattle.th_run_parts.specs.declared.outputs.Output.{Output}
use Rattle.th_run_parts.specs.declared.refusals.Refusal.{Refusal}

-- the spot has this text, if the folder reports its bytes
abbrev pub Holds : Bool → Told → Spot → List ℕ → Type 0
Holds tells told spot text = tells ≡ true → told spot ≡ Some text

-- standard output has a beginning of this text, perhaps none of it or all of it, if the folder reports its bytes
abbrev pub HoldsPart : Bool → Told → List ℕ → Type 0
HoldsPart tells told text = tells ≡ true → (n : ℕ) × (told output ≡ Some (take n text))

-- the spot of an output with this ending, if it has one
abbrev pub spot_at : List ℕ → Option (List ℕ) → Spot
spot_at prefix None = output
spot_at prefix (Some ending) = file (prefix ++ ending)

-- the spots of the outputs of a run with this prefix
abbrev pub spots_of : List ℕ → List Output → List Spot
spots_of prefix outputs = map (λ which. spot_at prefix (ending_of which)) outputs

-- what is at the spot of an output with this text, by how far it was written: the whole text, or what was there before, even if the output failed
abbrev pub IsLeft : Bool → Stage → List ℕ → Option (List ℕ) → Option (List ℕ) → Type 0
IsLeft tells Whole text old new = tells ≡ true → new ≡ Some text
IsLeft tells Broken text old new = new ≡ old
IsLeft tells Untouched text old new = new ≡ old

-- what is there of outputs with these texts before and after a run with this refusal, or with none. After a failed write all is as it was; or one could not take
-- its place, those before it are new, and it and later ones are as they were
abbrev pub AreLeftAs : Bool → Option Refusal → Texts → List (Option (List ℕ)) → List (Option (List ℕ)) → Type 0
AreLeftAs tells None texts olds news = EachOut (IsLeft tells) Complete texts olds news
AreLeftAs tells (Some own) texts olds news = (news ≡ olds) ⊎ EachOut (IsLeft tells) (progress_of (Some own)) texts olds news

-- and at the spots of the outputs
abbrev pub AreLeft : Bool → Told → Told → Option Refusal → Texts → List Spot → Type 0
AreLeft tells old new answer texts spots = AreLeftAs tells answer texts (map old spots) (map new spots)
