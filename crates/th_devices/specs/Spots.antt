-- Where bytes are.
use Rattle.std.specs.Prelude.{ℕ, Bool, true, false, List}

-- where bytes are: in the file with this name, in a standard stream, or in no folder
pub data Spot : Type 0 where
  file : List ℕ → Spot
  input : Spot
  output : Spot
  errors : Spot
  nowhere : Spot

-- whether the bytes at a spot are those of a file
abbrev pub is_file : Spot → Bool
is_file (file name) = true
is_file other = false
