-- What tells an input from others.
use Rattle.std.specs.Prelude.{◌≡◌, ◌-◌, ◌^◌, ℕ, List, length, min}
use Rattle.sha2.specs.Hashers.{Holds256}
use Rattle.sha2.specs.Sha256.{sha256}
use Rattle.th_inputs.specs.declared.inputs.Input.{Input}
use Rattle.th_inputs.specs.declared.sums.Sum.{Sum}
use Rattle.th_inputs.specs.declared.sums.Summing.{Summing}

-- the sum of an input with this text: how many bytes it has, and their digest
abbrev pub sum_of : Input → List ℕ → Sum
sum_of which text = record { which = which; length = length text; digest = sha256 text }

-- these bytes were taken so far
pub record HasTaken (summing : Summing) (bytes : List ℕ) : Type 0 where
  pub counted : summing.length ≡ min (length bytes) (2 ^ 64 - 1)
  pub held : Holds256 summing.hasher bytes
