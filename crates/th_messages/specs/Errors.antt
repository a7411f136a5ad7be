-- A line on standard error.
use Rattle.std.specs.Prelude.{◌≡◌, ◌≤◌, ℕ, Bool, true, List, [], Option, Some}
use Rattle.std.specs.Io.KnownBytes.{Keeps}
use Rattle.th_devices.specs.Devices.{SinkState}
use Rattle.th_devices.specs.Spots.{errors}

-- a line that was begun on standard error: it holds nothing, unless that failed
pub record IsBegunThere (tells : Bool) (line : SinkState) : Type 0 where
  pub empty : tells ≡ true → line.counts.failures ≡ 0 → line.held ≡ Some []
  pub spot : line.spot ≡ errors
  pub room : line.counts.calls ≤ 1

-- no call failed of a line that was ended, and if the folder reports its bytes, standard error has what the line held
pub record IsWholeThere (tells : Bool) (line : SinkState) (told : Option (List ℕ)) : Type 0 where
  pub unfailed : tells ≡ true → line.counts.failures ≡ 0
  pub there : tells ≡ true → Keeps line.held told
