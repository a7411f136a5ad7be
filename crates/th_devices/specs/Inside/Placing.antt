-- How the files of a run take their places, one after the other.
use Rattle.std.specs.Prelude.{◌≡◌, ℕ, Bool, true, List, Option, Result, Ok, Err, IfErr, OnOk}
use Rattle.th_devices.specs.Devices.{SinkState}
use Rattle.th_devices.specs.Spots.{Spot}
use Rattle.th_devices.specs.Folders.{Failing, IsPlaced}

-- the next sink, which has this number: it takes its place or is the first that cannot, unless an earlier one was
abbrev pub IsNext : {F : Type 0} → Bool → (F → Spot → Option (List ℕ)) → (F → Spot → Bool) → (F → Failing) → SinkState → ℕ → Result (Unit {0}) ℕ
    → F → F → Result (Unit {0}) ℕ → Type 0
IsNext tells held_in has_failed failing sink number (Ok done) old new result =
    OnOk result (IsPlaced tells held_in has_failed sink old new) × IfErr result (λ own. (own ≡ number) × (new ≡ old) × ((failing old).writing sink.spot ≡ true))
IsNext tells held_in has_failed failing sink number (Err before) old new result = (result ≡ Err before) × (new ≡ old)
