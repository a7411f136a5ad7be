-- Where the devices of a folder may fail, what it does with the sinks that it takes back, and the spots of origins and targets.
use Rattle.std.specs.Prelude.{◌≡◌, ◌≢◌, ◌<◌, ℕ, Bool, true, false, List, [], ◌∷◌, Option, Some, slice_get, take}
use Rattle.th_devices.specs.Devices.{SinkState}
use Rattle.th_devices.specs.Spots.{Spot, file, input, is_file, output}
use Rattle.th_devices.specs.declared.folders.Origin.{Origin}
use Rattle.th_devices.specs.declared.folders.Origin.TheVariants as origin
use Rattle.th_devices.specs.declared.folders.Target.{Target}
use Rattle.th_devices.specs.declared.folders.Target.TheVariants as target

-- whether reading what is at a spot may fail, as it does where nothing is, and whether writing to it may
pub record Failing : Type 0 where
  pub reading : Spot → Bool
  pub writing : Spot → Bool

-- where an origin is
abbrev pub spot_of_origin : Origin → Spot
spot_of_origin (origin.File name) = file name.now
spot_of_origin origin.Input = input

-- where a target is
abbrev pub spot_of_target : Target → Spot
spot_of_target (target.File name) = file name.now
spot_of_target target.Output = output

-- A folder that took a sink back without giving its bytes a place. Each file is as it was, while a stream has the bytes of a sink that was called. Each other
-- spot is as it was. A folder that reports its bytes knows whether a call of the sink of a stream failed.
pub record IsClosed {F : Type 0} (tells : Bool) (held_in : F → Spot → Option (List ℕ)) (has_failed : F → Spot → Bool) (sink : SinkState) (old new : F) : Type 0 where
  pub untouched : sink.counts.calls ≡ 0 → sink.is_finished ≡ false → new ≡ old
  pub file : is_file sink.spot ≡ true → new ≡ old
  pub called : is_file sink.spot ≡ false → 0 < sink.counts.calls → held_in new sink.spot ≡ sink.held
  pub finished : is_file sink.spot ≡ false → sink.is_finished ≡ true → held_in new sink.spot ≡ sink.held
  pub others : (spot : Spot) → spot ≢ sink.spot → held_in new spot ≡ held_in old spot
  pub failed : tells ≡ true → is_file sink.spot ≡ false → 0 < sink.counts.failures → has_failed new sink.spot ≡ true
  pub done : tells ≡ true → is_file sink.spot ≡ false → sink.is_finished ≡ true → sink.counts.failures ≡ 0 → has_failed new sink.spot ≡ false

-- A folder in which the bytes of a finished sink took their place, which it tells if it reports its bytes. Each other spot is as it was. Such a folder also
-- knows whether a call of that sink failed.
pub record IsPlaced {F : Type 0} (tells : Bool) (held_in : F → Spot → Option (List ℕ)) (has_failed : F → Spot → Bool) (sink : SinkState) (old new : F) : Type 0 where
  pub there : tells ≡ true → held_in new sink.spot ≡ sink.held
  pub others : (spot : Spot) → spot ≢ sink.spot → held_in new spot ≡ held_in old spot
  pub failed : tells ≡ true → 0 < sink.counts.failures → has_failed new sink.spot ≡ true
  pub done : tells ≡ true → sink.counts.failures ≡ 0 → has_failed new sink.spot ≡ false

-- a sink of a file that was finished
abbrev pub IsWholeFile : SinkState → Type 0
IsWholeFile sink = (is_file sink.spot ≡ true) × (sink.is_finished ≡ true)

-- the bytes of finished sinks took their places one after the other, in this order
abbrev pub ArePlaced : {F : Type 0} → Bool → (F → Spot → Option (List ℕ)) → (F → Spot → Bool) → List SinkState → F → F → Type 0
ArePlaced tells held_in has_failed [] old new = new ≡ old
ArePlaced {F} tells held_in has_failed (sink ∷ sinks) old new =
    (next : F) × IsPlaced tells held_in has_failed sink old next × ArePlaced tells held_in has_failed sinks next new

-- the bytes of the sink with this number, counted from 0, could not take their place; those before it did, and it and later ones left what was there
pub record IsStopped {F : Type 0} (tells : Bool) (held_in : F → Spot → Option (List ℕ)) (has_failed : F → Spot → Bool) (failing : F → Failing) (sinks : List SinkState) (old new : F) (number : ℕ) : Type 0 where
  pub sink : SinkState
  pub at : slice_get sinks number ≡ Some sink
  pub allowed : (failing old).writing sink.spot ≡ true
  pub before : ArePlaced tells held_in has_failed (take number sinks) old new
