-- The sources and sinks that a folder gave for a run.
use Rattle.std.specs.Prelude.{◌≡◌, ◌≢◌, ◌<◌, Bool, true, false, List, [], ◌∷◌, ℕ, Option, Some, None, Result, Ok, Err, slice_get}
use Rattle.std.specs.List.{AllByRecursion, AllZip}
use Rattle.th_devices.specs.Devices.{IsMade, IsOpened, SinkState, SourceState}
use Rattle.th_devices.specs.Spots.{Spot, file, is_file}
use Rattle.th_devices.specs.Folders.{ArePlaced, Failing, IsStopped}
use Rattle.th_commands.specs.Asked.{Files}
use Rattle.th_files.specs.Owed.{Told}
use Rattle.th_run_parts.specs.declared.outputs.Output.{Output}
use Rattle.th_run_parts.specs.declared.refusals.Refusal.{Refusal}
use Rattle.th_run_parts.specs.declared.refusals.Refusal.TheVariants as refusal

-- sources of the files of these names
abbrev pub EachIsOpened : {S : Type 0} → (S → SourceState) → (Spot → Bool) → Told → List (List ℕ) → List S → Type 0
EachIsOpened state_of may_fail told = AllZip (λ name source. IsOpened (may_fail (file name)) (told (file name)) (state_of source))

-- a source of the file of this name, or none where there is no name
abbrev pub IsOpenedIfAny : {S : Type 0} → (S → SourceState) → (Spot → Bool) → Told → Option (List ℕ) → Option S → Type 0
IsOpenedIfAny state_of may_fail told (Some name) (Some source) = IsOpened (may_fail (file name)) (told (file name)) (state_of source)
IsOpenedIfAny state_of may_fail told None None = Unit {0}
IsOpenedIfAny state_of may_fail told name source = ⊥

-- the sources of the named files, of a folder that says where reading may fail
pub record AreOpened {S : Type 0} (state_of : S → SourceState) (may_fail : Spot → Bool) (told : Told) (from : Files) (books : List S) (benchmarks : S) (weights : Option S) : Type 0 where
  pub of_books : EachIsOpened state_of may_fail told from.books books
  pub of_benchmarks : IsOpened (may_fail (file from.benchmarks)) (told (file from.benchmarks)) (state_of benchmarks)
  pub of_weights : IsOpenedIfAny state_of may_fail told from.weights weights

-- sinks for these spots, of a folder that says where writing may fail
abbrev pub AreMade : {K : Type 0} → (K → SinkState) → Bool → (Spot → Bool) → List Spot → List K → Type 0
AreMade state_of tells may_fail = AllZip (λ spot sink. IsMade tells (may_fail spot) spot (state_of sink))

-- a sink that was not called
abbrev pub IsUntouched : SinkState → Type 0
IsUntouched sink = (sink.counts.calls ≡ 0) × (sink.is_finished ≡ false)

-- a folder took a sink back, and other sinks with it: a sink of a stream that was called or finished left its bytes at its spot, and one of a file what was there
-- before
pub record IsTaken (before after : Told) (sink : SinkState) : Type 0 where
  pub called : is_file sink.spot ≡ false → 0 < sink.counts.calls → after sink.spot ≡ sink.held
  pub finished : is_file sink.spot ≡ false → sink.is_finished ≡ true → after sink.spot ≡ sink.held
  pub file : is_file sink.spot ≡ true → after sink.spot ≡ before sink.spot

-- The sinks of the files of a run that ended with this answer were given back: their bytes took their places, or the first that could not is refused. If the run
-- was refused, nothing changed.
abbrev pub AreGivenBack : {F : Type 0} → Bool → (F → Told) → (F → Spot → Bool) → (F → Failing) → List SinkState → List Output
    → Result (Unit {0}) Refusal → Result (Unit {0}) Refusal → F → F → Type 0
AreGivenBack tells held has_failed failing sinks outputs (Ok done) (Ok given) old new = ArePlaced tells held has_failed sinks old new
AreGivenBack tells held has_failed failing sinks outputs (Ok done) (Err own) old new =
    (number : ℕ) × (which : Output) × (slice_get outputs number ≡ Some which) × (own ≡ refusal.Write which)
    × IsStopped tells held has_failed failing sinks old new number
AreGivenBack tells held has_failed failing sinks outputs (Err before) result old new = (result ≡ Err before) × (new ≡ old)

-- no two of these spots are the same
abbrev pub AreApart : List Spot → Type 0
AreApart [] = Unit {0}
AreApart (spot ∷ spots) = AllByRecursion (λ other. other ≢ spot) spots × AreApart spots
