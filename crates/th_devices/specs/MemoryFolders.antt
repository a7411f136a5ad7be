-- A folder in memory: its files, the last that was closed first, and its standard streams.
use Rattle.std.specs.Prelude.{ℕ, Bool, true, false, List, [], ◌∷◌, Option, Some, None, if◌then◌else◌, nat_lt, option_map, string_bytes}
use Rattle.std.specs.Option.{option_map_or}
use Rattle.std.specs.Str.{bytes_eq}
use Rattle.th_devices.specs.Devices.{SinkState}
use Rattle.th_devices.specs.Memory.{TextSinkState}
use Rattle.th_devices.specs.Spots.{Spot, errors, file, input, nowhere, output}
use Rattle.th_devices.specs.declared.memory_folders.MemorySink.{MemorySink}
use Rattle.th_devices.specs.declared.memory_folders.MemorySink.TheVariants as sink
use Rattle.th_devices.specs.declared.memory_folders.Files.{End, Files, More'}

-- where a sink is, what it holds, and the sink
abbrev pub spot_of : MemorySink → Spot
spot_of (sink.File shelf) = file (string_bytes shelf.value.name)
spot_of (sink.Output own) = output
spot_of (sink.Errors own) = errors

abbrev pub sink_of : MemorySink → TextSinkState
sink_of (sink.File shelf) = shelf.value.sink
sink_of (sink.Output own) = own
sink_of (sink.Errors own) = own

abbrev pub memory_sink : MemorySink → SinkState
memory_sink own =
    record { spot = spot_of own; held = Some (sink_of own).held; is_finished = (sink_of own).finished; may_fail = true; counts = (sink_of own).counts }

-- names of files, each with its sink
abbrev pub Named : Type 0
Named = List (List ℕ × TextSinkState)

abbrev pub files_in : Files → Named
files_in End = []
files_in (More' p name sink next) = (string_bytes name, sink) ∷ files_in next

-- the sink of the file with this name; of several, the one closed last
abbrev pub found_in : Named → List ℕ → Option TextSinkState
found_in [] wanted = None
found_in (one ∷ files) wanted = if bytes_eq one.0 wanted then Some one.1 else found_in files wanted

-- a folder in memory
pub record MemoryFolderState : Type 0 where
  pub files : Named
  pub input : List ℕ
  pub output : Option TextSinkState
  pub errors : Option TextSinkState

-- the bytes at a spot
abbrev pub memory_held : MemoryFolderState → Spot → Option (List ℕ)
memory_held folder (file name) = option_map (λ own. own.held) (found_in folder.files name)
memory_held folder input = Some folder.input
memory_held folder output = option_map (λ own. own.held) folder.output
memory_held folder errors = option_map (λ own. own.held) folder.errors
memory_held folder nowhere = None

-- whether a call of the sink closed last for this spot failed
abbrev pub failed_of : Option TextSinkState → Bool
failed_of own = option_map_or (λ known. nat_lt 0 known.counts.failures) own false

abbrev pub memory_failed : MemoryFolderState → Spot → Bool
memory_failed folder (file name) = failed_of (found_in folder.files name)
memory_failed folder output = failed_of folder.output
memory_failed folder errors = failed_of folder.errors
memory_failed folder other = false
