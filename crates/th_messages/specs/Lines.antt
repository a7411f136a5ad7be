-- A line that is put together part by part, and passed on to a sink.
use Rattle.std.specs.Prelude.{◌≡◌, ◌≤◌, ◌<◌, ◌+◌, ◌*◌, ◌^◌, ℕ, true, List, [], Some, IfSome, Result, OnOk, OnErr}
use Rattle.std.specs.Io.KnownBytes.{Appends, Keeps, append_known}
use Rattle.th_devices.specs.Devices.{SinkState}
use Rattle.th_devices.specs.Limits.{calls_before}
use Rattle.th_devices.specs.declared.devices.Failed.{Failed}

-- what a line is, given its sink and the bytes that wait to be passed on: the sink, as if it held them too
abbrev pub line_of : SinkState → List ℕ → SinkState
line_of sink waiting = record sink { held = append_known sink.held waiting }

-- how many calls of its sink one part of a line takes at most
abbrev pub part_calls : ℕ
part_calls = 2 ^ 80

-- so many parts may be put on a line
abbrev pub HasRoom : ℕ → SinkState → Type 0
HasRoom parts line = line.counts.calls + parts * part_calls ≤ calls_before

-- a text was put behind what a line held, with so many calls at most, or a call of its sink failed
pub record IsPutIn {X : Type 0} (most : ℕ) (text : List ℕ) (old new : SinkState) (result : Result X Failed) : Type 0 where
  pub taken : OnOk result (Appends old.held new.held text)
  pub failed : OnErr result (0 < new.counts.failures)
  pub failures : old.counts.failures ≤ new.counts.failures
  pub spot : new.spot ≡ old.spot
  pub often : new.counts.calls ≤ old.counts.calls + most

-- a text was put on a line, in so many parts
abbrev pub IsPut : {X : Type 0} → ℕ → List ℕ → SinkState → SinkState → Result X Failed → Type 0
IsPut parts text old new result = IsPutIn (parts * part_calls) text old new result

-- a line was begun over a sink: it holds nothing, unless that failed
pub record IsNew (sink line : SinkState) : Type 0 where
  pub empty : line.counts.failures ≡ 0 → IfSome sink.held (λ _. line.held ≡ Some [])
  pub spot : line.spot ≡ sink.spot
  pub room : line.counts.calls ≤ sink.counts.calls + 1

-- a line was ended: its sink holds the whole text and is finished, unless a call of it failed
pub record IsEnded (line sink : SinkState) : Type 0 where
  pub whole : sink.counts.failures ≡ 0 → (sink.is_finished ≡ true) × Keeps line.held sink.held
  pub failures : line.counts.failures ≤ sink.counts.failures
  pub spot : sink.spot ≡ line.spot
