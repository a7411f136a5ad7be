use Rattle.std.proofs.Common.{◌≡◌, ◌-◌, ◌+◌, ◌≤◌, length, take}
use Rattle.std.specs.Io.KnownBytes.{Appends}
use Rattle.th_messages.proofs.lines.pass_on.Given as goal

abbrev pub invariant-loop-done : goal.invariant-loop-done
invariant-loop-done g l =
    let old = g.K.Sink.state l.fn.sink in
    let new = g.K.Sink.state l.sink in
    Appends old.held new.held (take l.done l.bytes)
    × (l.done ≤ length l.bytes)
    × (new.counts.calls ≤ old.counts.calls + l.done)
    × (new.counts.failures ≡ old.counts.failures)
    × (new.spot ≡ old.spot)

abbrev pub decreases-loop-done : goal.decreases-loop-done
decreases-loop-done g l = length l.bytes - l.done
