use Rattle.std.proofs.Common.{◌≡◌, ◌+◌, ◌*◌, ◌≤◌, take}
use Rattle.std.specs.Io.KnownBytes.{Appends}
use Rattle.th_messages.proofs.lines.Line.put_bytes.Given as goal

abbrev pub invariant-loop-byte : goal.invariant-loop-byte
invariant-loop-byte g l =
    Appends l.fn.self.held l.self.held (take l.byte-index l.bytes)
    × (l.self.counts.calls ≤ l.fn.self.counts.calls + 1024 * l.byte-index)
    × (l.fn.self.counts.failures ≤ l.self.counts.failures)
    × (l.self.spot ≡ l.fn.self.spot)
