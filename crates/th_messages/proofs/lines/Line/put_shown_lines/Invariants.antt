use Rattle.std.proofs.Common.{◌≡◌, ◌+◌, ◌*◌, ◌≤◌, take}
use Rattle.std.specs.Io.KnownBytes.{Appends}
use Rattle.std.specs.List.{flat_map}
use Rattle.th_inputs.specs.Shown.{shown_in_lines}
use Rattle.th_messages.proofs.lines.Line.put_shown_lines.Given as goal

abbrev pub invariant-loop-byte : goal.invariant-loop-byte
invariant-loop-byte g l =
    Appends l.fn.self.held l.self.held (flat_map shown_in_lines (take l.byte-index l.byte-items))
    × (l.self.counts.calls ≤ l.fn.self.counts.calls + 4096 * l.byte-index)
    × (l.fn.self.counts.failures ≤ l.self.counts.failures)
    × (l.self.spot ≡ l.fn.self.spot)
