use Rattle.std.proofs.Common.{◌≡◌, take}
use Rattle.std.specs.List.{flat_map}
use Rattle.th_inputs.specs.Shown.{shown_byte}
use Rattle.th_inputs.proofs.shown.shown_text.Given as goal

abbrev pub invariant-loop-byte : goal.invariant-loop-byte
invariant-loop-byte l = l.bytes.items ≡ flat_map shown_byte (take l.byte-index l.byte-items)
