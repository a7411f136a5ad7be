use Rattle.std.proofs.Common.{◌≡◌, ◌++◌, drop}
use Rattle.std.specs.List.{flat_map}
use Rattle.th_inputs.specs.Shown.{shown_byte}
use Rattle.th_inputs.proofs.inputs.write_shown.Given as goal

abbrev pub invariant-loop-byte : goal.invariant-loop-byte
invariant-loop-byte l = l.page ++ flat_map shown_byte (drop l.byte-index l.bytes) ≡ l.fn.page ++ flat_map shown_byte l.bytes
