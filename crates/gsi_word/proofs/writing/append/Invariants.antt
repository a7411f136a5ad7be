use Rattle.std.proofs.Common.{◌≡◌, ◌++◌, take}
use Rattle.gsi_word.proofs.writing.append.Given as goal

abbrev pub invariant-loop-byte : goal.invariant-loop-byte
invariant-loop-byte l = l.out.items ≡ l.initial.out.items ++ take l.byte-index l.bytes
