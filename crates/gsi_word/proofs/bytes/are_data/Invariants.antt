use Rattle.std.proofs.Common.{◌≡◌, take}
use Rattle.std.specs.List.{list_all}
use Rattle.gsi_word.specs.Bytes.{is_data}
use Rattle.gsi_word.proofs.bytes.are_data.Given as goal

abbrev pub invariant-loop-byte : goal.invariant-loop-byte
invariant-loop-byte l = l.all ≡ list_all is_data (take l.byte-index l.bytes)
