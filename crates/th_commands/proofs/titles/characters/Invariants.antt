use Rattle.std.proofs.Common.{◌≡◌, ◌≤◌, take}
use Rattle.th_commands.specs.Titles.{characters}
use Rattle.th_commands.proofs.titles.characters.Given as goal

abbrev pub invariant-loop-byte : goal.invariant-loop-byte
invariant-loop-byte l = record {
  counted : l.count ≡ characters (take l.byte-index l.bytes);
  small : l.count ≤ l.byte-index;
}
