use Rattle.std.proofs.Common.{◌≡◌, ◌+◌, ◌-◌, ◌*◌, ◌≤◌, ◌++◌, drop, length, map}
use Rattle.std.specs.List.{flat_map}
use Rattle.gsi_word.specs.Limits.{max_word}
use Rattle.gsi_word.specs.Words.{closed, parts_of}
use Rattle.gsi_block.specs.Spelled.{AreSpelled}
use Rattle.gsi_block.proofs.writing.append_words.Given as goal

abbrev pub invariant-loop-word : goal.invariant-loop-word
invariant-loop-word l = record {
  written : l.line.items ++ flat_map closed (map parts_of (drop l.word-index l.words)) ≡ l.fn.line.items ++ flat_map closed (map parts_of l.words);
  spelled : AreSpelled l.fn.width (map parts_of (drop l.word-index l.words));
  room : length l.line.items + max_word * (length l.words - l.word-index) ≤ length l.fn.line.items + max_word * length l.words;
}
