use Rattle.std.proofs.Common.{◌↔◌, drop, map}
use Rattle.gsi_word.specs.Words.{parts_of}
use Rattle.gsi_block.specs.Spelled.{AreSpelled}
use Rattle.gsi_block.proofs.blocks.are_spelled.Given as goal

-- all are spelled just where the rest are
abbrev pub invariant-loop-word : goal.invariant-loop-word
invariant-loop-word l = AreSpelled l.width (map parts_of l.words) ↔ AreSpelled l.width (map parts_of (drop l.word-index l.words))
