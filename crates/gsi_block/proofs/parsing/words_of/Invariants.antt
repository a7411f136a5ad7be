use Rattle.std.proofs.Common.{◌≡◌, ◌+◌, ◌-◌, ◌++◌, length, map}
use Rattle.gsi_word.specs.Words.{parts_of, result_map}
use Rattle.gsi_block.specs.Limits.{max_words}
use Rattle.gsi_block.specs.Blocks.{words_from}
use Rattle.gsi_block.proofs.parsing.words_of.Given as goal

abbrev pub invariant-loop-before : goal.invariant-loop-before
invariant-loop-before l = record {
  so_far : words_from max_words l.width 1 l.bytes ≡ result_map (λ further. map parts_of l.words.items ++ further) (words_from (max_words - l.before) l.width (l.before + 1) l.rest);
  counted : length l.words.items ≡ l.before;
}
