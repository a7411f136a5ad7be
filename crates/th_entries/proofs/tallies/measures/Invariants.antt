use Rattle.std.proofs.Common.{◌≡◌, map, take}
use Rattle.std.specs.List.{list_any}
use Rattle.gsi_word.specs.Words.{parts_of}
use Rattle.th_entries.specs.Reviews.{is_measured}
use Rattle.th_entries.proofs.tallies.measures.Given as goal

abbrev pub invariant-loop-word : goal.invariant-loop-word
invariant-loop-word l = l.measured ≡ list_any is_measured (map parts_of (take l.word-index l.words))
