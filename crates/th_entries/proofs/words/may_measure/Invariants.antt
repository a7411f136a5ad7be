use Rattle.std.proofs.Common.{◌≡◌, false, map, take}
use Rattle.std.specs.List.{list_any}
use Rattle.gsi_word.specs.Words.{parts_of}
use Rattle.th_entries.specs.Words.{is_one_of, measured}
use Rattle.th_entries.proofs.words.may_measure.Given as goal

abbrev pub invariant-loop-word : goal.invariant-loop-word
invariant-loop-word l = list_any (is_one_of measured) (map parts_of (take l.word-index l.words)) ≡ false
