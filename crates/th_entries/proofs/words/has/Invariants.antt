use Rattle.std.proofs.Common.{◌≡◌, map, take}
use Rattle.gsi_word.specs.Words.{parts_of}
use Rattle.th_entries.specs.Words.{has}
use Rattle.th_entries.proofs.words.has.Given as goal

abbrev pub invariant-loop-word : goal.invariant-loop-word
invariant-loop-word l = l.found ≡ has l.number (map parts_of (take l.word-index l.words))
