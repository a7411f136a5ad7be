use Rattle.std.proofs.Common.{◌≡◌, map, take}
use Rattle.gsi_word.specs.Words.{parts_of}
use Rattle.th_book.specs.Inside.Countings.{counted_in}
use Rattle.th_book.proofs.countings.Counted.count.Given as goal

abbrev pub invariant-loop-word : goal.invariant-loop-word
invariant-loop-word l = l.self ≡ counted_in (map parts_of (take l.word-index l.words))
