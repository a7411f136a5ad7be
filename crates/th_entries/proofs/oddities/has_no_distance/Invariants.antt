use Rattle.std.proofs.Common.{◌≡◌, map, take}
use Rattle.std.specs.List.{list_any}
use Rattle.gsi_word.specs.Words.{parts_of}
use Rattle.th_entries.specs.Oddities.{is_no_distance}
use Rattle.th_entries.proofs.oddities.has_no_distance.Given as goal

abbrev pub invariant-loop-word : goal.invariant-loop-word
invariant-loop-word l = l.none ≡ list_any is_no_distance (map parts_of (take l.word-index l.words))
