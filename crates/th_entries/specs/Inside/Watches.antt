-- What is known of the sights of a book after some of its lines.
use Rattle.std.specs.Prelude.{◌≡◌, ℕ, ◌==◌, ◌||◌, not, Bool, false, List, ◌∷◌, map, take}
use Rattle.gsi_word.specs.Words.{Parts}
use Rattle.th_book.specs.Lines.{ParsedLine}
use Rattle.th_entries.specs.Counts.{counts_below}
use Rattle.th_entries.specs.Inside.Counts.{one_more}
use Rattle.th_entries.specs.Words.{has, has_word, measured}
use Rattle.th_entries.specs.declared.sights.SightWatch.{SightWatch}

-- which of some numbers were seen, with the words of one more block
abbrev pub with_words : List Parts → List Bool → List ℕ → List Bool
with_words words (own ∷ seen) (number ∷ numbers) = (own || has number words) ∷ with_words words seen numbers
with_words words seen numbers = seen

-- with one more block that is no sight
abbrev pub with_unsighted : List Parts → SightWatch → SightWatch
with_unsighted words watch = record watch { blocks = one_more watch.blocks; words = with_words words watch.words measured }

-- the lines before place `n` were seen: whether one is a sight, and if none is, how many are blocks, and their words
pub record IsWatched (parsed : List ParsedLine) (n : ℕ) (watch : SightWatch) : Type 0 where
  pub sighted : watch.sighted ≡ not ((counts_below parsed n).sights == 0)
  pub blocks : watch.sighted ≡ false → watch.blocks ≡ (counts_below parsed n).blocks
  pub words : watch.sighted ≡ false → watch.words ≡ map (has_word (take n parsed)) measured
