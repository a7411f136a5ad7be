-- What is known of the sights of a book after one more line.
use Rattle.std.proofs.Common.{◌≡◌, ℕ, suc, ◌+◌, ◌<◌, ◌≤◌, Bool, true, false, cond, ◌==◌, ◌||◌, not, List, [], ◌∷◌, Ok, None, length, map, take, refl, sym, ap, ◌∙◌, subst, arith}
use Rattle.std.specs.Prelude.{Option, is_some}
use Rattle.std.proofs.Math.Nat.{add-zero}
use Rattle.std.proofs.lemmas.List.{take_more}
use Rattle.gsi_word.specs.Words.{Parts}
use Rattle.th_book.specs.Entered.{AreSound, IsSound, entered_by}
use Rattle.th_book.specs.Faults.{first_fault}
use Rattle.th_book.specs.Limits.{max_book}
use Rattle.th_book.specs.Lines.{ParsedLine, is_setup, is_sight, words_in}
use Rattle.th_book.specs.Places.{line_at, words_at}
use Rattle.th_book.specs.Witnesses.{IsBlankAt, IsBlockAt}
use Rattle.th_book.specs.declared.entries.Entered.{Entered}
use Rattle.th_book.specs.declared.setups.Setup.{Setup}
use Rattle.th_entries.specs.Below.{count_below}
use Rattle.th_entries.specs.Counts.{counts_below, is_block}
use Rattle.th_entries.specs.Inside.Counts.{one_more, with_block, with_line}
use Rattle.th_entries.specs.Inside.Watches.{IsWatched, with_unsighted, with_words}
use Rattle.th_entries.specs.Words.{has, has_word, measured}
use Rattle.th_entries.specs.declared.counts.BookCount.{BookCount}
use Rattle.th_entries.specs.declared.sights.SightWatch.{SightWatch}
use Rattle.th_entries.proofs.AnyLemmas.{any-more, or_false}
use Rattle.th_entries.proofs.BelowLemmas.{count-le}

-- a line is one of few enough
pub few : (n many : ℕ) → many ≤ max_book → n < many → n < 4294967295
few n many short within = let own : many ≤ max_book = short in omega (arith, own, within)

-- a count of places stays within 32 bits
counted : (test : ℕ → Bool) (n : ℕ) (is : Bool) → n < 4294967295 → test n ≡ is → cond is (one_more (count_below test n)) (count_below test n) ≡ count_below test (suc n)
counted test n true small e = omega (arith, small, count-le test n, ap {B = ℕ} (λ (own : Bool). cond own 1 0) e)
counted test n false small e = omega (arith, ap {B = ℕ} (λ (own : Bool). cond own 1 0) e)

one_line : (n : ℕ) → n < 4294967295 → one_more n ≡ suc n
one_line n small = omega (arith, small)

-- the counts after a blank line, and after a block
blank_counted : (parsed : List ParsedLine) (n : ℕ) → n < 4294967295 → is_block (line_at parsed n) ≡ false → words_at parsed n ≡ [] → with_line (counts_below parsed n) ≡ counts_below parsed (suc n)
blank_counted parsed n small block blank =
    let lines = one_line n small in
    let blocks : count_below (λ place. is_block (line_at parsed place)) n ≡ count_below (λ place. is_block (line_at parsed place)) (suc n) = counted (λ place. is_block (line_at parsed place)) n false small block in
    let setups : count_below (λ place. is_setup (words_at parsed place)) n ≡ count_below (λ place. is_setup (words_at parsed place)) (suc n) = counted (λ place. is_setup (words_at parsed place)) n false small (ap is_setup blank) in
    let sights : count_below (λ place. is_sight (words_at parsed place)) n ≡ count_below (λ place. is_sight (words_at parsed place)) (suc n) = counted (λ place. is_sight (words_at parsed place)) n false small (ap is_sight blank) in
    cc

block_counted : (parsed : List ParsedLine) (n : ℕ) (entered : Entered) → n < 4294967295 → is_block (line_at parsed n) ≡ true → is_some entered.station ≡ is_setup (words_at parsed n) → is_some entered.target ≡ is_sight (words_at parsed n)
    → with_block entered (with_line (counts_below parsed n)) ≡ counts_below parsed (suc n)
block_counted parsed n entered small block setup sight =
    let lines = one_line n small in
    let blocks : one_more (count_below (λ place. is_block (line_at parsed place)) n) ≡ count_below (λ place. is_block (line_at parsed place)) (suc n) = counted (λ place. is_block (line_at parsed place)) n true small block in
    let setups : cond (is_some entered.station) (one_more (count_below (λ place. is_setup (words_at parsed place)) n)) (count_below (λ place. is_setup (words_at parsed place)) n) ≡ count_below (λ place. is_setup (words_at parsed place)) (suc n) = counted (λ place. is_setup (words_at parsed place)) n (is_some entered.station) small (sym setup) in
    let sights : cond (is_some entered.target) (one_more (count_below (λ place. is_sight (words_at parsed place)) n)) (count_below (λ place. is_sight (words_at parsed place)) n) ≡ count_below (λ place. is_sight (words_at parsed place)) (suc n) = counted (λ place. is_sight (words_at parsed place)) n (is_some entered.target) small (sym sight) in
    cc

-- the words of one more line
word_more : (parsed : List ParsedLine) (n : ℕ) (number : ℕ) → n < length parsed → has_word (take (suc n) parsed) number ≡ (has_word (take n parsed) number || has number (words_at parsed n))
word_more parsed n number within =
    let one : suc n ≡ n + 1 = omega arith in
    ap (λ many. has_word (take many parsed) number) one
    ∙ ap (λ front. has_word front number) (take_more parsed n (Ok None) within)
    ∙ any-more (λ line. has number (words_in line)) (take n parsed) (line_at parsed n)

-- the numbers that were seen, after one more block
seen_more : (parsed : List ParsedLine) (n : ℕ) (numbers : List ℕ) → n < length parsed
    → with_words (words_at parsed n) (map (has_word (take n parsed)) numbers) numbers ≡ map (has_word (take (suc n) parsed)) numbers
seen_more parsed n [] within = refl
seen_more parsed n (number ∷ numbers) within =
    ap (λ own. own ∷ with_words (words_at parsed n) (map (has_word (take n parsed)) numbers) numbers) (sym (word_more parsed n number within))
    ∙ ap (λ more. has_word (take (suc n) parsed) number ∷ more) (seen_more parsed n numbers within)

-- a line without words shows nothing
none_more : (parsed : List ParsedLine) (n : ℕ) (numbers : List ℕ) → n < length parsed → words_at parsed n ≡ []
    → map (has_word (take n parsed)) numbers ≡ map (has_word (take (suc n) parsed)) numbers
none_more parsed n [] within none = refl
none_more parsed n (number ∷ numbers) within none =
    ap (λ own. own ∷ map (has_word (take n parsed)) numbers)
    (sym (word_more parsed n number within ∙ ap (λ words. has_word (take n parsed) number || has number words) none ∙ or_false (has_word (take n parsed) number)))
    ∙ ap (λ more. has_word (take (suc n) parsed) number ∷ more) (none_more parsed n numbers within none)

-- the next line is blank: the counts are those with it
pub blank-counted : (parsed : List ParsedLine) (n : ℕ) (old new : BookCount) → IsBlankAt parsed n → new ≡ with_line old → old ≡ counts_below parsed n → new ≡ counts_below parsed (suc n)
blank-counted parsed n old new is more was =
    more ∙ ap with_line was
    ∙ blank_counted parsed n (few n (length parsed) is.here.short is.here.within) (ap is_block is.blank) (ap words_in is.blank)

-- what the law of sound books says
abbrev pub Law : Type 0
Law = (parsed : List ParsedLine) (place : ℕ) → first_fault parsed ≡ None → place < length parsed → IsSound (line_at parsed place)

-- so the words of a block are sound
pub sound_at : (parsed : List ParsedLine) (n : ℕ) (setup : Option Setup) (entered : Entered) (words : List Parts) → Law → IsBlockAt parsed n setup entered words → AreSound (words_at parsed n)
sound_at parsed n setup entered words law is = subst AreSound (sym (ap words_in is.is)) (subst IsSound is.is (law parsed n is.here.faultless is.here.within))

-- a block enters what its words say
enters_at : (parsed : List ParsedLine) (n : ℕ) (setup : Option Setup) (entered : Entered) (words : List Parts) → IsBlockAt parsed n setup entered words → entered ≡ entered_by (words_at parsed n)
enters_at parsed n setup entered words is = is.enters ∙ ap entered_by (is.says ∙ sym (ap words_in is.is))

-- and is a sight where it enters a target
sight_at : (parsed : List ParsedLine) (n : ℕ) (setup : Option Setup) (entered : Entered) (words : List Parts) → Law → IsBlockAt parsed n setup entered words → is_some entered.target ≡ is_sight (words_at parsed n)
sight_at parsed n setup entered words law is =
    ap (λ (own : Entered). is_some own.target) (enters_at parsed n setup entered words is) ∙ (sound_at parsed n setup entered words law is).whole.target

-- the next line is a block: the counts are those with it
pub block-counted : (parsed : List ParsedLine) (n : ℕ) (old new : BookCount) (setup : Option Setup) (entered : Entered) (words : List Parts) → Law → IsBlockAt parsed n setup entered words
    → new ≡ with_block entered (with_line old) → old ≡ counts_below parsed n → new ≡ counts_below parsed (suc n)
block-counted parsed n old new setup entered words law is more was =
    more ∙ ap (λ own. with_block entered (with_line own)) was
    ∙ block_counted parsed n entered (few n (length parsed) is.here.short is.here.within) (ap is_block is.is)
    (ap (λ (own : Entered). is_some own.station) (enters_at parsed n setup entered words is) ∙ (sound_at parsed n setup entered words law is).whole.station)
    (sight_at parsed n setup entered words law is)

-- a count with one more line
more_at : (test : ℕ → Bool) (n : ℕ) (is : Bool) → test n ≡ is → count_below test (suc n) ≡ count_below test n + cond is 1 0
more_at test n is e = omega (arith, ap {B = ℕ} (λ (own : Bool). cond own 1 0) e)

blocks_more : (parsed : List ParsedLine) (n : ℕ) (is : Bool) → is_block (line_at parsed n) ≡ is → (counts_below parsed (suc n)).blocks ≡ (counts_below parsed n).blocks + cond is 1 0
blocks_more parsed n is e = more_at (λ place. is_block (line_at parsed place)) n is e

sights_more : (parsed : List ParsedLine) (n : ℕ) (is : Bool) → is_sight (words_at parsed n) ≡ is → (counts_below parsed (suc n)).sights ≡ (counts_below parsed n).sights + cond is 1 0
sights_more parsed n is e = more_at (λ place. is_sight (words_at parsed place)) n is e

-- the next line is blank: the watch is as it was
pub blank-watched : (parsed : List ParsedLine) (n : ℕ) (watch : SightWatch) → IsBlankAt parsed n → IsWatched parsed n watch → IsWatched parsed (suc n) watch
blank-watched parsed n watch is was =
    let blank : words_at parsed n ≡ [] = ap words_in is.blank in
    record {
      sighted = was.sighted ∙ ap (λ many. not (many == 0)) (sym (sights_more parsed n false (ap is_sight blank) ∙ add-zero _));
      blocks = λ none. was.blocks none ∙ sym (blocks_more parsed n false (ap is_block is.blank) ∙ add-zero _);
      words = λ none. was.words none ∙ none_more parsed n measured is.here.within blank;
    }

-- the next line is a block that is no sight, before the first sight
pub unsighted-block : (parsed : List ParsedLine) (n : ℕ) (watch : SightWatch) (setup : Option Setup) (entered : Entered) (words : List Parts) → Law → IsBlockAt parsed n setup entered words
    → is_some entered.target ≡ false → watch.sighted ≡ false → IsWatched parsed n watch → IsWatched parsed (suc n) (with_unsighted words watch)
unsighted-block parsed n watch setup entered words law is target unsighted was = record {
  sighted = was.sighted ∙ ap (λ many. not (many == 0)) (sym (sights_more parsed n false (sym (sight_at parsed n setup entered words law is) ∙ target) ∙ add-zero _));
  blocks = λ none. ap one_more (was.blocks unsighted) ∙ counted (λ place. is_block (line_at parsed place)) n true (few n (length parsed) is.here.short is.here.within) (ap is_block is.is);
  words = λ none. ap (λ own. with_words words own measured) (was.words unsighted) ∙ ap (λ own. with_words own (map (has_word (take n parsed)) measured) measured) (is.says ∙ sym (ap words_in is.is))
      ∙ seen_more parsed n measured is.here.within;
}
