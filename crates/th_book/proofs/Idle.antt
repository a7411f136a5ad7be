-- A block of which no word counts.
use Rattle.std.proofs.Common.{◌≡◌, ℕ, List, Option, None, false, map, refl, sym}
use Rattle.gsi_word.specs.Words.{Parts, parts_of}
use Rattle.gsi_word.specs.declared.words.Word.{Word}
use Rattle.th_book.specs.Entered.{entered_by, nothing}
use Rattle.th_book.specs.Faults.{first_applying, own_faults}
use Rattle.th_book.specs.Inside.Countings.{counted_in, nothing_counted}
use Rattle.th_book.specs.Inside.Effects.{IsBlockLine}
use Rattle.th_book.specs.declared.setups.Setup.{Setup}
use Rattle.th_book.proofs.EntryLemmas.{entry_same, own_faults_of, setup_same, sight_same}
use Rattle.th_book.proofs.BlockLines.{StandsFor, stands_for_line}

-- it has no fault of its own
idle_own : (words : List Parts) → nothing_counted ≡ counted_in words → first_applying (own_faults words) ≡ None
idle_own words is = own_faults_of words nothing_counted false false false is refl refl refl refl

-- it enters nothing
pub idle_enters : (words : List Parts) → nothing_counted ≡ counted_in words → nothing ≡ entered_by words
idle_enters words is = sym (entry_same words nothing_counted false false None is (sight_same words nothing_counted is) (setup_same words nothing_counted is) refl)

-- and so it has no fault in any setup, and no effect
pub idle_line : (setup : Option Setup) (words : List Word) (line : List ℕ) → IsBlockLine words line → nothing_counted ≡ counted_in (map parts_of words) → StandsFor setup line nothing
idle_line setup words line is idle =
    stands_for_line setup words line nothing is (sym (idle_own (map parts_of words) idle)) (idle_enters (map parts_of words) idle)
