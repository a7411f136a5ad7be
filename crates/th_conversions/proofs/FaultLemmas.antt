-- What is known of a block that is printed.
use Rattle.std.proofs.Common.{◌≡◌, Bool, true, false, List, None, refl}
use Rattle.gsi_word.specs.Words.{Parts}
use Rattle.th_book.specs.Lines.{is_sight}
use Rattle.th_conversions.specs.Sights.{height_fault}

-- it has no word 33
pub sound_no_sight : (words : List Parts) → height_fault words ≡ None → is_sight words ≡ false
sound_no_sight words none = by (is_sight words) refl
  where
    by : (sight : Bool) → is_sight words ≡ sight → is_sight words ≡ false
    by false e = e
    by true e = let bad = rw e at none in absurd (cc bad)
