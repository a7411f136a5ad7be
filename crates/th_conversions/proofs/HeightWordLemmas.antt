-- The words that a height sight gets have a spelling.
use Rattle.std.proofs.Common.{◌≡◌, ◌<◌, ◌+◌, ◌/◌, ◌%◌, ℕ, ℤ, Bool, zero, suc, true, List, ◌∷◌, ◌++◌, [], Option, Some, None, length, refl, sym, subst, ap, ◌∙◌, arith, length-append}
use Rattle.std.specs.Int.{is_negative}
use Rattle.std.specs.List.{list_all}
use Rattle.th_units.specs.Metres.{last_digits}
use Rattle.th_units.specs.declared.units.Unit.{Unit}
use Rattle.th_units.specs.declared.units.Unit.TheVariants.{Mm, MilliFoot, TenthMm, TenMilliFoot, HundredthMm}
use Rattle.gsi_word.specs.Bytes.{is_data, is_info}
use Rattle.gsi_word.specs.Words.{HasSpelling, Parts, Spells, data_len, parts, spelling_of}
use Rattle.gsi_word.specs.declared.words.Width.{Width}
use Rattle.gsi_word.proofs.WrittenWords.{Spells-spelling_of}
use Rattle.gsi_block.specs.Blocks.{BlockParts}
use Rattle.gsi_block.specs.Spelled.{AreSpelled}
use Rattle.th_columns.proofs.DigitLemmas.{digit_is_data, last_digits-all}
use Rattle.th_conversions.specs.Printed.{longer}
use Rattle.th_mend.specs.NewWords.{info_of}
use Rattle.th_conversions.specs.Words.{Written, number_of, word_of, zero_height, zero_unless}
use Rattle.th_conversions.specs.declared.running.Running.{Running}

pub length-digits : (count n : ℕ) → length (last_digits count n) ≡ count
unfolding last_digits
length-digits zero n = refl
length-digits (suc count) n = omega (arith, length-append (last_digits count (n / 10)) ((48 + n % 10) ∷ []), length-digits count (n / 10))

info_allowed : (unit : Unit) → list_all is_info (info_of unit) ≡ true
info_allowed Mm = refl
info_allowed MilliFoot = refl
info_allowed TenthMm = refl
info_allowed TenMilliFoot = refl
info_allowed HundredthMm = refl

info_length : (unit : Unit) → length (info_of unit) ≡ 4
info_length Mm = refl
info_length MilliFoot = refl
info_length TenthMm = refl
info_length TenMilliFoot = refl
info_length HundredthMm = refl

-- a length that is written in a width
pub written_spelled : (width : Width) (index : ℕ) (written : Written) → index < 100 → Spells (word_of width index written) (spelling_of (word_of width index written)) width
written_spelled width index written small = Spells-spelling_of (word_of width index written) width (record {
  index = small;
  info_length = info_length written.unit;
  info = info_allowed written.unit;
  body_length = length-digits (data_len width) (number_of written);
  body = last_digits-all is_data digit_is_data (data_len width) (number_of written);
})

-- so the word with these parts has one
pub written_has_spelling : (width : Width) (index : ℕ) (own : Written) (info : List ℕ) (negative : Bool) (body : List ℕ) → index < 100 → info ≡ info_of own.unit
    → negative ≡ is_negative own.length → body ≡ last_digits (data_len width) (number_of own) → HasSpelling (parts index info negative body)
written_has_spelling width index own info negative body small is_info is_sign is_body =
    subst HasSpelling
    (sym (ap (λ (i : List ℕ). parts index i negative body) is_info ∙ ap (λ (n : Bool). parts index (info_of own.unit) n body) is_sign
    ∙ ap (parts index (info_of own.unit) (is_negative own.length)) is_body))
    (width, spelling_of (word_of width index own), written_spelled width index own small)

-- words of one width, and more of it behind them
pub spelled-append : (width : Width) (front back : List Parts) → AreSpelled width front → AreSpelled width back → AreSpelled width (front ++ back)
spelled-append width [] back are more = more
spelled-append width (word ∷ words) back are more = (are.0, spelled-append width words back are.1 more)

zero_spelled : (width : Width) (index : ℕ) (height : Option ℤ) → index < 100 → AreSpelled width (zero_unless width index height)
zero_spelled width index (Some height) small = tt
zero_spelled width index None small = (written_spelled width index zero_height small, tt)

-- the words of a height sight are of its width
pub longer_spelled : (block : BlockParts) (heights : Running) (written : Written) → AreSpelled block.width block.words → AreSpelled block.width (longer block heights written)
longer_spelled block heights written are =
    spelled-append block.width _ (word_of block.width 33 written ∷ [])
    (spelled-append block.width _ (zero_unless block.width 87 heights.reflector)
    (spelled-append block.width block.words (zero_unless block.width 88 heights.instrument) are (zero_spelled block.width 88 heights.instrument (omega arith)))
    (zero_spelled block.width 87 heights.reflector (omega arith)))
    (written_spelled block.width 33 written (omega arith), tt)

-- and there is at least one
pub longer_some : (block : BlockParts) (heights : Running) (written : Written) → 0 < length (longer block heights written)
longer_some block heights written =
    omega (arith, length-append ((block.words ++ zero_unless block.width 88 heights.instrument) ++ zero_unless block.width 87 heights.reflector) (word_of block.width 33 written ∷ []))
