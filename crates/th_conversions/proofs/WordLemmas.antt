-- The words of a printed book are spelled in GSI-16.
use Rattle.std.proofs.Common.{◌≡◌, ◌<◌, ◌≤◌, ◌+◌, ◌/◌, ◌%◌, ℕ, zero, suc, Bool, true, false, List, [], ◌∷◌, codes, length, pos, replicate, ◌-◌, refl, arith, length-append, unsigned_abs, Some}
use Rattle.std.specs.Int.{is_negative}
use Rattle.std.specs.List.{list_all}
use Rattle.th_units.specs.Lengths.{is_digit, number}
use Rattle.th_units.specs.Metres.{last_digits}
use Rattle.gsi_word.specs.Bytes.{is_data, is_info}
use Rattle.gsi_word.specs.Names.{name_of}
use Rattle.gsi_word.specs.Words.{Parts, Spells, parts, spelling_of}
use Rattle.gsi_word.specs.declared.words.Width.TheVariants.{Sixteen}
use Rattle.gsi_block.specs.Blocks.{BlockParts, IsBlockOf}
use Rattle.gsi_block.specs.Spelled.{AreSpelled}
use Rattle.gsi_block.specs.Writing.{block_line}
use Rattle.gsi_block.proofs.WrittenBlocks.{IsBlock-block_line}
use Rattle.th_report.specs.Gsi.{number_word, padded_name}
use Rattle.th_report.proofs.NameLemmas.{name_printable, name_short, zeros_before}
use Rattle.th_report.proofs.WordLemmas.{spelled_number}
use Rattle.th_columns.proofs.DigitLemmas.{digit_is_data, last_digits-all}
use Rattle.th_conversions.specs.Limits.{hundredth}
use Rattle.th_conversions.specs.Books.{setup_block, sight_block}
use Rattle.th_conversions.specs.declared.rows.Row.{Row}

-- a word with four bytes of information and 16 of data has a spelling of GSI-16
pub spelled : (index a b c d : ℕ) (negative : Bool) (body : List ℕ) → list_all is_digit ((48 + index / 10) ∷ (48 + index % 10) ∷ []) ≡ true → index ≡ number ((48 + index / 10) ∷ (48 + index % 10) ∷ [])
    → list_all is_info (a ∷ b ∷ c ∷ d ∷ []) ≡ true → length body ≡ 16 → list_all is_data body ≡ true
    → Spells (parts index (a ∷ b ∷ c ∷ d ∷ []) negative body) (spelling_of (parts index (a ∷ b ∷ c ∷ d ∷ []) negative body)) Sixteen
spelled index a b c d true body digits is info long printable = record { length = omega (arith, long); index_digits = digits; index = is; info_bytes = info; info = refl; sign = refl; negative = refl; body_bytes = printable; body = refl }
spelled index a b c d false body digits is info long printable = record { length = omega (arith, long); index_digits = digits; index = is; info_bytes = info; info = refl; sign = refl; negative = refl; body_bytes = printable; body = refl }

pub length-digits : (count n : ℕ) → length (last_digits count n) ≡ count
unfolding last_digits
length-digits zero n = refl
length-digits (suc count) n = omega (arith, length-append (last_digits count (n / 10)) ((48 + n % 10) ∷ []), length-digits count (n / 10))

pub digits-data : (count n : ℕ) → list_all is_data (last_digits count n) ≡ true
digits-data count n = last_digits-all is_data digit_is_data count n

-- the words of a length that a printed book has, by their indexes
pub spelled_33 : (negative : Bool) (body : List ℕ) → length body ≡ 16 → list_all is_data body ≡ true → Spells (parts 33 (codes "..48") negative body) (spelling_of (parts 33 (codes "..48") negative body)) Sixteen
spelled_33 negative body long printable = spelled 33 46 46 52 56 negative body refl refl refl long printable

pub spelled_87 : (negative : Bool) (body : List ℕ) → length body ≡ 16 → list_all is_data body ≡ true → Spells (parts 87 (codes "..48") negative body) (spelling_of (parts 87 (codes "..48") negative body)) Sixteen
spelled_87 negative body long printable = spelled 87 46 46 52 56 negative body refl refl refl long printable

pub spelled_88 : (negative : Bool) (body : List ℕ) → length body ≡ 16 → list_all is_data body ≡ true → Spells (parts 88 (codes "..48") negative body) (spelling_of (parts 88 (codes "..48") negative body)) Sixteen
spelled_88 negative body long printable = spelled 88 46 46 52 56 negative body refl refl refl long printable

pub spelled_84 : (negative : Bool) (body : List ℕ) → length body ≡ 16 → list_all is_data body ≡ true → Spells (parts 84 (codes "..40") negative body) (spelling_of (parts 84 (codes "..40") negative body)) Sixteen
spelled_84 negative body long printable = spelled 84 46 46 52 48 negative body refl refl refl long printable

length-zeros : (count : ℕ) → length {A = ℕ} (replicate count 48) ≡ count
length-zeros zero = refl
length-zeros (suc count) = omega (arith, length-zeros count)

padded_length : (name : List ℕ) → name_of name ≡ Some name → length (padded_name name) ≡ 16
padded_length name is = omega (arith, name_short name name is, length-append (replicate (16 - length name) 48) name, length-zeros (16 - length name))

padded_data : (name : List ℕ) → name_of name ≡ Some name → list_all is_data (padded_name name) ≡ true
padded_data name is = name_printable (padded_name name) name (zeros_before (16 - length name) name name is)

-- a block that can be written as a line: 1 to 64 words, each spelled in its width
pub record IsProper (block : BlockParts) : Type 0 where
  pub some : 0 < length block.words
  pub few : length block.words ≤ 64
  pub spelled : AreSpelled block.width block.words

number_spelled : (number : ℕ) (name : List ℕ) → name_of name ≡ Some name → Spells (number_word number name) (spelling_of (number_word number name)) Sixteen
unfolding number_word
number_spelled number name is = spelled_number number (padded_name name) (padded_length name is) (padded_data name is)

pub setup_proper : (number : ℕ) (station : List ℕ) → name_of station ≡ Some station → IsProper (setup_block number station)
setup_proper number station is = record {
  some = omega arith;
  few = omega arith;
  spelled = (
    number_spelled number station is,
    (
      spelled_84 false (last_digits 16 0) (length-digits 16 0) (digits-data 16 0),
      (spelled_87 (is_negative (pos 0)) (last_digits 16 (unsigned_abs (pos 0) / hundredth)) (length-digits 16 (unsigned_abs (pos 0) / hundredth)) (digits-data 16 (unsigned_abs (pos 0) / hundredth)), (spelled_88 (is_negative (pos 0)) (last_digits 16 (unsigned_abs (pos 0) / hundredth)) (length-digits 16 (unsigned_abs (pos 0) / hundredth)) (digits-data 16 (unsigned_abs (pos 0) / hundredth)), tt)),
    ),
  );
}

pub sight_proper : (number : ℕ) (row : Row) → name_of row.to ≡ Some row.to → IsProper (sight_block number row)
sight_proper number row is = record {
  some = omega arith;
  few = omega arith;
  spelled = (
    number_spelled number row.to is,
    (spelled_33 (is_negative row.difference) (last_digits 16 (unsigned_abs row.difference / hundredth)) (length-digits 16 (unsigned_abs row.difference / hundredth)) (digits-data 16 (unsigned_abs row.difference / hundredth)), tt),
  );
}

-- ---- blocks

-- 1 to 64 words of GSI-16 are a block
pub block_there : (words : List Parts) → 0 < length words → length words ≤ 64 → AreSpelled Sixteen words → IsBlockOf words (record { width = Sixteen; words = words })
block_there words some few are =
    let block : BlockParts = record { width = Sixteen; words = words } in
    (refl, (block_line block, IsBlock-block_line block some few are))
