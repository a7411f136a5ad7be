-- What the places of a spelling hold, in terms of the bytes from which it is read.
use Rattle.std.proofs.Common.{◌≡◌, ℕ, ◌+◌, ◌*◌, ◌-◌, ◌≤◌, true, false, not, nat_lt, if◌then◌else◌, ◌==◌, List, [], ◌∷◌, length, get_or, Result, Ok, Err, refl, ◌∙◌, arith}
use Rattle.std.specs.List.{list_all, slice_range}
use Rattle.std.proofs.lemmas.Bool.Decides.{nat_tests}
use Rattle.std.specs.Char.{digit_value}
use Rattle.std.proofs.lemmas.Str.{digit_value_digit}
use Rattle.th_units.proofs.Digits.{digit_bounds}
use Rattle.th_units.specs.Lengths.{is_digit, number}
use Rattle.gsi_word.specs.Bytes.{is_info, is_sign, is_data}
use Rattle.gsi_word.specs.Words.{Parts, spelling_len, word_at}
use Rattle.gsi_word.specs.declared.words.Width.{Width}
use Rattle.gsi_word.specs.declared.words.Width.TheVariants.{Eight, Sixteen}
use Rattle.gsi_word.specs.declared.faults.WordFault.{WordFault}
use Rattle.gsi_word.specs.declared.faults.WordFault.TheVariants.{BadIndex, BadInfo, BadSign, BadData}

-- the word of seven bytes and some data, or the first part that holds a byte not allowed there
abbrev pub word_of : List ℕ → List ℕ → ℕ → List ℕ → Result Parts WordFault
word_of index info sign body =
    if not (list_all is_digit index) then Err BadIndex
    else (if not (list_all is_info info) then Err BadInfo
    else (if not (is_sign sign) then Err BadSign
    else (if not (list_all is_data body) then Err BadData
    else Ok (record { index = number index; info = info; negative = sign == 45; body = body }))))

-- the word at the front of enough bytes is that of its places
pub word_at_places : (width : Width) (bytes : List ℕ) → spelling_len width ≤ length bytes →
    word_at width bytes ≡ word_of (get_or bytes 0 0 ∷ get_or bytes 1 0 ∷ []) (get_or bytes 2 0 ∷ get_or bytes 3 0 ∷ get_or bytes 4 0 ∷ get_or bytes 5 0 ∷ []) (get_or bytes 6 0) (slice_range bytes 7 (spelling_len width))
word_at_places Eight (a ∷ b ∷ c ∷ d ∷ e ∷ f ∷ g ∷ rest) long =
    let enough : nat_lt (length (a ∷ b ∷ c ∷ d ∷ e ∷ f ∷ g ∷ rest)) 15 ≡ false = grind (arith, nat_tests) in
    rw enough refl
word_at_places Sixteen (a ∷ b ∷ c ∷ d ∷ e ∷ f ∷ g ∷ rest) long =
    let enough : nat_lt (length (a ∷ b ∷ c ∷ d ∷ e ∷ f ∷ g ∷ rest)) 23 ≡ false = grind (arith, nat_tests) in
    rw enough refl
word_at_places _ _ long = absurd (omega arith)

-- two digits write ten times the first and the second
pub number_two : (tens ones : ℕ) → is_digit tens ≡ true → is_digit ones ≡ true → number (tens ∷ ones ∷ []) ≡ 10 * (tens - 48) + (ones - 48)
number_two tens ones tens_digit ones_digit =
    let tens_value : digit_value tens + 48 ≡ tens = digit_value_digit tens (digit_bounds tens tens_digit) in
    let ones_value : digit_value ones + 48 ≡ ones = digit_value_digit ones (digit_bounds ones ones_digit) in
    omega arith

module _ (width : Width) (bytes : List ℕ) (end : ℕ) (is_end : end ≡ spelling_len width) (long : end ≤ length bytes) (tens_digit : is_digit (get_or bytes 0 0) ≡ true) (ones_digit : is_digit (get_or bytes 1 0) ≡ true) (info_allowed : list_all is_info (get_or bytes 2 0 ∷ get_or bytes 3 0 ∷ get_or bytes 4 0 ∷ get_or bytes 5 0 ∷ []) ≡ true) (sign_allowed : is_sign (get_or bytes 6 0) ≡ true) where
  -- only the data hold a byte that is not allowed
  pub bad_data : list_all is_data (slice_range bytes 7 end) ≡ false → word_at width bytes ≡ Err BadData
  bad_data body_bad = word_at_places width bytes (omega arith) ∙ rw (← is_end, tens_digit, ones_digit, info_allowed, sign_allowed, body_bad) refl

  -- each part holds only bytes that are allowed
  pub good : list_all is_data (slice_range bytes 7 end) ≡ true → word_at width bytes ≡ Ok (record { index = 10 * (get_or bytes 0 0 - 48) + (get_or bytes 1 0 - 48); info = get_or bytes 2 0 ∷ get_or bytes 3 0 ∷ get_or bytes 4 0 ∷ get_or bytes 5 0 ∷ []; negative = get_or bytes 6 0 == 45; body = slice_range bytes 7 end })
  good body_allowed = word_at_places width bytes (omega arith) ∙ rw (← is_end, tens_digit, ones_digit, info_allowed, sign_allowed, body_allowed, number_two _ _ tens_digit ones_digit) refl
