-- A printed book is read as the rows that it was printed from: line by line, in the state that the lines before have left.
use Rattle.std.proofs.Common.{◌≡◌, ◌≢◌, ◌<◌, ◌≤◌, ◌+◌, ◌*◌, ◌/◌, ◌%◌, ◌^◌, ◌==◌, ◌&&◌, ℕ, ℤ, pos, negsuc, ◌+ℤ◌, ◌-ℤ◌, ◌-◌, zero, suc, Bool, true, false, List, [], ◌∷◌, ◌++◌, codes, if◌then◌else◌, length, map, nat_le, nat_lt, Option, Some, None, unsigned_abs, slice_index, refl, sym, subst, ap, ◌∙◌, arith, append_assoc}
use Rattle.std.specs.Int.{is_negative}
use Rattle.std.specs.List.{AllByRecursion, list_all}
use Rattle.std.specs.Prelude.{option_to_list}
use Rattle.std.proofs.lemmas.Bool.{false≢true}
use Rattle.std.proofs.lemmas.Bool.Decides.{nat_tests}
use Rattle.std.proofs.lemmas.List.{append-nil, map-append}
use Rattle.std.proofs.lemmas.Slice.Eq.{bytes_eq-Decides}
use Rattle.std.proofs.Math.Nat.{pow-suc}
use Rattle.std.specs.Char.{digit_value}
use Rattle.std.proofs.lemmas.Int.Digits.{digits_value_push}
use Rattle.std.proofs.lemmas.Int.{ints}
use Rattle.std.proofs.lemmas.Str.{digit_value_digit}
use Rattle.th_units.specs.Lengths.{are_digits, is_digit, number, signed}
use Rattle.th_units.specs.Limits.{max_len}
use Rattle.th_units.specs.Metres.{last_digits}
use Rattle.gsi_word.specs.Names.{name_of, same_name}
use Rattle.gsi_word.specs.Words.{Parts, parts}
use Rattle.th_observations.specs.Observed.{Observed}
use Rattle.th_book.specs.Due.{BookState, after_parsed, after_words, due_parsed, observation_in, setup_after, standing_in}
use Rattle.th_book.specs.Faults.{Standing, block_faults, first_applying}
use Rattle.th_book.specs.declared.setups.Setup.{Setup}
use Rattle.th_report.specs.Gsi.{number_word, padded_name}
use Rattle.th_report.proofs.NameLemmas.{zeros_before}
use Rattle.th_columns.proofs.DigitLemmas.{last_digits-all}
use Rattle.th_conversions.specs.Limits.{hundredth}
use Rattle.th_conversions.specs.Rows.{IsRow}
use Rattle.th_conversions.specs.Books.{AreSeenAs, blocks_from, length_word, row_seen, setup_block, sight_block, stands_at, zero_easting}
use Rattle.th_conversions.specs.declared.rows.Row.{Row}
use Rattle.th_conversions.proofs.PrintedLines.{parsed_as}
use Rattle.th_conversions.proofs.WordLemmas.{length-digits}

-- ---- lengths

digit_is : (digit : ℕ) → digit < 10 → is_digit (48 + digit) ≡ true
digit_is digit small = grind (arith, nat_tests)

-- so many last digits of a number that has no more write that number
number-last_digits : (count n : ℕ) → n < 10 ^ count → number (last_digits count n) ≡ n
unfolding last_digits
number-last_digits zero n small = omega arith
number-last_digits (suc count) n small =
    let front : number (last_digits count (n / 10)) ≡ n / 10 = number-last_digits count (n / 10) (omega (arith, pow-suc 10 count)) in
    let digit : digit_value (48 + n % 10) + 48 ≡ 48 + n % 10 = digit_value_digit (48 + n % 10) (omega arith, omega arith) in
    omega (arith, digits_value_push 10 (last_digits count (n / 10)) (48 + n % 10), front, digit)

digits_are : (n : ℕ) → are_digits (last_digits 16 n) ≡ true
digits_are n =
    let some : nat_lt 0 (length (last_digits 16 n)) ≡ true = rw (length-digits 16 n) refl in
    ap (λ b. b && list_all is_digit (last_digits 16 n)) some ∙ last_digits-all is_digit digit_is 16 n

not_negative : (n : ℕ) → is_negative (pos n) ≡ false
not_negative n = grind (arith, nat_tests)

signed_back : (length : ℤ) → signed (is_negative length) (unsigned_abs length) ≡ length
signed_back (pos n) = ap (λ b. signed b n) (not_negative n)
signed_back (negsuc n) = refl

-- ---- states

-- a setup with heights of zero
abbrev pub zero_setup : List ℕ → Setup
zero_setup station = record { station = station; instrument = Some (pos 0); reflector = Some (pos 0) }

-- the state of a book without a fault
abbrev pub going : ℕ → ℕ → Option Setup → List Observed → ℕ → BookState
going book lines setup observations room = record { book = book; lines = lines; setup = setup; observations = observations; room = room; fault = None }

-- the observation of a row in some line
abbrev pub observed : ℕ → ℕ → Row → Observed
observed book line row = record { station = row.from; target = row.to; difference = row.difference; book = book; line = line }

-- ---- words
-- The information of a word 11 is not looked at, whatever its first byte is: `dot` says whether that is a dot.

-- the words of a setup, and those of a sight
abbrev pub setup_words : List ℕ → List ℕ → List Parts
setup_words info body = parts 11 info false body ∷ zero_easting ∷ length_word 87 (pos 0) ∷ length_word 88 (pos 0) ∷ []

abbrev pub sight_words : List ℕ → List ℕ → Bool → List ℕ → List Parts
sight_words info body negative digits = parts 11 info false body ∷ parts 33 (codes "..48") negative digits ∷ []

setup_faultless : (dot : Bool) (info body station : List ℕ) (standing : Standing) → (slice_index info 0 == 46) ≡ dot → name_of body ≡ Some station
    → first_applying (block_faults standing (setup_words info body)) ≡ None
unfolding last_digits
setup_faultless true info body station standing e named = simp (e, named)
setup_faultless false info body station standing e named = simp (e, named)

setup_begins : (dot : Bool) (info body station : List ℕ) (setup : Option Setup) → (slice_index info 0 == 46) ≡ dot → name_of body ≡ Some station
    → setup_after setup (setup_words info body) ≡ Some (zero_setup station)
unfolding last_digits
setup_begins true info body station setup e named = simp (e, named)
setup_begins false info body station setup e named = simp (e, named)

setup_unseen : (dot : Bool) (info body : List ℕ) (setup : Option Setup) (book line : ℕ) → (slice_index info 0 == 46) ≡ dot → observation_in book line setup (setup_words info body) ≡ None
unfolding last_digits
setup_unseen true info body setup book line e = simp e
setup_unseen false info body setup book line e = simp e

-- a length is read from these digits
record IsReadFrom (negative : Bool) (body : List ℕ) (value : ℤ) : Type 0 where
  digits : are_digits body ≡ true
  fits : nat_le (number body * 1000) max_len ≡ true
  length : signed negative (number body * 1000) ≡ value

-- a length that a word can hold is read from its digits
digits_back : (length : ℤ) → unsigned_abs length ≤ max_len → unsigned_abs length % hundredth ≡ 0 → IsReadFrom (is_negative length) (last_digits 16 (unsigned_abs length / hundredth)) length
digits_back length small whole =
    let size = unsigned_abs length / hundredth in
    let sized : number (last_digits 16 size) * 1000 ≡ unsigned_abs length = omega (arith, number-last_digits 16 size (omega arith)) in
    record {
      digits = digits_are size;
      fits = rw sized (grind (arith, nat_tests));
      length = ap (signed (is_negative length)) sized ∙ signed_back length;
    }

sight_faultless : (dot : Bool) (info body : List ℕ) (negative : Bool) (digits : List ℕ) (from to : List ℕ) → (slice_index info 0 == 46) ≡ dot → name_of body ≡ Some to → same_name from to ≡ false
    → are_digits digits ≡ true → nat_le (number digits * 1000) max_len ≡ true
    → first_applying (block_faults (standing_in (Some (zero_setup from)) (sight_words info body negative digits)) (sight_words info body negative digits)) ≡ None
sight_faultless true info body negative digits from to e named apart are fits = simp (e, named, apart, are, fits)
sight_faultless false info body negative digits from to e named apart are fits = simp (e, named, apart, are, fits)

sight_stays : (dot : Bool) (info body : List ℕ) (negative : Bool) (digits from : List ℕ) → (slice_index info 0 == 46) ≡ dot
    → setup_after (Some (zero_setup from)) (sight_words info body negative digits) ≡ Some (zero_setup from)
sight_stays true info body negative digits from e = simp e
sight_stays false info body negative digits from e = simp e

no_heights : (length : ℤ) → length +ℤ pos 0 -ℤ pos 0 ≡ length
no_heights length = omega (arith, ints)

sight_seen : (dot : Bool) (info body : List ℕ) (negative : Bool) (digits : List ℕ) (from to : List ℕ) (book line : ℕ) → (slice_index info 0 == 46) ≡ dot → name_of body ≡ Some to
    → are_digits digits ≡ true → nat_le (number digits * 1000) max_len ≡ true
    → observation_in book line (Some (zero_setup from)) (sight_words info body negative digits) ≡ Some (record { station = from; target = to; difference = signed negative (number digits * 1000) +ℤ pos 0 -ℤ pos 0; book = book; line = line })
sight_seen true info body negative digits from to book line e named are fits = simp (e, named, are, fits)
sight_seen false info body negative digits from to book line e named are fits = simp (e, named, are, fits)

-- ---- lines

-- the line of a setup leaves a setup with heights of zero
setup_line : (book lines count room : ℕ) (setup : Option Setup) (observations : List Observed) (station : List ℕ) → name_of station ≡ Some station
    → after_parsed (going book lines setup observations room) (parsed_as (setup_block count station)) ≡ going book (lines + 1) (Some (zero_setup station)) observations room
unfolding number_word
setup_line book lines count room setup observations station is =
    let info = last_digits 4 count in
    let body = padded_name station in
    let words = setup_words info body in
    let named : name_of body ≡ Some station = zeros_before (16 - length station) station station is in
    ap (after_words (going book lines setup observations room) words) (setup_faultless (slice_index info 0 == 46) info body station (standing_in setup words) refl named)
    ∙ ap (λ (after : Option Setup). going book (lines + 1) after (observations ++ option_to_list (observation_in book (lines + 1) setup words)) room) (setup_begins (slice_index info 0 == 46) info body station setup refl named)
    ∙ ap (λ (seen : Option Observed). going book (lines + 1) (Some (zero_setup station)) (observations ++ option_to_list seen) room) (setup_unseen (slice_index info 0 == 46) info body setup book (lines + 1) refl)
    ∙ ap (λ (seen : List Observed). going book (lines + 1) (Some (zero_setup station)) seen room) (append-nil observations)

-- two names that differ
other_name : (from to : List ℕ) → from ≢ to → same_name from to ≡ false
other_name from to apart = by (same_name from to) refl
  where
    by : (same : Bool) → same_name from to ≡ same → same ≡ false
    by true e = absurd (apart ((bytes_eq-Decides from to).0 e))
    by false e = refl

-- the line of a sight adds the observation of its row
sight_line : (book lines count room : ℕ) (observations : List Observed) (row : Row) → IsRow row
    → after_parsed (going book lines (Some (zero_setup row.from)) observations room) (parsed_as (sight_block count row))
    ≡ going book (lines + 1) (Some (zero_setup row.from)) (observations ++ observed book (lines + 1) row ∷ []) room
unfolding number_word
sight_line book lines count room observations row is =
    let info = last_digits 4 count in
    let body = padded_name row.to in
    let size = unsigned_abs row.difference / hundredth in
    let digits = last_digits 16 size in
    let words = sight_words info body (is_negative row.difference) digits in
    let setup : Option Setup = Some (zero_setup row.from) in
    let named : name_of body ≡ Some row.to = zeros_before (16 - length row.to) row.to row.to is.to in
    let read : IsReadFrom (is_negative row.difference) digits row.difference = digits_back row.difference is.in_range is.whole in
    ap (after_words (going book lines setup observations room) words) (sight_faultless (slice_index info 0 == 46) info body (is_negative row.difference) digits row.from row.to refl named (other_name row.from row.to is.distinct) read.digits read.fits)
    ∙ ap (λ (after : Option Setup). going book (lines + 1) after (observations ++ option_to_list (observation_in book (lines + 1) setup words)) room) (sight_stays (slice_index info 0 == 46) info body (is_negative row.difference) digits row.from refl)
    ∙ ap (λ (seen : Option Observed). going book (lines + 1) setup (observations ++ option_to_list seen) room) (sight_seen (slice_index info 0 == 46) info body (is_negative row.difference) digits row.from row.to book (lines + 1) refl named read.digits read.fits)
    ∙ ap (λ (difference : ℤ). going book (lines + 1) setup (observations ++ (record { station = row.from; target = row.to; difference = difference; book = book; line = lines + 1 }) ∷ []) room) (no_heights (signed (is_negative row.difference) (number digits * 1000)) ∙ read.length)

-- ---- rows

-- the running setup of the rows is that of the book
abbrev pub IsRunning : Option (List ℕ) → Option Setup → Type 0
IsRunning None setup = Unit {0}
IsRunning (Some station) setup = setup ≡ Some (zero_setup station)

-- a running setup that is that of a station
same_station : (running : Option (List ℕ)) (station : List ℕ) (setup : Option Setup) → stands_at running station ≡ true → IsRunning running setup → setup ≡ Some (zero_setup station)
same_station None station setup at is = absurd (false≢true at)
same_station (Some running) station setup at is = is ∙ ap (λ (name : List ℕ). Some (zero_setup name)) ((bytes_eq-Decides running station).0 at)

-- the rows of some observations and one more
rows_more : (observations : List Observed) (one : Observed) (row : Row) (rows : List Row) → row_seen one ≡ row → map row_seen (observations ++ one ∷ []) ++ rows ≡ map row_seen observations ++ row ∷ rows
rows_more observations one row rows is =
    ap (λ (front : List Row). front ++ rows) (map-append row_seen observations (one ∷ []))
    ∙ append_assoc (map row_seen observations) (row_seen one ∷ []) rows
    ∙ ap (λ (one : Row). map row_seen observations ++ one ∷ rows) is

-- what is read of the blocks of later rows, where one more observation was seen
abbrev Further : Row → List Row → ℕ → ℕ → List Observed → Type 0
Further row rows book room observations =
    (next : Option (List ℕ)) (later lines : ℕ) (seen : Observed) → IsRunning next (Some (zero_setup row.from))
    → AreSeenAs (due_parsed (going book lines (Some (zero_setup row.from)) (observations ++ seen ∷ []) room) (map parsed_as (blocks_from next later rows))) (map row_seen (observations ++ seen ∷ []) ++ rows)

-- what is read of the blocks of rows, from a running setup on
pub seen_from : (rows : List Row) → AllByRecursion IsRow rows → (running : Option (List ℕ)) (count book lines room : ℕ) (setup : Option Setup) (observations : List Observed) → IsRunning running setup
    → AreSeenAs (due_parsed (going book lines setup observations room) (map parsed_as (blocks_from running count rows))) (map row_seen observations ++ rows)
seen_from [] each running count book lines room setup observations is = sym (append-nil (map row_seen observations))
seen_from (row ∷ rows) each running count book lines room setup observations is =
    by (stands_at running row.from) refl
    (λ next later lines seen runs. seen_from rows each.1 next later book lines room (Some (zero_setup row.from)) (observations ++ seen ∷ []) runs)
  where
    after_sight : Further row rows book room observations → (next : Option (List ℕ)) (own later lines : ℕ) → IsRunning next (Some (zero_setup row.from))
        → AreSeenAs (due_parsed (going book lines (Some (zero_setup row.from)) observations room) (map parsed_as (sight_block own row ∷ blocks_from next later rows))) (map row_seen observations ++ row ∷ rows)
    after_sight further next own later lines runs =
        subst (λ (state : BookState). AreSeenAs (due_parsed state (map parsed_as (blocks_from next later rows))) (map row_seen observations ++ row ∷ rows)) (sym (sight_line book lines own room observations row each.0))
        (subst (AreSeenAs (due_parsed (going book (lines + 1) (Some (zero_setup row.from)) (observations ++ observed book (lines + 1) row ∷ []) room) (map parsed_as (blocks_from next later rows))))
        (rows_more observations (observed book (lines + 1) row) row rows refl)
        (further next later (lines + 1) (observed book (lines + 1) row) runs))

    by : (at : Bool) → stands_at running row.from ≡ at → Further row rows book room observations
        → AreSeenAs (due_parsed (going book lines setup observations room) (map parsed_as (if at then sight_block count row ∷ blocks_from running (count + 1) rows else setup_block count row.from ∷ sight_block (count + 1) row ∷ blocks_from (Some row.from) (count + 2) rows))) (map row_seen observations ++ row ∷ rows)
    by true at further =
        let own : setup ≡ Some (zero_setup row.from) = same_station running row.from setup at is in
        subst (λ (setup : Option Setup). AreSeenAs (due_parsed (going book lines setup observations room) (map parsed_as (sight_block count row ∷ blocks_from running (count + 1) rows))) (map row_seen observations ++ row ∷ rows)) (sym own)
        (after_sight further running count (count + 1) lines (subst (λ (setup : Option Setup). IsRunning running setup) own is))
    by false at further =
        subst (λ (state : BookState). AreSeenAs (due_parsed state (map parsed_as (sight_block (count + 1) row ∷ blocks_from (Some row.from) (count + 2) rows))) (map row_seen observations ++ row ∷ rows))
        (sym (setup_line book lines count room setup observations row.from each.0.from))
        (after_sight further (Some row.from) (count + 1) (count + 2) (lines + 1) refl)
