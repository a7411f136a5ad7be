-- The lines of the GSI text are blocks, from which the names of the points are read.
use Rattle.std.proofs.Common.{◌≡◌, ◌↔◌, ◌≤◌, ◌+◌, ◌-◌, ◌/◌, ◌%◌, ◌&&◌, ℕ, ℤ, zero, suc, Bool, true, false, IsTrue, All, Some, Ok, inl, List, [], ◌∷◌, ◌++◌, codes, length, map, nat_le, replicate, refl, sym, ap, ◌∙◌, length-append, arith}
use Rattle.std.specs.List.{AllByRecursion, enumerate_from, flat_map, list_all}
use Rattle.std.proofs.lemmas.Bool.Decides.{nat_tests}
use Rattle.std.proofs.lemmas.List.Elements.{recursion_from_All}
use Rattle.th_units.specs.Metres.{last_digits}
use Rattle.gsi_word.specs.Bytes.{is_data}
use Rattle.gsi_word.specs.Names.{name_of}
use Rattle.gsi_word.specs.Words.{closed, parts, spelling_of}
use Rattle.gsi_block.specs.Blocks.{BlockParts, IsBlock, block_at}
use Rattle.gsi_block.specs.Lines.{AreLines, is_in_line, lines_of}
use Rattle.gsi_block.specs.Writing.{block_line}
use Rattle.th_network.specs.Networks.{Survey, points_of}
use Rattle.th_report.specs.Gsi.{gsi_text, has_minus, height_word, hundredths, name_on, name_read, number_word, padded_name, point_block, text_of_point}
use Rattle.th_report.proofs.LineLemmas.{both, data_printable, last_digits_visible, printable, printable-append, visible-printable}
use Rattle.th_report.proofs.NameLemmas.{name_printable, name_short, zeros_before}
use Rattle.th_report.proofs.WordLemmas.{spelled_83, spelled_number, two_words}
use Rattle.th_columns.proofs.DigitLemmas.{digit_is_data, last_digits-all}

-- the line of a numbered point, without its end
line_at : (List ℕ → ℤ) → ℕ × List ℕ → List ℕ
line_at heights (number, name) = block_line (point_block number name (heights name))

-- a printable byte ends no line
printable_in_line : (line : List ℕ) → printable line ≡ true → list_all is_in_line line ≡ true
printable_in_line [] is = refl
printable_in_line (byte ∷ bytes) is =
    let tests = both (nat_le 32 byte) (printable bytes) is in
    let first = tests.0 in
    let inside : is_in_line byte ≡ true = grind (arith, nat_tests) in
    ap (λ b. b && list_all is_in_line bytes) inside ∙ printable_in_line bytes tests.1

digits_printable : (count n : ℕ) → printable (last_digits count n) ≡ true
digits_printable count n = visible-printable (last_digits count n) (last_digits_visible count n)

length-digits : (count n : ℕ) → length (last_digits count n) ≡ count
unfolding last_digits
length-digits zero n = refl
length-digits (suc count) n = omega (arith, length-append (last_digits count (n / 10)) ((48 + n % 10) ∷ []), length-digits count (n / 10))

length-zeros : (count : ℕ) → length {A = ℕ} (replicate count 48) ≡ count
length-zeros zero = refl
length-zeros (suc count) = omega (arith, length-zeros count)

padded_length : (name : List ℕ) → length name ≤ 16 → length (padded_name name) ≡ 16
padded_length name short = omega (arith, length-append (replicate (16 - length name) 48) name, length-zeros (16 - length name))

padded_data : (name : List ℕ) → name_of name ≡ Some name → list_all is_data (padded_name name) ≡ true
padded_data name is = name_printable (padded_name name) name (zeros_before (16 - length name) name name is)

-- a word with its space is printable
closed_printable : (index : ℕ) (info : List ℕ) (negative : Bool) (body : List ℕ) → printable ((48 + index / 10) ∷ (48 + index % 10) ∷ []) ≡ true → printable info ≡ true → printable body ≡ true
    → printable (closed (parts index info negative body)) ≡ true
closed_printable index info negative body i a b = printable-append (spelling_of (parts index info negative body)) (32 ∷ []) (by negative) refl
  where
    by : (minus : Bool) → printable (spelling_of (parts index info minus body)) ≡ true
    by true = printable-append ((48 + index / 10) ∷ (48 + index % 10) ∷ []) (info ++ 45 ∷ body) i (printable-append info (45 ∷ body) a b)
    by false = printable-append ((48 + index / 10) ∷ (48 + index % 10) ∷ []) (info ++ 43 ∷ body) i (printable-append info (43 ∷ body) a b)

line_printable : (heights : List ℕ → ℤ) (number : ℕ) (name : List ℕ) → name_of name ≡ Some name → printable (line_at heights (number, name)) ≡ true
unfolding line_at number_word height_word
line_printable heights number name is =
    let height = heights name in
    let first = closed_printable 11 (last_digits 4 number) false (padded_name name) refl (digits_printable 4 number) (data_printable (padded_name name) (padded_data name is)) in
    let second = closed_printable 83 (codes "..48") (has_minus height) (last_digits 16 (hundredths height)) refl refl (digits_printable 16 (hundredths height)) in
    printable-append (closed (number_word number name)) (closed (height_word height) ++ []) first (printable-append (closed (height_word height)) [] second refl)

-- a point has a block
block_there : (number : ℕ) (name : List ℕ) (height : ℤ) → name_of name ≡ Some name → (line : List ℕ) × IsBlock line (point_block number name height)
unfolding number_word height_word
block_there number name height is =
    let first = spelled_number number (padded_name name) (padded_length name (name_short name name is)) (padded_data name is) in
    let second = spelled_83 (has_minus height) (last_digits 16 (hundredths height)) (length-digits 16 (hundredths height)) (last_digits-all is_data digit_is_data 16 (hundredths height)) in
    (two_words (number_word number name) (height_word height) first second).1

-- the texts of the points are their lines
lines_there : (heights : List ℕ → ℤ) (number : ℕ) (names : List (List ℕ)) → AllByRecursion (λ name. name_of name ≡ Some name) names
    → AreLines (map (line_at heights) (enumerate_from number names)) (flat_map (text_of_point heights) (enumerate_from number names))
unfolding line_at text_of_point
lines_there heights number [] each = refl
lines_there heights number (name ∷ names) each =
    let later = flat_map (text_of_point heights) (enumerate_from (number + 1) names) in
    let line = block_line (point_block number name (heights name)) in
    let inside : IsTrue (list_all is_in_line line) = printable_in_line line (line_printable heights number name each.0) in
    (inside, (13 ∷ 10 ∷ [], later, refl, lines_there heights (number + 1) names each.1, inl (inl refl)))

module _ (read : (line : List ℕ) (block : BlockParts) → IsBlock line block → block_at (block_line block) ≡ Ok (Some block)) where
  name_back : (heights : List ℕ → ℤ) (number : ℕ) (name : List ℕ) → name_of name ≡ Some name → name_on (line_at heights (number, name)) ≡ Some name
  unfolding line_at number_word
  name_back heights number name is =
      let block = point_block number name (heights name) in
      let there = block_there number name (heights name) is in
      ap name_read (read there.0 block there.1) ∙ zeros_before (16 - length name) name name is

  names_back : (heights : List ℕ → ℤ) (number : ℕ) (names : List (List ℕ)) → AllByRecursion (λ name. name_of name ≡ Some name) names
      → map name_on (map (line_at heights) (enumerate_from number names)) ≡ map Some names
  names_back heights number [] each = refl
  names_back heights number (name ∷ names) each =
      ap (λ first. first ∷ map name_on (map (line_at heights) (enumerate_from (number + 1) names))) (name_back heights number name each.0)
      ∙ ap (λ later. Some name ∷ later) (names_back heights (number + 1) names each.1)

  pub names_read : ((text : List ℕ) (lines : List (List ℕ)) → (lines ≡ lines_of text) ↔ AreLines lines text)
      → (survey : Survey) (heights : List ℕ → ℤ) → All (λ name. name_of name ≡ Some name) (points_of survey)
      → map name_on (lines_of (gsi_text survey heights)) ≡ map Some (points_of survey)
  names_read lines survey heights names =
      let each = recursion_from_All (λ name. name_of name ≡ Some name) (points_of survey) names in
      ap (map name_on) (sym ((lines (gsi_text survey heights) (map (line_at heights) (enumerate_from 1 (points_of survey)))).1 (lines_there heights 1 (points_of survey) each)))
      ∙ names_back heights 1 (points_of survey) each
