-- The line of other words in place of those of a block: it is a block of these words alone.
use Rattle.std.proofs.Common.{◌≡◌, ℕ, zero, suc, ◌+◌, ◌*◌, ◌-◌, ◌<◌, ◌&&◌, Bool, true, false, List, [], ◌∷◌, ◌++◌, Ok, length, slice_index, take, drop, if◌then◌else◌, refl, sym, ap, subst, ◌∙◌, append_assoc, append-nil, length-append, arith}
use Rattle.std.specs.List.{flat_map, list_all}
use Rattle.std.proofs.Math.Nat.{suc-mul}
use Rattle.std.proofs.Math.Seq.{drop-append-add, drop-append_seam, take-append-add, take-append_seam}
use Rattle.std.proofs.lemmas.Bool.{and_parts, true≢false}
use Rattle.std.proofs.lemmas.Bool.Decides.{nat_tests}
use Rattle.std.proofs.lemmas.List.Folds.{list_all-append}
use Rattle.th_units.specs.Lengths.{is_digit}
use Rattle.gsi_word.specs.Bytes.{is_data, is_info, is_space}
use Rattle.gsi_word.specs.Words.{Parts, Spells, closed, spelling_len, spelling_of}
use Rattle.gsi_word.specs.declared.words.Width.{Width}
use Rattle.gsi_word.specs.declared.words.Width.TheVariants.{Eight, Sixteen}
use Rattle.gsi_block.specs.Blocks.{BlockParts, IsBlock, SpellsRow, is_blank, mark, words_from}
use Rattle.gsi_block.specs.Lines.{is_in_line}
use Rattle.gsi_block.specs.Spelled.{AreSpelled}
use Rattle.gsi_block.specs.Writing.{block_line}
use Rattle.gsi_block.proofs.RowsLaw.{WordsAreSpelled, row-spelled, row_begins}
use Rattle.th_mend.specs.MendedLines.{line_with, row_len, without_last}

-- how many bytes a row of words takes
abbrev pub row_bytes : Width → List Parts → ℕ
row_bytes width words = length words * (spelling_len width + 1) - 1

-- some words have a byte
some_bytes : (many len : ℕ) → 0 < many → 0 < many * (len + 1)
some_bytes zero len some = absurd (omega arith)
some_bytes (suc many) len some = omega (arith, suc-mul many (len + 1))

-- how many bytes a row of one more word takes
one_more : (many len one : ℕ) → one ≡ len + 1 → suc (suc many) * (len + 1) - 1 ≡ one + (suc many * (len + 1) - 1)
one_more many len one is = omega (arith, suc-mul (suc many) (len + 1), some_bytes (suc many) len (omega arith))

-- what is behind the last word of a row
pub behind_row : (width : Width) (words : List Parts) (bytes : List ℕ) → SpellsRow width words bytes → is_blank (drop (row_bytes width words) bytes) ≡ true
behind_row width [] bytes row = absurd row
behind_row width (word ∷ []) bytes (spelling, spaces, spells, blank, made) =
    let long : row_bytes width (word ∷ []) ≡ length spelling = omega (arith, spells.length) in
    ap (λ bytes. is_blank (drop (row_bytes width (word ∷ [])) bytes)) made
    ∙ ap (λ many. is_blank (drop many (spelling ++ spaces))) long
    ∙ ap is_blank (drop-append_seam spelling spaces)
    ∙ blank
behind_row width (word ∷ next ∷ words) bytes (spelling, rest, spells, row, made) =
    let front = spelling ++ 32 ∷ [] in
    let one : length front ≡ spelling_len width + 1 = omega (arith, spells.length, length-append spelling (32 ∷ [])) in
    let long : row_bytes width (word ∷ next ∷ words) ≡ length front + row_bytes width (next ∷ words) = one_more (length words) (spelling_len width) (length front) one in
    ap (λ bytes. is_blank (drop (row_bytes width (word ∷ next ∷ words)) bytes)) (made ∙ sym (append_assoc spelling (32 ∷ []) rest))
    ∙ ap (λ many. is_blank (drop many (front ++ rest))) long
    ∙ ap is_blank (drop-append-add front rest (row_bytes width (next ∷ words)))
    ∙ behind_row width (next ∷ words) rest row

-- bytes without the last one
without_last-append : (front back : List ℕ) → 0 < length back → without_last (front ++ back) ≡ front ++ without_last back
without_last-append front back some =
    let long : length (front ++ back) - 1 ≡ length front + (length back - 1) = omega (arith, length-append front back) in
    ap (λ many. take many (front ++ back)) long ∙ take-append-add front back (length back - 1)

without_last-last : (front : List ℕ) (byte : ℕ) → without_last (front ++ byte ∷ []) ≡ front
without_last-last front byte =
    let long : length (front ++ byte ∷ []) - 1 ≡ length front = omega (arith, length-append front (byte ∷ [])) in
    ap (λ many. take many (front ++ byte ∷ [])) long ∙ take-append_seam front (byte ∷ [])

-- closed words have a byte
closed_some : (word : Parts) (words : List Parts) → 0 < length (flat_map closed (word ∷ words))
closed_some word words = omega (arith, length-append (closed word) (flat_map closed words), length-append (spelling_of word) (32 ∷ []))

-- words with a space between two of them, and these spaces behind the last
pub row_with : (width : Width) (words : List Parts) (spaces : List ℕ) → 0 < length words → AreSpelled width words → is_blank spaces ≡ true → SpellsRow width words (without_last (flat_map closed words) ++ spaces)
row_with width [] spaces some are blank = absurd (omega arith)
row_with width (word ∷ []) spaces some are blank =
    (spelling_of word, spaces, are.0, blank, ap (λ own. own ++ spaces) (ap without_last (append-nil (closed word)) ∙ without_last-last (spelling_of word) 32))
row_with width (word ∷ next ∷ words) spaces some are blank =
    let later = flat_map closed (next ∷ words) in (
      spelling_of word,
      without_last later ++ spaces,
      are.0,
      row_with width (next ∷ words) spaces (omega arith) are.1 blank,
      ap (λ own. own ++ spaces) (without_last-append (closed word) later (closed_some next words))
          ∙ append_assoc (closed word) (without_last later) spaces
          ∙ append_assoc (spelling_of word) (32 ∷ []) (without_last later ++ spaces),
    )

-- a line of other words is their row behind the mark
pub line_made : (block : BlockParts) (line bytes : List ℕ) (words : List Parts) → line ≡ mark block.width ++ bytes → 0 < length block.words → 0 < length words
    → line_with block line words ≡ mark block.width ++ (without_last (flat_map closed words) ++ drop (row_bytes block.width block.words) bytes)
line_made block line bytes [] made some other = absurd (omega arith)
line_made block line bytes (word ∷ words) made some other =
    let long : row_len block ≡ length (mark block.width) + row_bytes block.width block.words = by (length block.words) (spelling_len block.width) (length (mark block.width)) some in
    let behind : drop (row_len block) line ≡ drop (row_bytes block.width block.words) bytes =
    ap (λ line. drop (row_len block) line) made ∙ ap (λ many. drop many (mark block.width ++ bytes)) long ∙ drop-append-add (mark block.width) bytes (row_bytes block.width block.words) in
    ap (λ back. without_last (block_line (record { width = block.width; words = word ∷ words })) ++ back) behind
    ∙ ap (λ front. front ++ drop (row_bytes block.width block.words) bytes) (without_last-append (mark block.width) (flat_map closed (word ∷ words)) (closed_some word words))
    ∙ append_assoc (mark block.width) (without_last (flat_map closed (word ∷ words))) (drop (row_bytes block.width block.words) bytes)
  where
    by : (many len front : ℕ) → 0 < many → front + many * (len + 1) - 1 ≡ front + (many * (len + 1) - 1)
    by many len front some = omega (arith, some_bytes many len some)

-- a line is a block of one list of words, however long
pub only_block : WordsAreSpelled → (width : Width) (words : List Parts) (bytes : List ℕ) (block : BlockParts) → SpellsRow width words bytes → IsBlock (mark width ++ bytes) block → block ≡ record { width = width; words = words }
only_block law width words bytes block row is = by width block.width refl refl is.row.1
  where
    same : block.width ≡ width → bytes ≡ is.row.0 → block ≡ record { width = width; words = words }
    same one equal =
        let here : SpellsRow width block.words bytes = subst (λ (own : Width). SpellsRow own block.words bytes) one (subst (SpellsRow block.width block.words) (sym equal) is.row.2) in
        let room = length words + length block.words in
        let read : words_from room width 1 bytes ≡ Ok words = row-spelled law words room 1 width bytes (omega arith) row in
        let other : words_from room width 1 bytes ≡ Ok block.words = row-spelled law block.words room 1 width bytes (omega arith) here in
        let words_same : block.words ≡ words = cc in
        let made : Width → List Parts → BlockParts = λ width words. record { width = width; words = words } in
        ap (λ own. made own block.words) one ∙ ap (made width) words_same

    digit : is_digit (slice_index bytes 0) ≡ true
    digit = row_begins width words bytes row

    other_digit : is_digit (slice_index is.row.0 0) ≡ true
    other_digit = row_begins block.width block.words is.row.0 is.row.2

    by : (one other : Width) → width ≡ one → block.width ≡ other → mark one ++ bytes ≡ mark other ++ is.row.0 → block ≡ record { width = width; words = words }
    by Eight Eight a b e = same (b ∙ sym a) e
    by Sixteen Sixteen a b e = same (b ∙ sym a) (cc e)
    by Eight Sixteen a b e = absurd (true≢false (sym digit ∙ ap (λ bytes. is_digit (slice_index bytes 0)) e))
    by Sixteen Eight a b e = absurd (true≢false (sym other_digit ∙ sym (ap (λ bytes. is_digit (slice_index bytes 0)) e)))

-- bytes that pass a test which no line end passes
inside : (allowed : ℕ → Bool) → ((byte : ℕ) → allowed byte ≡ true → is_in_line byte ≡ true) → (bytes : List ℕ) → list_all allowed bytes ≡ true → list_all is_in_line bytes ≡ true
inside allowed each [] all = refl
inside allowed each (byte ∷ bytes) all =
    let tests = and_parts (allowed byte) (list_all allowed bytes) all in
    ap (λ b. b && list_all is_in_line bytes) (each byte tests.0) ∙ inside allowed each bytes tests.1

digit_inside : (byte : ℕ) → is_digit byte ≡ true → is_in_line byte ≡ true
digit_inside byte is = grind (arith, nat_tests)

info_inside : (byte : ℕ) → is_info byte ≡ true → is_in_line byte ≡ true
info_inside byte is = grind (arith, nat_tests)

data_inside : (byte : ℕ) → is_data byte ≡ true → is_in_line byte ≡ true
data_inside byte is = grind (arith, nat_tests)

space_inside : (byte : ℕ) → is_space byte ≡ true → is_in_line byte ≡ true
space_inside byte is = grind (arith, nat_tests)

-- two parts of a line
both_inside : (front back : List ℕ) → list_all is_in_line front ≡ true → list_all is_in_line back ≡ true → list_all is_in_line (front ++ back) ≡ true
both_inside front back a b = list_all-append is_in_line front back ∙ ap (λ first. first && list_all is_in_line back) a ∙ b

-- a spelling has no byte of a line end
spelling_inside : (word : Parts) (spelling : List ℕ) (width : Width) → Spells word spelling width → list_all is_in_line (take 2 spelling) ≡ true
spelling_inside word spelling width is = inside is_digit digit_inside (take 2 spelling) is.index_digits

word_inside : (word : Parts) (width : Width) → Spells word (spelling_of word) width → list_all is_in_line (closed word) ≡ true
word_inside word width is =
    let rest = (if word.negative then 45 else 43) ∷ word.body in
    both_inside (spelling_of word) (32 ∷ [])
    (both_inside (take 2 (spelling_of word)) (word.info ++ rest) (spelling_inside word (spelling_of word) width is)
    (both_inside word.info rest (inside is_info info_inside word.info is.info_bytes) (by word.negative))) refl
  where
    by : (minus : Bool) → list_all is_in_line ((if minus then 45 else 43) ∷ word.body) ≡ true
    by true = inside is_data data_inside word.body is.body_bytes
    by false = inside is_data data_inside word.body is.body_bytes

words_inside : (width : Width) (words : List Parts) → AreSpelled width words → list_all is_in_line (flat_map closed words) ≡ true
words_inside width [] are = refl
words_inside width (word ∷ words) are = both_inside (closed word) (flat_map closed words) (word_inside word width are.0) (words_inside width words are.1)

-- nor has the front of bytes that have none
front_inside : (many : ℕ) (bytes : List ℕ) → list_all is_in_line bytes ≡ true → list_all is_in_line (take many bytes) ≡ true
front_inside zero bytes all = refl
front_inside (suc many) [] all = refl
front_inside (suc many) (byte ∷ bytes) all =
    let tests = and_parts (is_in_line byte) (list_all is_in_line bytes) all in
    ap (λ b. b && list_all is_in_line (take many bytes)) tests.0 ∙ front_inside many bytes tests.1

-- nor has the row of words
pub row_inside : (width : Width) (words : List Parts) (spaces : List ℕ) → AreSpelled width words → is_blank spaces ≡ true → list_all is_in_line (mark width ++ (without_last (flat_map closed words) ++ spaces)) ≡ true
row_inside width words spaces are blank =
    both_inside (mark width) (without_last (flat_map closed words) ++ spaces) (by width)
    (both_inside (without_last (flat_map closed words)) spaces (front_inside (length (flat_map closed words) - 1) (flat_map closed words) (words_inside width words are)) (inside is_space space_inside spaces blank))
  where
    by : (width : Width) → list_all is_in_line (mark width) ≡ true
    by Eight = refl
    by Sixteen = refl
