-- The words of a point are spelled in GSI-16, and two such words make a block.
use Rattle.std.proofs.Common.{◌≡◌, ◌<◌, ◌+◌, ◌/◌, ◌%◌, ◌&&◌, ℕ, zero, suc, Bool, true, false, List, [], ◌∷◌, ◌++◌, codes, length, refl, subst, sym, ap, ◌∙◌, arith}
use Rattle.std.specs.List.{list_all}
use Rattle.std.proofs.lemmas.List.{append-nil, length-append, length-drop}
use Rattle.std.proofs.lemmas.List.Folds.{list_all-append}
use Rattle.std.proofs.lemmas.Bool.Decides.{nat_tests}
use Rattle.th_units.specs.Metres.{last_digits}
use Rattle.gsi_word.specs.Bytes.{is_data, is_info}
use Rattle.gsi_word.specs.Words.{Parts, Spells, parts, spelling_len, spelling_of}
use Rattle.gsi_word.specs.declared.words.Width.{Width}
use Rattle.gsi_word.specs.declared.words.Width.TheVariants.{Eight, Sixteen}
use Rattle.gsi_block.specs.Blocks.{BlockParts, IsBlockOf, SpellsRow}
use Rattle.th_columns.proofs.DigitLemmas.{last_digits-all}

-- a digit may stand in a word's information
pub digit_is_info : (digit : ℕ) → digit < 10 → is_info (48 + digit) ≡ true
digit_is_info digit small = grind (arith, nat_tests)

-- a word 11 or 83 with 16 bytes of data has a spelling of GSI-16
pub spelled_11 : (a b c d : ℕ) (negative : Bool) (body : List ℕ) → list_all is_info (a ∷ b ∷ c ∷ d ∷ []) ≡ true → length body ≡ 16 → list_all is_data body ≡ true
    → Spells (parts 11 (a ∷ b ∷ c ∷ d ∷ []) negative body) (spelling_of (parts 11 (a ∷ b ∷ c ∷ d ∷ []) negative body)) Sixteen
spelled_11 a b c d true body info long printable = record { length = omega (arith, long); index_digits = refl; index = refl; info_bytes = info; info = refl; sign = refl; negative = refl; body_bytes = printable; body = refl }
spelled_11 a b c d false body info long printable = record { length = omega (arith, long); index_digits = refl; index = refl; info_bytes = info; info = refl; sign = refl; negative = refl; body_bytes = printable; body = refl }

pub spelled_83 : (negative : Bool) (body : List ℕ) → length body ≡ 16 → list_all is_data body ≡ true → Spells (parts 83 (codes "..48") negative body) (spelling_of (parts 83 (codes "..48") negative body)) Sixteen
spelled_83 true body long printable = record { length = omega (arith, long); index_digits = refl; index = refl; info_bytes = refl; info = refl; sign = refl; negative = refl; body_bytes = printable; body = refl }
spelled_83 false body long printable = record { length = omega (arith, long); index_digits = refl; index = refl; info_bytes = refl; info = refl; sign = refl; negative = refl; body_bytes = printable; body = refl }

pub spelled_number : (number : ℕ) (body : List ℕ) → length body ≡ 16 → list_all is_data body ≡ true → Spells (parts 11 (last_digits 4 number) false body) (spelling_of (parts 11 (last_digits 4 number) false body)) Sixteen
unfolding last_digits
spelled_number number body long printable = spelled_11 _ _ _ _ false body (last_digits-all is_info digit_is_info 4 number) long printable

-- two words of GSI-16 are a block
abbrev pub block_of_two : Parts → Parts → BlockParts
block_of_two first second = record { width = Sixteen; words = first ∷ second ∷ [] }

pub two_words : (first second : Parts) → Spells first (spelling_of first) Sixteen → Spells second (spelling_of second) Sixteen → IsBlockOf (first ∷ second ∷ []) (block_of_two first second)
two_words first second one two = (
  refl,
  (
    42 ∷ (spelling_of first ++ 32 ∷ spelling_of second),
    record {
      short = omega (arith, length-append (spelling_of first) (32 ∷ spelling_of second), one.length, two.length);
      few = omega arith;
      row = (spelling_of first ++ 32 ∷ spelling_of second, refl, (spelling_of first, spelling_of second, one, (spelling_of second, [], two, refl, sym (append-nil (spelling_of second))), refl));
    },
  ),
)

-- a word of GSI-16 has 16 bytes of data, and one of GSI-8 has 8
data_of : (word : Parts) (spelling : List ℕ) (width : Width) → Spells word spelling width → length word.body + 7 ≡ spelling_len width
data_of word spelling Eight is = omega (arith, ap length is.body, length-drop 7 spelling, is.length)
data_of word spelling Sixteen is = omega (arith, ap length is.body, length-drop 7 spelling, is.length)

-- and no other block has them
pub two_words-only : (first second : Parts) (block : BlockParts) → Spells first (spelling_of first) Sixteen → IsBlockOf (first ∷ second ∷ []) block → block ≡ block_of_two first second
two_words-only first second block one is =
    let row = is.1.1.row in
    by block.width row.0 (subst (λ words. SpellsRow block.width words row.0) is.0 row.2) ∙ ap (with_words Sixteen) is.0
  where
    with_words : Width → List Parts → BlockParts
    with_words width words = record { width = width; words = words }

    by : (width : Width) (bytes : List ℕ) → SpellsRow width (first ∷ second ∷ []) bytes → with_words width block.words ≡ with_words Sixteen block.words
    by Sixteen bytes row = refl
    by Eight bytes row = absurd (omega (arith, data_of first row.0 Eight row.2, data_of first (spelling_of first) Sixteen one))
