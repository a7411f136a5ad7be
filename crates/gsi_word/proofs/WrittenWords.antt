-- A word has one spelling at most, and it has that one just where its parts are allowed.
use Rattle.std.proofs.Common.{◌≡◌, ℕ, ◌+◌, ◌/◌, ◌%◌, ◌<◌, Bool, true, false, ◌&&◌, ◌||◌, if◌then◌else◌, ◌==◌, List, [], ◌∷◌, ◌++◌, length, take, Ok, refl, sym, ap, subst, ◌∙◌, arith}
use Rattle.std.specs.List.{list_all}
use Rattle.std.proofs.lemmas.List.{take_at}
use Rattle.std.proofs.lemmas.Bool.Decides.{nat_tests}
use Rattle.th_units.proofs.Digits.{digit_bounds}
use Rattle.th_units.specs.Lengths.{is_digit, number}
use Rattle.gsi_word.specs.Bytes.{is_info, is_sign, is_data}
use Rattle.gsi_word.specs.Words.{HasSpelling, Parts, Spells, data_len, spelling_len, spelling_of, word_at}
use Rattle.gsi_word.specs.declared.words.Width.{Width}
use Rattle.gsi_word.specs.declared.words.Width.TheVariants.{Eight, Sixteen}
use Rattle.gsi_word.proofs.Spellings.{number_two}
use Rattle.gsi_word.proofs.SpellingLaw.{word_at-Spells}

-- parts of which each is allowed in its place
pub record ArePlaced (word : Parts) (width : Width) : Type 0 where
  pub index : word.index < 100
  pub info_length : length word.info ≡ 4
  pub info : list_all is_info word.info ≡ true
  pub body_length : length word.body ≡ data_len width
  pub body : list_all is_data word.body ≡ true

-- what the sign of a word is read as
sign_byte-read : (negative : Bool) → (is_sign (if negative then 45 else 43) ≡ true) × (negative ≡ ((if negative then 45 else 43) == 45))
sign_byte-read true = (refl, refl)
sign_byte-read false = (refl, refl)

-- a number below a hundred, in its two digits
two_digits : (n : ℕ) → n < 100 → (list_all is_digit ((48 + n / 10) ∷ (48 + n % 10) ∷ []) ≡ true) × (n ≡ number ((48 + n / 10) ∷ (48 + n % 10) ∷ []))
two_digits n small =
    let tens : is_digit (48 + n / 10) ≡ true = grind (arith, nat_tests) in
    let ones : is_digit (48 + n % 10) ≡ true = grind (arith, nat_tests) in
    (rw (tens, ones) refl, omega (arith, number_two (48 + n / 10) (48 + n % 10) tens ones))

-- allowed parts are spelled
pub Spells-spelling_of : (word : Parts) (width : Width) → ArePlaced word width → Spells word (spelling_of word) width
Spells-spelling_of word width placed = by_info word.info refl placed.info_length
  where
    by_info : (info : List ℕ) → info ≡ word.info → length info ≡ 4 → Spells word (spelling_of word) width
    by_info (a ∷ b ∷ c ∷ d ∷ []) e four =
        let digits = two_digits word.index placed.index in
        let sign = sign_byte-read word.negative in
        let P : List ℕ → Type 0 = λ info. Spells word ((48 + word.index / 10) ∷ (48 + word.index % 10) ∷ info ++ (if word.negative then 45 else 43) ∷ word.body) width in
        subst P e (record {
          length = omega (arith, placed.body_length);
          index_digits = digits.0;
          index = digits.1;
          info_bytes = placed.info;
          info = sym e;
          sign = sign.0;
          negative = sign.1;
          body_bytes = placed.body;
          body = refl;
        })
    by_info _ e four = absurd (omega arith)

-- what is spelled has allowed parts, and the spelling is that of its word
record IsTheSpelling (word : Parts) (bytes : List ℕ) (width : Width) : Type 0 where
  placed : ArePlaced word width
  spelling : bytes ≡ spelling_of word

-- a digit that two digits begin with, and the one that they end with
digit_back : (tens ones n : ℕ) → is_digit tens ≡ true → is_digit ones ≡ true → n ≡ number (tens ∷ ones ∷ []) → (n < 100) × (tens ≡ 48 + n / 10) × (ones ≡ 48 + n % 10)
digit_back tens ones n tens_digit ones_digit is =
    let value = number_two tens ones tens_digit ones_digit in
    let tens_bounds = digit_bounds tens tens_digit in
    let ones_bounds = digit_bounds ones ones_digit in
    (omega arith, omega arith, omega arith)

-- a sign that is a minus or a plus is the one that it is read as
sign_back : (sign : ℕ) (negative : Bool) → is_sign sign ≡ true → negative ≡ (sign == 45) → sign ≡ (if negative then 45 else 43)
sign_back sign true allowed is = grind (arith, nat_tests)
sign_back sign false allowed is = grind (arith, nat_tests)

both_tests : (a b : Bool) → (a && (b && true)) ≡ true → (a ≡ true) × (b ≡ true)
both_tests true true e = (refl, refl)
both_tests true false e = absurd (cc)
both_tests false b e = absurd (cc)

IsTheSpelling-Spells : (word : Parts) (bytes : List ℕ) (width : Width) → Spells word bytes width → IsTheSpelling word bytes width
IsTheSpelling-Spells word (a ∷ b ∷ c ∷ d ∷ e ∷ f ∷ g ∷ rest) width spells =
    let digits = both_tests (is_digit a) (is_digit b) spells.index_digits in
    let index = digit_back a b word.index digits.0 digits.1 spells.index in
    let sign : g ≡ (if word.negative then 45 else 43) = sign_back g word.negative spells.sign spells.negative in
    let info : word.info ≡ c ∷ d ∷ e ∷ f ∷ [] = spells.info in
    let body : word.body ≡ rest = spells.body in
    record {
      placed = record {
        index = index.0;
        info_length = ap length info;
        info = spells.info_bytes;
        body_length = ap length body ∙ omega (arith, spells.length);
        body = spells.body_bytes;
      };
      spelling = rw (info, body, ← index.1, ← index.2, ← sign) refl;
    }
IsTheSpelling-Spells word bytes Eight spells = absurd (omega (arith, spells.length))
IsTheSpelling-Spells word bytes Sixteen spells = absurd (omega (arith, spells.length))

-- a spelling is that of its word
pub spelling_of-Spells : (word : Parts) (bytes : List ℕ) (width : Width) → Spells word bytes width → bytes ≡ spelling_of word
spelling_of-Spells word bytes width spells = (IsTheSpelling-Spells word bytes width spells).spelling

-- data that are not of eight bytes have sixteen
pub sixteen : (len : ℕ) → ((len == 8) || (len == 16)) ≡ true → (len ≡ 8 → ⊥) → len ≡ 16
sixteen len known not_eight = grind (arith, nat_tests)

-- parts that are allowed have a spelling
pub HasSpelling-parts : (word : Parts) → word.index < 100 → length word.info ≡ 4 → list_all is_info word.info ≡ true → ((length word.body == 8) || (length word.body == 16)) ≡ true → list_all is_data word.body ≡ true → HasSpelling word
HasSpelling-parts word index four info known body =
    elim (length word.body == 8) as (λ b. (length word.body == 8) ≡ b → HasSpelling word) [
      | true ↦ λ e.
          let eight : length word.body ≡ 8 = grind (arith, nat_tests) in
          (Eight, spelling_of word, Spells-spelling_of word Eight (record { index = index; info_length = four; info = info; body_length = eight; body = body }))
      | false ↦ λ e.
          let long : length word.body ≡ 16 = grind (arith, nat_tests) in
          (Sixteen, spelling_of word, Spells-spelling_of word Sixteen (record { index = index; info_length = four; info = info; body_length = long; body = body }))
    ] refl

-- what a word is spelled as is read as that word, whatever stands after it
pub word_at-spelling_of : (word : Parts) (bytes rest : List ℕ) (width : Width) → Spells word bytes width → word_at width (spelling_of word ++ rest) ≡ Ok word
word_at-spelling_of word bytes rest width spells =
    let same : bytes ≡ spelling_of word = spelling_of-Spells word bytes width spells in
    let front : take (spelling_len width) (spelling_of word ++ rest) ≡ bytes = take_at (spelling_of word) rest (spelling_len width) (ap length (sym same) ∙ spells.length) ∙ sym same in
    let P : List ℕ → Type 0 = λ front. Spells word front width in
    word_at-Spells width (spelling_of word ++ rest) word (subst P (sym front) spells)
