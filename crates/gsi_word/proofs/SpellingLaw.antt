-- A word is read from bytes just where their front is its spelling.
use Rattle.std.proofs.Common.{◌≡◌, ℕ, ◌≤◌, Bool, true, false, not, nat_lt, if◌then◌else◌, List, length, take, drop, Result, Ok, Err, refl, sym, ap, subst, ◌∙◌, arith, slice_index}
use Rattle.std.specs.List.{list_all, slice_range}
use Rattle.std.proofs.lemmas.Bool.Decides.{nat_tests}
use Rattle.std.proofs.lemmas.List.{length-take, length-take-le}
use Rattle.th_units.specs.Lengths.{is_digit}
use Rattle.gsi_word.specs.Bytes.{is_info, is_sign, is_data}
use Rattle.gsi_word.specs.Words.{Parts, Spells, parts_in, spelling_len, word_at}
use Rattle.gsi_word.specs.declared.words.Width.{Width}
use Rattle.gsi_word.specs.declared.faults.WordFault.{WordFault}
use Rattle.gsi_word.specs.declared.faults.WordFault.TheVariants.{Short, BadIndex, BadInfo, BadSign, BadData}

-- the tests in their order, with what the word is where all are passed
by_tests : (short index info sign body : Bool) → Parts → Result Parts WordFault
by_tests short index info sign body word =
    if short then Err Short
    else (if not index then Err BadIndex
    else (if not info then Err BadInfo
    else (if not sign then Err BadSign
    else (if not body then Err BadData
    else Ok word))))

-- a word is only where all tests are passed
passed : (short index info sign body : Bool) (parts word : Parts) → by_tests short index info sign body parts ≡ Ok word → (short ≡ false) × (index ≡ true) × (info ≡ true) × (sign ≡ true) × (body ≡ true) × (parts ≡ word)
unfolding by_tests
passed false true true true true parts word e = (refl, refl, refl, refl, refl, cc)
passed true _ _ _ _ parts word e = absurd (cc)
passed false false _ _ _ parts word e = absurd (cc)
passed false true false _ _ parts word e = absurd (cc)
passed false true true false _ parts word e = absurd (cc)
passed false true true true false parts word e = absurd (cc)

-- a word that is read is spelled by the front
pub Spells-word_at : (width : Width) (bytes : List ℕ) (word : Parts) → word_at width bytes ≡ Ok word → Spells word (take (spelling_len width) bytes) width
unfolding by_tests
Spells-word_at width bytes word is_word =
    let spelling : List ℕ = take (spelling_len width) bytes in
    let all = passed (nat_lt (length bytes) (spelling_len width)) (list_all is_digit (take 2 spelling)) (list_all is_info (slice_range spelling 2 6)) (is_sign (slice_index spelling 6)) (list_all is_data (drop 7 spelling)) (parts_in spelling) word is_word in
    let long : spelling_len width ≤ length bytes = grind (arith, nat_tests, all.0) in
    subst (λ w. Spells w spelling width) all.5 (record {
      length = length-take-le (spelling_len width) bytes long;
      index_digits = all.1;
      index = refl;
      info_bytes = all.2;
      info = refl;
      sign = all.3;
      negative = refl;
      body_bytes = all.4;
      body = refl;
    })

-- a word that the front spells is read
pub word_at-Spells : (width : Width) (bytes : List ℕ) (word : Parts) → Spells word (take (spelling_len width) bytes) width → word_at width bytes ≡ Ok word
word_at-Spells width bytes word spells =
    let spelling : List ℕ = take (spelling_len width) bytes in
    let long : spelling_len width ≤ length bytes = omega (arith, length-take (spelling_len width) bytes, spells.length) in
    let not_short : nat_lt (length bytes) (spelling_len width) ≡ false = grind (arith, nat_tests) in
    let info : list_all is_info (slice_range spelling 2 6) ≡ true = ap (list_all is_info) (sym spells.info) ∙ spells.info_bytes in
    let body : list_all is_data (drop 7 spelling) ≡ true = ap (list_all is_data) (sym spells.body) ∙ spells.body_bytes in
    rw (not_short, spells.index_digits, info, spells.sign, body)
    (λ i. Ok (record { index = sym spells.index i; info = sym spells.info i; negative = sym spells.negative i; body = sym spells.body i }))
