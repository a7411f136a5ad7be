-- What is counted grows word by word.
use Rattle.std.proofs.Common.{◌≡◌, ℕ, ◌+◌, Bool, true, false, cond, ◌&&◌, ◌||◌, List, [], ◌∷◌, ◌++◌, Option, Some, None, refl, sym, ap, ◌∙◌, arith}
use Rattle.std.specs.Prelude.{count_by, find, is_some, nat_lt, option_map}
use Rattle.std.specs.Option.{option_or}
use Rattle.std.specs.List.{list_any}
use Rattle.std.proofs.lemmas.List.Folds.{find-append, list_any-append}
use Rattle.std.proofs.lemmas.List.Sums.{sum_by-append, sum_by-cons}
use Rattle.std.proofs.lemmas.Bool.Decides.{nat_tests}
use Rattle.gsi_word.specs.Indexes.{height_difference, station_easting, station_northing, station_height, reflector_height, instrument_height}
use Rattle.gsi_word.specs.Words.{Parts}
use Rattle.gsi_word.specs.Values.{length_of}
use Rattle.th_book.specs.Lines.{counts_for, holds}
use Rattle.gsi_word.specs.declared.faults.LengthFault.TheVariants.{BadNumber, BadUnit, TooLarge}
use Rattle.th_book.specs.Faults.{is_length, repeats_word, single_indexes, some_length}
use Rattle.th_book.specs.Inside.Countings.{counted_in, counted_with, first_kept, first_length, is_refused_for, repeats}

or_false : (b : Bool) → (b || false) ≡ b
or_false true = refl
or_false false = refl

-- an index is held where its first word is there
pub first_length-there : (index : ℕ) (words : List Parts) → is_some (first_length index words) ≡ holds index words
first_length-there index [] = refl
first_length-there index (word ∷ words) = go (counts_for index word) (first_length-there index words)
  where
    go : (counts : Bool) → is_some (first_length index words) ≡ holds index words → is_some (option_map length_of (cond counts (Some word) (find (counts_for index) words))) ≡ (counts || holds index words)
    go true later = refl
    go false later = later

-- one more word at the end: the first length
first_length-more : (index : ℕ) (words : List Parts) (word : Parts) → first_length index (words ++ word ∷ []) ≡ first_kept (counts_for index word) (first_length index words) word
first_length-more index words word =
    ap (option_map length_of) (find-append (counts_for index) words (word ∷ [])) ∙ go (counts_for index word) (find (counts_for index) words)
  where
    go : (counts : Bool) (found : Option Parts) → option_map length_of (option_or found (cond counts (Some word) None)) ≡ first_kept counts (option_map length_of found) word
    go true None = refl
    go true (Some first) = refl
    go false None = refl
    go false (Some first) = refl

-- whether an index is held
holds-more : (index : ℕ) (words : List Parts) (word : Parts) → holds index (words ++ word ∷ []) ≡ (holds index words || counts_for index word)
holds-more index words word =
    list_any-append (counts_for index) words (word ∷ []) ∙ ap (λ here. holds index words || here) (or_false (counts_for index word))

-- a word counts at least once where the index is held
pub counted_once : (index : ℕ) (words : List Parts) → holds index words ≡ nat_lt 0 (count_by (counts_for index) words)
counted_once index [] = refl
counted_once index (word ∷ words) =
    go (counts_for index word) (counted_once index words)
    ∙ ap (nat_lt 0) (sym (sum_by-cons (λ own. cond (counts_for index own) 1 0) word words))
  where
    go : (counts : Bool) → holds index words ≡ nat_lt 0 (count_by (counts_for index) words) → (counts || holds index words) ≡ nat_lt 0 (cond counts 1 0 + count_by (counts_for index) words)
    go true later = grind (arith, nat_tests)
    go false later = grind (arith, nat_tests)

-- an index is repeated
repeated-more : (index : ℕ) (words : List Parts) (word : Parts) → nat_lt 1 (count_by (counts_for index) (words ++ word ∷ [])) ≡ (nat_lt 1 (count_by (counts_for index) words) || (counts_for index word && holds index words))
repeated-more index words word =
    ap (nat_lt 1) (sum_by-append (λ own. cond (counts_for index own) 1 0) words (word ∷ []) ∙ ap (λ last. count_by (counts_for index) words + last) (sum_by-cons (λ own. cond (counts_for index own) 1 0) word []))
    ∙ go (counts_for index word) (count_by (counts_for index) words)
    ∙ ap (λ held. nat_lt 1 (count_by (counts_for index) words) || (counts_for index word && held)) (sym (counted_once index words))
  where
    go : (counts : Bool) (count : ℕ) → nat_lt 1 (count + (cond counts 1 0 + 0)) ≡ (nat_lt 1 count || (counts && nat_lt 0 count))
    go true count = grind (arith, nat_tests)
    go false count = grind (arith, nat_tests)

-- some element passes one of two tests: some passes the one, or some the other
pub any_or : {X : Type 0} (p q : X → Bool) (xs : List X) → list_any (λ x. p x || q x) xs ≡ (list_any p xs || list_any q xs)
any_or p q [] = refl
any_or p q (x ∷ xs) =
    ap (λ rest. (p x || q x) || rest) (any_or p q xs) ∙ swapped (p x) (q x) (list_any p xs) (list_any q xs)
  where
    swapped : (a b c d : Bool) → ((a || b) || (c || d)) ≡ ((a || c) || (b || d))
    swapped true b c d = refl
    swapped false true true d = refl
    swapped false true false d = refl
    swapped false false c d = refl

-- two tests with the same answers are passed by some alike
pub any_same : {X : Type 0} (p q : X → Bool) → ((x : X) → p x ≡ q x) → (xs : List X) → list_any p xs ≡ list_any q xs
any_same p q same [] = refl
any_same p q same (x ∷ xs) =
    ap (λ first. first || list_any p xs) (same x) ∙ ap (λ rest. q x || rest) (any_same p q same xs)

-- some index is repeated
repeats_word-more : (words : List Parts) (word : Parts) → repeats_word (words ++ word ∷ []) ≡ (repeats_word words || repeats word (counted_in words))
repeats_word-more words word =
    any_same _ _ (λ index. repeated-more index words word) single_indexes
    ∙ any_or (λ index. nat_lt 1 (count_by (counts_for index) words)) (λ index. counts_for index word && holds index words) single_indexes
    ∙ ap (λ again. repeats_word words || again) again
  where
    again : list_any (λ index. counts_for index word && holds index words) single_indexes ≡ repeats word (counted_in words)
    again =
        let sighted = sym (first_length-there height_difference words) in
        let reflector = sym (first_length-there reflector_height words) in
        let instrument = sym (first_length-there instrument_height words) in
        let last = or_false (counts_for instrument_height word && holds instrument_height words) in
        cc

-- whether some length has a defect
some_length-more : (defect : Parts → Bool) (words : List Parts) (word : Parts) → some_length defect (words ++ word ∷ []) ≡ (some_length defect words || (is_length word && defect word))
some_length-more defect words word =
    list_any-append (λ own. is_length own && defect own) words (word ∷ [])
    ∙ ap (λ here. some_length defect words || here) (or_false (is_length word && defect word))

-- what some words say, and one more word
pub counted_in-more : (words : List Parts) (word : Parts) → counted_in (words ++ word ∷ []) ≡ counted_with word (counted_in words)
counted_in-more words word =
    let sighted = first_length-more height_difference words word in
    let easting = holds-more station_easting words word in
    let northing = holds-more station_northing words word in
    let height = holds-more station_height words word in
    let reflector = first_length-more reflector_height words word in
    let instrument = first_length-more instrument_height words word in
    let repeated = repeats_word-more words word in
    let bad_number = some_length-more (is_refused_for BadNumber) words word in
    let bad_unit = some_length-more (is_refused_for BadUnit) words word in
    let too_large = some_length-more (is_refused_for TooLarge) words word in
    cc
