-- Words without one of some numbers show none of them.
use Rattle.std.proofs.Common.{◌≡◌, ℕ, Bool, true, false, ◌||◌, List, [], ◌∷◌, Option, Some, None, refl, sym, ap, ◌∙◌}
use Rattle.std.specs.List.{list_any}
use Rattle.gsi_word.specs.Words.{Parts}
use Rattle.th_entries.specs.Inside.Watches.{with_words}
use Rattle.th_entries.specs.Words.{has, is_numbered, is_one_of, number_of}
use Rattle.th_entries.proofs.AnyLemmas.{or_false}

clash : true ≡ false → ⊥
clash none = cc

-- neither of two tests
neither : (first second : Bool) → (first || second) ≡ false → (first ≡ false) × (second ≡ false)
neither false false none = (refl, refl)
neither false true none = absurd (clash none)
neither true second none = absurd (clash none)

-- a word with one of some numbers has the first, or one of the others
first_or_other : (number : ℕ) (numbers : List ℕ) (word : Parts) → is_one_of (number ∷ numbers) word ≡ (is_numbered number word || is_one_of numbers word)
first_or_other number numbers word = by (number_of word) refl
  where
    by : (own : Option ℕ) → number_of word ≡ own → is_one_of (number ∷ numbers) word ≡ (is_numbered number word || is_one_of numbers word)
    by None is = cc
    by (Some own) is = cc

none_of_two : (number : ℕ) (numbers : List ℕ) (words : List Parts) → list_any (is_one_of (number ∷ numbers)) words ≡ false → (has number words ≡ false) × (list_any (is_one_of numbers) words ≡ false)
none_of_two number numbers [] none = (refl, refl)
none_of_two number numbers (word ∷ words) none =
    let now = neither (is_one_of (number ∷ numbers) word) (list_any (is_one_of (number ∷ numbers)) words) none in
    let here = neither (is_numbered number word) (is_one_of numbers word) (sym (first_or_other number numbers word) ∙ now.0) in
    let rest = none_of_two number numbers words now.1 in
    (ap (λ own. own || has number words) here.0 ∙ rest.0, ap (λ own. own || list_any (is_one_of numbers) words) here.1 ∙ rest.1)

pub none_seen : (words : List Parts) (seen : List Bool) (numbers : List ℕ) → list_any (is_one_of numbers) words ≡ false → with_words words seen numbers ≡ seen
none_seen words [] numbers none = refl
none_seen words (own ∷ seen) [] none = refl
none_seen words (own ∷ seen) (number ∷ numbers) none =
    let two = none_of_two number numbers words none in
    ap (λ first. (own || first) ∷ with_words words seen numbers) two.0
    ∙ ap (λ first. first ∷ with_words words seen numbers) (or_false own)
    ∙ ap (λ rest. own ∷ rest) (none_seen words seen numbers two.1)
