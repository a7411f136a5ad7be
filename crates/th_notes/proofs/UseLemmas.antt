-- How often names are used, one name further.
use Rattle.std.proofs.Common.{◌≡◌, ℕ, Bool, true, false, ◌||◌, ◌&&◌, List, [], ◌∷◌, ◌++◌, refl, ap, ◌∙◌}
use Rattle.std.specs.Cmp.Lexicographic.{bytes_decides}
use Rattle.std.proofs.lemmas.List.Folds.{list_any-append}
use Rattle.gsi_word.specs.Names.{same_name}
use Rattle.th_notes.specs.Uses.{is_used, is_used_again}

pub or_false : (b : Bool) → (b || false) ≡ b
or_false true = refl
or_false false = refl

-- one name more is used
pub used-push : (names : List (List ℕ)) (own name : List ℕ) → is_used (names ++ own ∷ []) name ≡ (is_used names name || same_name own name)
used-push names own name = list_any-append (λ own. same_name own name) names (own ∷ []) ∙ ap (λ last. is_used names name || last) (or_false (same_name own name))

-- a name is used again where it was, or where it was used before it is used once more
pub again-push : (names : List (List ℕ)) (own name : List ℕ) → is_used_again (names ++ own ∷ []) name ≡ (is_used_again names name || (is_used names name && same_name own name))
again-push [] own name = go (same_name own name)
  where
    go : (is : Bool) → ((is && false) || false) ≡ false
    go true = refl
    go false = refl
again-push (first ∷ names) own name =
    ap (λ used. (same_name first name && used) || is_used_again (names ++ own ∷ []) name) (used-push names own name)
    ∙ ap (λ again. (same_name first name && (is_used names name || same_name own name)) || again) (again-push names own name)
    ∙ go (same_name first name) (is_used names name) (is_used_again names name) (same_name own name)
  where
    go : (own was again is : Bool) → ((own && (was || is)) || (again || (was && is))) ≡ (((own && was) || again) || ((own || was) && is))
    go true true again is = refl
    go true false true true = refl
    go true false true false = refl
    go true false false true = refl
    go true false false false = refl
    go false true again is = refl
    go false false true is = refl
    go false false false is = refl

-- what holds of a name holds of the same name
pub same_swap : (test : List ℕ → Bool) (own name : List ℕ) → (test own && same_name own name) ≡ (test name && same_name own name)
same_swap test own name = go (same_name own name) refl
  where
    none : (a b : Bool) → (a && false) ≡ (b && false)
    none true true = refl
    none true false = refl
    none false true = refl
    none false false = refl

    go : (same : Bool) → same_name own name ≡ same → (test own && same) ≡ (test name && same)
    go true e = ap (λ own. test own && true) ((bytes_decides own name).0 e)
    go false e = none (test own) (test name)
