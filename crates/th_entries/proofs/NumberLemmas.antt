-- The numbers at places that are true, one place further.
use Rattle.std.proofs.Common.{◌≡◌, ◌<◌, ◌+◌, ℕ, zero, suc, Bool, true, false, cond, List, [], ◌∷◌, ◌++◌, get_or, length, take, refl, ap, ◌∙◌, arith}
use Rattle.th_entries.specs.Sights.{numbers_in}

-- one place further
more : (words : List Bool) (numbers : List ℕ) (place : ℕ) → place < length numbers
    → numbers_in (take (suc place) words) numbers ≡ numbers_in (take place words) numbers ++ cond (get_or words place false) (get_or numbers place 0 ∷ []) []
more [] numbers zero there = refl
more [] numbers (suc place) there = refl
more (word ∷ words) [] place there = absurd (omega (arith, there))
more (true ∷ words) (number ∷ numbers) zero there = refl
more (false ∷ words) (number ∷ numbers) zero there = refl
more (true ∷ words) (number ∷ numbers) (suc place) there = ap (λ rest. number ∷ rest) (more words numbers place (omega (arith, there)))
more (false ∷ words) (number ∷ numbers) (suc place) there = more words numbers place (omega (arith, there))

pub chosen : (words : List Bool) (numbers : List ℕ) (place : ℕ) (is : Bool) → place < length numbers → get_or words place false ≡ is
    → numbers_in (take (place + 1) words) numbers ≡ numbers_in (take place words) numbers ++ cond is (get_or numbers place 0 ∷ []) []
chosen words numbers place is there same =
    let one : place + 1 ≡ suc place = omega arith in
    ap (λ many. numbers_in (take many words) numbers) one
    ∙ more words numbers place there
    ∙ ap (λ own. numbers_in (take place words) numbers ++ cond own (get_or numbers place 0 ∷ []) []) same
