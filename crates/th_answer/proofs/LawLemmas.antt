-- What the groups and the moved heights mean.
use Rattle.std.proofs.Common.{◌≡◌, ◌∙◌, ◌<ℤ◌, ◌-ℤ◌, ◌||◌, ℕ, ℤ, pos, Bool, true, false, List, [], ◌∷◌, None, ap, if◌then◌else◌, refl, sym, unsigned_abs, arith}
use Rattle.std.proofs.lemmas.List.Folds.{Any-from_list_any, list_any-from_Any}
use Rattle.std.specs.List.{list_any}
use Rattle.std.specs.Prelude.{Any, IsSome, int_lt}
use Rattle.th_answer.specs.Corrected.{Corrected}
use Rattle.th_answer.specs.Groups.{first_group}
use Rattle.th_answer.specs.Moved.{heights_then, is_moved, moved_of, span_of}
use Rattle.th_answer.specs.declared.answers.Group.TheVariants.{Unlike, Fits}

pub fits_alone : (question marked stays unlike : Bool) → first_group question marked stays unlike ≡ Fits → (marked ≡ false) × (question ≡ false)
fits_alone true marked stays unlike is = absurd (cc)
fits_alone false true true unlike is = absurd (cc)
fits_alone false true false unlike is = absurd (cc)
fits_alone false false stays unlike is = (refl, refl)

pub unlike_alone : (question marked stays unlike : Bool) → first_group question marked stays unlike ≡ Unlike → (marked ≡ false) × (question ≡ false)
unlike_alone true marked stays unlike is = absurd (cc)
unlike_alone false true true unlike is = absurd (cc)
unlike_alone false true false unlike is = absurd (cc)
unlike_alone false false stays unlike is = (refl, refl)

-- a test of the heights with each row put right is a test of the rows
tests_there : (limit from : ℤ) (point : List ℕ) (corrected : List Corrected) → list_any (is_moved limit from) (heights_then corrected point) ≡ list_any (λ own. is_moved limit from (own.heights point)) corrected
tests_there limit from point [] = refl
tests_there limit from point (own ∷ corrected) = ap (λ (rest : Bool). is_moved limit from (own.heights point) || rest) (tests_there limit from point corrected)

has_span : (test : ℤ → Bool) (heights : List ℤ) → list_any test heights ≡ true → IsSome (span_of heights)
has_span test [] any = absurd (cc)
has_span test (height ∷ heights) any = refl

above : (limit size : ℤ) → int_lt limit size ≡ true → limit <ℤ size
above limit size is = grind (arith, is)

is_above : (limit size : ℤ) → limit <ℤ size → int_lt limit size ≡ true
is_above limit size is = grind (arith, is)

-- a row moves the height by more than the limit
abbrev Moves : ℤ → (List ℕ → ℤ) → List ℕ → Corrected → Type 0
Moves limit heights point own = limit <ℤ pos (unsigned_abs (own.heights point -ℤ heights point))

pub moved_by_one : (limit : ℤ) (heights : List ℕ → ℤ) (corrected : List Corrected) (point : List ℕ) → IsSome (moved_of limit heights corrected point) → Any (Moves limit heights point) corrected
moved_by_one limit heights corrected point some = by (list_any (is_moved limit (heights point)) (heights_then corrected point)) refl some
  where
    by : (moved : Bool) → list_any (is_moved limit (heights point)) (heights_then corrected point) ≡ moved → IsSome (if moved then span_of (heights_then corrected point) else None) → Any (Moves limit heights point) corrected
    by true is some =
        let any = Any-from_list_any (λ (own : Corrected). is_moved limit (heights point) (own.heights point)) corrected (sym (tests_there limit (heights point) point corrected) ∙ is) in
        (any.0, any.1, any.2, any.3, above limit (pos (unsigned_abs (any.1.heights point -ℤ heights point))) any.4)
    by false is some = absurd (cc)

pub one_moves : (limit : ℤ) (heights : List ℕ → ℤ) (corrected : List Corrected) (point : List ℕ) → Any (Moves limit heights point) corrected → IsSome (moved_of limit heights corrected point)
one_moves limit heights corrected point any =
    let passes : is_moved limit (heights point) (any.1.heights point) ≡ true = is_above limit (pos (unsigned_abs (any.1.heights point -ℤ heights point))) any.4 in
    let found = tests_there limit (heights point) point corrected ∙ list_any-from_Any (λ (own : Corrected). is_moved limit (heights point) (own.heights point)) corrected (any.0, any.1, any.2, any.3, passes) in
    by (list_any (is_moved limit (heights point)) (heights_then corrected point)) found found
  where
    by : (moved : Bool) → moved ≡ true → list_any (is_moved limit (heights point)) (heights_then corrected point) ≡ true → IsSome (if moved then span_of (heights_then corrected point) else None)
    by true is any = has_span (is_moved limit (heights point)) (heights_then corrected point) any
    by false is any = absurd (cc)
