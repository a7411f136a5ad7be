-- Which of two heights is nearer: of two that differ always one.
use Rattle.std.proofs.Common.{◌≡◌, ◌≢◌, ◌<◌, ◌⊎◌, inl, inr, ℕ, Bool, true, false, ◌&&◌, ◌||◌, ℤ, int_lt, nat_lt, ◌==◌, refl, ap, sym, ◌∙◌, arith, lt-ltb, ltb-true, ltb-false, eq-eqb, eqb-true}
use Rattle.std.specs.Prelude.{◌<ℤ◌, ◌≤ℤ◌}
use Rattle.std.proofs.lemmas.Bool.{eqb-false, false≢true}
use Rattle.std.proofs.lemmas.Int.{ints}
use Rattle.th_meant.specs.Ranges.{from_middle, is_nearer}
use Rattle.th_meant.specs.declared.proposed.Proposed.{Proposed}

less_is : (x y : ℤ) → int_lt x y ≡ true → x <ℤ y
less_is x y e = grind (arith, ints)

is_less : (x y : ℤ) → x <ℤ y → int_lt x y ≡ true
is_less x y e = grind (arith, ints)

not_less : (x y : ℤ) → int_lt x y ≡ false → y ≤ℤ x
not_less x y e = grind (arith, ints)

less_than_both : (x y z : ℤ) → x <ℤ y → y <ℤ z → x <ℤ z
less_than_both x y z e f = omega (arith, ints)

not_itself : (x : ℤ) → x <ℤ x → ⊥
not_itself x e = omega (arith, ints)

or_less : (x y : ℤ) → x ≤ℤ y → x ≢ y → x <ℤ y
or_less x y e f = omega (arith, ints)

-- distances are compared first, and then heights
abbrev comes_first : ℕ → ℕ → ℤ → ℤ → Bool
comes_first a b x y = nat_lt a b || (a == b && int_lt x y)

tells : (a b : ℕ) (x y : ℤ) → comes_first a b x y ≡ true → (a < b) ⊎ ((a ≡ b) × (x <ℤ y))
tells a b x y e = by (nat_lt a b) (a == b) refl refl e
  where
    by : (less same : Bool) → nat_lt a b ≡ less → (a == b) ≡ same → (less || (same && int_lt x y)) ≡ true → (a < b) ⊎ ((a ≡ b) × (x <ℤ y))
    by true same l s e = inl (ltb-true a b l)
    by false true l s e = inr (eqb-true a b s, less_is x y e)
    by false false l s e = absurd (false≢true e)

first_by_distance : (a b : ℕ) (x y : ℤ) → a < b → comes_first a b x y ≡ true
first_by_distance a b x y less = ap (λ own. own || (a == b && int_lt x y)) (lt-ltb a b less)

first_by_height : (a b : ℕ) (x y : ℤ) → a ≡ b → x <ℤ y → comes_first a b x y ≡ true
first_by_height a b x y same less = by (nat_lt a b)
  where
    second : (a == b && int_lt x y) ≡ true
    second = ap (λ own. own && int_lt x y) (eq-eqb a b same) ∙ is_less x y less

    by : (own : Bool) → (own || (a == b && int_lt x y)) ≡ true
    by true = refl
    by false = second

first_of_both : (a b c : ℕ) (x y z : ℤ) → (a < b) ⊎ ((a ≡ b) × (x <ℤ y)) → (b < c) ⊎ ((b ≡ c) × (y <ℤ z)) → comes_first a c x z ≡ true
first_of_both a b c x y z (inl less) (inl other) = first_by_distance a c x z (omega arith)
first_of_both a b c x y z (inl less) (inr (same, other)) = first_by_distance a c x z (omega arith)
first_of_both a b c x y z (inr (same, less)) (inl other) = first_by_distance a c x z (omega arith)
first_of_both a b c x y z (inr (same, less)) (inr (equal, other)) = first_by_height a c x z (same ∙ equal) (less_than_both x y z less other)

not_first : (a : ℕ) (x : ℤ) → (a < a) ⊎ ((a ≡ a) × (x <ℤ x)) → ⊥
not_first a x (inl less) = omega arith
not_first a x (inr (same, less)) = not_itself x less

one_is_first : (a b : ℕ) (x y : ℤ) → x ≢ y → comes_first a b x y ≡ false → comes_first b a y x ≡ true
one_is_first a b x y apart e = by (nat_lt a b) (a == b) refl refl e
  where
    by : (less same : Bool) → nat_lt a b ≡ less → (a == b) ≡ same → (less || (same && int_lt x y)) ≡ false → comes_first b a y x ≡ true
    by true same l s e = absurd (false≢true (sym e))
    by false true l s e = first_by_height b a y x (sym (eqb-true a b s)) (or_less y x (not_less x y e) (λ same. apart (sym same)))
    by false false l s e =
        let most = ltb-false a b l in
        let other = eqb-false a b s in
        first_by_distance b a y x (omega (arith, most, other))

-- ---- the same of heights
pub nearer-trans : (proposed : Proposed) (x y z : ℤ) → is_nearer proposed x y ≡ true → is_nearer proposed y z ≡ true → is_nearer proposed x z ≡ true
nearer-trans proposed x y z one other =
    let m = from_middle proposed in
    first_of_both (m x) (m y) (m z) x y z (tells (m x) (m y) x y one) (tells (m y) (m z) y z other)

pub nearer-apart : (proposed : Proposed) (x y : ℤ) → is_nearer proposed x y ≡ true → x ≢ y
nearer-apart proposed x y one same =
    let m = from_middle proposed in
    let itself : is_nearer proposed x x ≡ true = ap (is_nearer proposed x) same ∙ one in
    not_first (m x) x (tells (m x) (m x) x x itself)

pub nearer-one : (proposed : Proposed) (x y : ℤ) → x ≢ y → is_nearer proposed x y ≡ false → is_nearer proposed y x ≡ true
nearer-one proposed x y apart other =
    let m = from_middle proposed in
    one_is_first (m x) (m y) x y apart other
