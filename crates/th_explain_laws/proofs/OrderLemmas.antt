-- Rows that are ranked: which they are, and in which order.
use Rattle.std.proofs.Common.{◌≡◌, ◌<◌, ◌≤◌, ◌+◌, ◌⊎◌, inl, inr, ℕ, zero, suc, Bool, true, false, cond, not, List, [], ◌∷◌, ◌++◌, All, Contains, Option, None, Some, fold, get_or, length, nat_le, take, refl, subst, sym, ap, ◌∙◌, arith}
use Rattle.std.specs.List.{insert, position_or_len}
use Rattle.std.proofs.lemmas.Bool.Decides.{nat_tests}
use Rattle.std.proofs.lemmas.List.Elements.{All-contains, All-contains_itself, All-cons, All-get_or, All-head, All-nil, All-tail, All-weaker}
use Rattle.th_explain_texts.specs.Ranks.{by_left, leading, leaves_more, number_after, numbered_from, ranked, with_number, with_row}
use Rattle.th_explain_texts.specs.Sentences.{most_rows}
use Rattle.th_explain_texts.specs.declared.rows.Row.{Row}

-- ---- a row more
abbrev step : Row → Row → List Row → Bool → List Row
step row y ys b = insert (y ∷ ys) (cond (not b) (1 + position_or_len (leaves_more row) ys) 0) row

first : (row y : Row) (ys : List Row) → leaves_more row y ≡ true → with_row (y ∷ ys) row ≡ row ∷ y ∷ ys
unfolding with_row
first row y ys more = ap (step row y ys) more

later : (row y : Row) (ys : List Row) → leaves_more row y ≡ false → with_row (y ∷ ys) row ≡ y ∷ with_row ys row
unfolding with_row
later row y ys less =
    let k : ℕ = position_or_len (leaves_more row) ys in
    let next : 1 + k ≡ suc k = omega arith in
    ap (step row y ys) less ∙ ap (λ k. insert (y ∷ ys) k row) next

alone : (row : Row) → with_row [] row ≡ row ∷ []
unfolding with_row
alone row = refl

module _ (P : Row → Type 0) where
  all_with : (row : Row) (ys : List Row) → P row → All P ys → All P (with_row ys row)
  all_with row [] one all = subst (All P) (sym (alone row)) (All-cons P row [] one all)
  all_with row (y ∷ ys) one all = by (leaves_more row y) refl (all_with row ys one (All-tail P y ys all))
    where
      by : (b : Bool) → leaves_more row y ≡ b → All P (with_row ys row) → All P (with_row (y ∷ ys) row)
      by true e rest = subst (All P) (sym (first row y ys e)) (All-cons P row (y ∷ ys) one all)
      by false e rest = subst (All P) (sym (later row y ys e)) (All-cons P y (with_row ys row) (All-head P y ys all) rest)

  all_sorted : (done rest : List Row) → All P done → All P rest → All P (fold with_row done rest)
  all_sorted done [] all rest = all
  all_sorted done (row ∷ rows) all rest = all_sorted (with_row done row) rows (all_with row done (All-head P row rows rest) all) (All-tail P row rows rest)

  all_taken : (n : ℕ) (rows : List Row) → All P rows → All P (take n rows)
  all_taken zero rows all = All-nil P
  all_taken (suc n) [] all = All-nil P
  all_taken (suc n) (row ∷ rows) all = All-cons P row (take n rows) (All-head P row rows all) (all_taken n rows (All-tail P row rows all))

here : (row : Row) (rows : List Row) → Contains (row ∷ rows) row
here row rows = (0, omega arith, refl)

there : (row own : Row) (rows : List Row) → Contains rows own → Contains (row ∷ rows) own
there row own rows (k, within, is) = (suc k, omega arith, is)

has_row : (row : Row) (ys : List Row) → Contains (with_row ys row) row
has_row row [] = subst (λ (rows : List Row). Contains rows row) (sym (alone row)) (here row [])
has_row row (y ∷ ys) = by (leaves_more row y) refl (has_row row ys)
  where
    by : (b : Bool) → leaves_more row y ≡ b → Contains (with_row ys row) row → Contains (with_row (y ∷ ys) row) row
    by true e rest = subst (λ (rows : List Row). Contains rows row) (sym (first row y ys e)) (here row (y ∷ ys))
    by false e rest = subst (λ (rows : List Row). Contains rows row) (sym (later row y ys e)) (there y row (with_row ys row) rest)

keeps_row : (row own : Row) (ys : List Row) → Contains ys own → Contains (with_row ys row) own
keeps_row row own [] has = absurd (omega (arith, has.1))
keeps_row row own (y ∷ ys) has = by (leaves_more row y) refl has (keeps_row row own ys)
  where
    by : (b : Bool) → leaves_more row y ≡ b → Contains (y ∷ ys) own → (Contains ys own → Contains (with_row ys row) own) → Contains (with_row (y ∷ ys) row) own
    by true e has rest = subst (λ (rows : List Row). Contains rows own) (sym (first row y ys e)) (there row own (y ∷ ys) has)
    by false e (zero, within, is) rest =
        subst (λ (rows : List Row). Contains rows own) (sym (later row y ys e)) (subst (λ (o : Row). Contains (y ∷ with_row ys row) o) is (here y (with_row ys row)))
    by false e (suc k, within, is) rest =
        subst (λ (rows : List Row). Contains rows own) (sym (later row y ys e)) (there y own (with_row ys row) (rest (k, omega arith, is)))

keeps_all : (own : Row) (done rest : List Row) → Contains done own ⊎ Contains rest own → Contains (fold with_row done rest) own
keeps_all own done [] (inl has) = has
keeps_all own done [] (inr has) = absurd (omega (arith, has.1))
keeps_all own done (row ∷ rows) (inl has) = keeps_all own (with_row done row) rows (inl (keeps_row row own done has))
keeps_all own done (row ∷ rows) (inr (zero, within, is)) =
    keeps_all own (with_row done row) rows (inl (subst (λ (o : Row). Contains (with_row done row) o) is (has_row row done)))
keeps_all own done (row ∷ rows) (inr (suc k, within, is)) = keeps_all own (with_row done row) rows (inr (k, omega arith, is))

-- ---- each row leaves no more than those behind it
abbrev Ascend : List Row → Type 0
Ascend [] = Unit {0}
Ascend (row ∷ rows) = All (λ (later : Row). row.left ≤ later.left) rows × Ascend rows

ascend_with : (row : Row) (ys : List Row) → Ascend ys → Ascend (with_row ys row)
ascend_with row [] up = subst Ascend (sym (alone row)) (All-nil (λ (later : Row). row.left ≤ later.left), tt)
ascend_with row (y ∷ ys) up = by (leaves_more row y) refl (ascend_with row ys up.1)
  where
    by : (b : Bool) → leaves_more row y ≡ b → Ascend (with_row ys row) → Ascend (with_row (y ∷ ys) row)
    by true e rest =
        let less : row.left < y.left = grind (arith, nat_tests) in
        subst Ascend (sym (first row y ys e))
        (All-cons (λ (later : Row). row.left ≤ later.left) y ys (omega (arith, less)) (All-weaker (λ (later : Row). y.left ≤ later.left) (λ (later : Row). row.left ≤ later.left) (λ later at. omega (arith, less, at)) ys up.0), up)
    by false e rest =
        let more : y.left ≤ row.left = grind (arith, nat_tests) in
        subst Ascend (sym (later row y ys e)) (all_with (λ (later : Row). y.left ≤ later.left) row ys more up.0, rest)

ascend_sorted : (done rest : List Row) → Ascend done → Ascend (fold with_row done rest)
ascend_sorted done [] up = up
ascend_sorted done (row ∷ rows) up = ascend_sorted (with_row done row) rows (ascend_with row done up)

ascend_taken : (n : ℕ) (rows : List Row) → Ascend rows → Ascend (take n rows)
ascend_taken zero rows up = tt
ascend_taken (suc n) [] up = tt
ascend_taken (suc n) (row ∷ rows) up = (all_taken (λ (later : Row). row.left ≤ later.left) n rows up.0, ascend_taken n rows up.1)

ascend_at : (rows : List Row) (j k : ℕ) (d : Row) → Ascend rows → j ≤ k → k < length rows → (get_or rows j d).left ≤ (get_or rows k d).left
ascend_at [] j k d up le within = absurd (omega (arith, within))
ascend_at (row ∷ rows) zero zero d up le within = omega arith
ascend_at (row ∷ rows) zero (suc k) d up le within = All-get_or (λ (later : Row). row.left ≤ later.left) rows k d (omega arith) up.0
ascend_at (row ∷ rows) (suc j) zero d up le within = absurd (omega (arith, le))
ascend_at (row ∷ rows) (suc j) (suc k) d up le within = ascend_at rows j k d up.1 (omega arith) (omega arith)

-- a row is among the first n, or these are n and leave no more
taken : (n : ℕ) (rows : List Row) (own : Row) → Ascend rows → Contains rows own → Contains (take n rows) own ⊎ ((length (take n rows) ≡ n) × All (λ (row : Row). row.left ≤ own.left) (take n rows))
taken zero rows own up has = inr (refl, All-nil (λ (row : Row). row.left ≤ own.left))
taken (suc n) [] own up has = absurd (omega (arith, has.1))
taken (suc n) (row ∷ rows) own up (zero, within, is) = inl (0, omega arith, is)
taken (suc n) (row ∷ rows) own up (suc k, within, is) =
    let has : Contains rows own = (k, omega arith, is) in
    elim (taken n rows own up.1 has) [
      | inl h ↦ inl (there row own (take n rows) h)
      | inr h ↦ inr (ap suc h.0, All-cons (λ (row : Row). row.left ≤ own.left) row (take n rows) (All-contains (λ (later : Row). row.left ≤ later.left) rows own up.0 has) h.1)
    ]

-- ---- how many rows leave no more than this
abbrev one_if : Bool → ℕ
one_if true = 1
one_if false = 0

abbrev pub small : ℕ → List Row → ℕ
small most [] = 0
small most (row ∷ rows) = one_if (nat_le row.left most) + small most rows

small_with : (most : ℕ) (row : Row) (ys : List Row) → small most (with_row ys row) ≡ one_if (nat_le row.left most) + small most ys
small_with most row [] = ap (small most) (alone row)
small_with most row (y ∷ ys) = by (leaves_more row y) refl (small_with most row ys)
  where
    by : (b : Bool) → leaves_more row y ≡ b → small most (with_row ys row) ≡ one_if (nat_le row.left most) + small most ys → small most (with_row (y ∷ ys) row) ≡ one_if (nat_le row.left most) + small most (y ∷ ys)
    by true e rest = ap (small most) (first row y ys e)
    by false e rest = let same = ap (small most) (later row y ys e) in omega (arith, same, rest)

small_sorted : (most : ℕ) (done rest : List Row) → small most (fold with_row done rest) ≡ small most done + small most rest
small_sorted most done [] = omega arith
small_sorted most done (row ∷ rows) =
    let rest = small_sorted most (with_row done row) rows in
    let more = small_with most row done in
    omega (arith, rest, more)

pub small_append : (most : ℕ) (rows others : List Row) → small most rows ≤ small most (rows ++ others)
small_append most [] others = omega arith
small_append most (row ∷ rows) others = let rest = small_append most rows others in omega (arith, rest)

pub small_all : (most : ℕ) (rows : List Row) → All (λ (row : Row). row.left ≤ most) rows → small most rows ≡ length rows
small_all most [] all = refl
small_all most (row ∷ rows) all = by (nat_le row.left most) refl (All-head (λ (row : Row). row.left ≤ most) row rows all) (small_all most rows (All-tail (λ (row : Row). row.left ≤ most) row rows all))
  where
    by : (b : Bool) → nat_le row.left most ≡ b → row.left ≤ most → small most rows ≡ length rows → one_if b + small most rows ≡ suc (length rows)
    by true e less rest = omega (arith, rest)
    by false e less rest = absurd (grind (arith, nat_tests))

none_small : (most left : ℕ) (rows : List Row) → most < left → All (λ (later : Row). left ≤ later.left) rows → small most rows ≡ 0
none_small most left [] more all = refl
none_small most left (row ∷ rows) more all = by (nat_le row.left most) refl (All-head (λ (later : Row). left ≤ later.left) row rows all) (none_small most left rows more (All-tail (λ (later : Row). left ≤ later.left) row rows all))
  where
    by : (b : Bool) → nat_le row.left most ≡ b → left ≤ row.left → small most rows ≡ 0 → one_if b + small most rows ≡ 0
    by true e less rest = absurd (grind (arith, nat_tests))
    by false e less rest = omega (arith, rest)

-- if so many rows leave no more than this, then the first ones do
taken_small : (n most : ℕ) (rows : List Row) → Ascend rows → n ≤ small most rows → (length (take n rows) ≡ n) × All (λ (row : Row). row.left ≤ most) (take n rows)
taken_small zero most rows up many = (refl, All-nil (λ (row : Row). row.left ≤ most))
taken_small (suc n) most [] up many = absurd (omega (arith, many))
taken_small (suc n) most (row ∷ rows) up many = by (nat_le row.left most) refl many (taken_small n most rows up.1)
  where
    by : (b : Bool) → nat_le row.left most ≡ b → suc n ≤ one_if b + small most rows → (n ≤ small most rows → (length (take n rows) ≡ n) × All (λ (row : Row). row.left ≤ most) (take n rows))
        → (length (take (suc n) (row ∷ rows)) ≡ suc n) × All (λ (row : Row). row.left ≤ most) (take (suc n) (row ∷ rows))
    by true e many rest =
        let less : row.left ≤ most = grind (arith, nat_tests) in
        let (long, all) = rest (omega (arith, many)) in
        (ap suc long, All-cons (λ (row : Row). row.left ≤ most) row (take n rows) less all)
    by false e many rest =
        let more : most < row.left = grind (arith, nat_tests) in
        let none = none_small most row.left rows more up.0 in
        absurd (omega (arith, many, none))

-- ---- rows with their numbers
all_numbered : (P Q : Row → Type 0) → ((row : Row) (number : ℕ) → P row → Q (with_number row number)) → (number : ℕ) (left : Option ℕ) (rows : List Row) → All P rows → All Q (numbered_from number left rows)
unfolding numbered_from
all_numbered P Q make number left [] all = All-nil Q
all_numbered P Q make number left (row ∷ rows) all =
    All-cons Q (with_number row (number_after number left row)) (numbered_from (number_after number left row) (Some row.left) rows) (make row (number_after number left row) (All-head P row rows all))
    (all_numbered P Q make (number_after number left row) (Some row.left) rows (All-tail P row rows all))

long_numbered : (number : ℕ) (left : Option ℕ) (rows : List Row) → length (numbered_from number left rows) ≡ length rows
unfolding numbered_from
long_numbered number left [] = refl
long_numbered number left (row ∷ rows) = ap suc (long_numbered (number_after number left row) (Some row.left) rows)

ascend_numbered : (number : ℕ) (left : Option ℕ) (rows : List Row) → Ascend rows → Ascend (numbered_from number left rows)
unfolding numbered_from
ascend_numbered number left [] up = tt
ascend_numbered number left (row ∷ rows) up = (
  all_numbered (λ (later : Row). row.left ≤ later.left) (λ (later : Row). row.left ≤ later.left) (λ later n at. at) (number_after number left row) (Some row.left) rows up.0,
  ascend_numbered (number_after number left row) (Some row.left) rows up.1,
)

has_numbered : (number : ℕ) (left : Option ℕ) (rows : List Row) (own : Row) → Contains rows own → (n : ℕ) × Contains (numbered_from number left rows) (with_number own n)
unfolding numbered_from
has_numbered number left [] own has = absurd (omega (arith, has.1))
has_numbered number left (row ∷ rows) own (zero, within, is) =
    (number_after number left row, (0, omega arith, ap (λ (r : Row). with_number r (number_after number left row)) is))
has_numbered number left (row ∷ rows) own (suc k, within, is) =
    let (n, has) = has_numbered (number_after number left row) (Some row.left) rows own (k, omega arith, is) in
    (n, there (with_number row (number_after number left row)) (with_number own n) (numbered_from (number_after number left row) (Some row.left) rows) has)

-- ---- the law
pub each_ranked : (rows : List Row) → All (λ (row : Row). (own : Row) × Contains rows own × (row ≡ with_number own row.number)) (ranked rows)
each_ranked rows =
    all_numbered (Contains rows) (λ (row : Row). (own : Row) × Contains rows own × (row ≡ with_number own row.number)) (λ row n has. (row, has, refl)) 0 None (leading rows)
    (all_taken (Contains rows) most_rows (by_left rows) (all_sorted (Contains rows) [] rows (All-nil (Contains rows)) (All-contains_itself rows)))

ascend_leading : (rows : List Row) → Ascend (by_left rows)
ascend_leading rows = ascend_sorted [] rows tt

pub sorted_ranked : (rows : List Row) (j k : ℕ) (d : Row) → j ≤ k → k < length (ranked rows) → (get_or (ranked rows) j d).left ≤ (get_or (ranked rows) k d).left
sorted_ranked rows j k d le within =
    ascend_at (ranked rows) j k d (ascend_numbered 0 None (leading rows) (ascend_taken most_rows (by_left rows) (ascend_leading rows))) le within

pub complete_ranked : (rows : List Row) (own : Row) → Contains rows own → ((number : ℕ) × Contains (ranked rows) (with_number own number)) ⊎ ((length (ranked rows) ≡ most_rows) × All (λ (row : Row). row.left ≤ own.left) (ranked rows))
complete_ranked rows own has =
    elim (taken most_rows (by_left rows) own (ascend_leading rows) (keeps_all own [] rows (inr has))) [
      | inl h ↦ inl (has_numbered 0 None (leading rows) own h)
      | inr h ↦ inr (long_numbered 0 None (leading rows) ∙ h.0, all_numbered (λ (row : Row). row.left ≤ own.left) (λ (row : Row). row.left ≤ own.left) (λ row n at. at) 0 None (leading rows) h.1)
    ]

-- if as many rows as may be ranked leave no more than this, then those that are ranked are as many, and do
pub enough_ranked : (most : ℕ) (rows : List Row) → most_rows ≤ small most rows → (length (ranked rows) ≡ most_rows) × All (λ (row : Row). row.left ≤ most) (ranked rows)
enough_ranked most rows many =
    let sorted = small_sorted most [] rows in
    let (long, all) = taken_small most_rows most (by_left rows) (ascend_leading rows) (omega (arith, many, sorted)) in
    (long_numbered 0 None (leading rows) ∙ long, all_numbered (λ (row : Row). row.left ≤ most) (λ (row : Row). row.left ≤ most) (λ row n at. at) 0 None (leading rows) all)
