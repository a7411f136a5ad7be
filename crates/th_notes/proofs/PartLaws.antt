-- What the numbers of parts say.
use Rattle.std.proofs.Common.{◌≡◌, ◌<◌, ℕ, suc, zero, Bool, true, false, All, List, [], ◌∷◌, get_or, length, nat_eq, refl, subst, sym, ap, ◌∙◌, arith}
use Rattle.std.specs.Prelude.{◌==◌, if◌then◌else◌, fold, slice_index}
use Rattle.std.specs.List.{range_with_len}
use Rattle.std.proofs.lemmas.Bool.{eqb-true}
use Rattle.std.proofs.lemmas.List.{get_or-map, length-map}
use Rattle.std.proofs.lemmas.List.FromFn.{get_or-range_with_len, length-range_with_len}
use Rattle.th_points.specs.Ends.{AreBelow}
use Rattle.th_notes.specs.Parts.{joined, parts_of}

-- the number of a part after an observation that ends at two places
abbrev number : List ℕ → ℕ × ℕ → ℕ → ℕ
number parts own part = if part == slice_index parts own.1 then slice_index parts own.0 else part

number_at : (parts : List ℕ) (own : ℕ × ℕ) (place : ℕ) → place < length parts → slice_index (joined parts own) place ≡ number parts own (slice_index parts place)
number_at parts own place within = get_or-map (number parts own) parts place 0 0 within

still_below : (parts : List ℕ) (own : ℕ × ℕ) → length (joined parts own) ≡ length parts
still_below parts own = length-map parts (number parts own)

-- the observations that are left end at places
rest_below : (P : ℕ × ℕ → Type 0) (own : ℕ × ℕ) (ends : List (ℕ × ℕ)) → All P (own ∷ ends) → All P ends
rest_below P own ends all = λ k d within. all (suc k) d (omega (arith, within))

first_below : (P : ℕ × ℕ → Type 0) (own : ℕ × ℕ) (ends : List (ℕ × ℕ)) → All P (own ∷ ends) → P own
first_below P own ends all = all 0 own (omega arith)

next_below : (parts : List ℕ) (own : ℕ × ℕ) (ends : List (ℕ × ℕ)) → All (AreBelow (length parts)) (own ∷ ends) → All (AreBelow (length (joined parts own))) ends
next_below parts own ends below = subst (λ n. All (AreBelow n) ends) (sym (still_below parts own)) (rest_below (AreBelow (length parts)) own ends below)

-- one part stays one
stay_joined : (ends : List (ℕ × ℕ)) (parts : List ℕ) (place other : ℕ) → place < length parts → other < length parts → slice_index parts place ≡ slice_index parts other
    → slice_index (fold joined parts ends) place ≡ slice_index (fold joined parts ends) other
stay_joined [] parts place other within within' same = same
stay_joined (own ∷ ends) parts place other within within' same =
    stay_joined ends (joined parts own) place other (omega (arith, within, still_below parts own)) (omega (arith, within', still_below parts own))
    (number_at parts own place within ∙ ap (number parts own) same ∙ sym (number_at parts own other within'))

-- the ends of an observation have one part after it
ends_joined : (parts : List ℕ) (own : ℕ × ℕ) → own.0 < length parts → own.1 < length parts → slice_index (joined parts own) own.0 ≡ slice_index (joined parts own) own.1
ends_joined parts own within within' =
    number_at parts own own.0 within ∙ go (slice_index parts own.0) (slice_index parts own.1) (slice_index parts own.0 == slice_index parts own.1) (slice_index parts own.1 == slice_index parts own.1) (same (slice_index parts own.1))
    ∙ sym (number_at parts own own.1 within')
  where
    same : (n : ℕ) → nat_eq n n ≡ true
    same n = grind arith

    go : (to from : ℕ) (first second : Bool) → second ≡ true → (if first then to else to) ≡ (if second then to else from)
    go to from true second is = sym (ap (λ b. if b then to else from) is)
    go to from false second is = sym (ap (λ b. if b then to else from) is)

all_joined : (ends : List (ℕ × ℕ)) (parts : List ℕ) → All (AreBelow (length parts)) ends → (k : ℕ) (d : ℕ × ℕ) → k < length ends
    → slice_index (fold joined parts ends) (get_or ends k d).0 ≡ slice_index (fold joined parts ends) (get_or ends k d).1
all_joined [] parts below k d within = absurd (omega (arith, within))
all_joined (own ∷ ends) parts below zero d within =
    let first = first_below (AreBelow (length parts)) own ends below in
    stay_joined ends (joined parts own) own.0 own.1 (omega (arith, first.0, still_below parts own)) (omega (arith, first.1, still_below parts own))
    (ends_joined parts own first.0 first.1)
all_joined (own ∷ ends) parts below (suc k) d within = all_joined ends (joined parts own) (next_below parts own ends below) k d (omega (arith, within))

pub joined_in : (count : ℕ) (ends : List (ℕ × ℕ)) → All (AreBelow count) ends → All (λ own. slice_index (parts_of count ends) own.0 ≡ slice_index (parts_of count ends) own.1) ends
joined_in count ends below =
    all_joined ends (range_with_len 0 count) (subst (λ n. All (AreBelow n) ends) (sym (length-range_with_len 0 count)) below)

-- a set holds all or none of the places of each part
abbrev Respects : (ℕ → Bool) → List ℕ → Type 0
Respects inside parts = (place other : ℕ) → place < length parts → other < length parts → slice_index parts place ≡ slice_index parts other → inside place ≡ inside other

respects_next : (inside : ℕ → Bool) (parts : List ℕ) (own : ℕ × ℕ) → own.0 < length parts → own.1 < length parts → inside own.0 ≡ inside own.1 → Respects inside parts → Respects inside (joined parts own)
respects_next inside parts own first second same respects place other within within' one =
    let here : place < length parts = omega (arith, within, still_below parts own) in
    let there : other < length parts = omega (arith, within', still_below parts own) in
    go here there (slice_index parts place == from) refl (slice_index parts other == from) refl (sym (number_at parts own place here) ∙ one ∙ number_at parts own other there)
  where
    from : ℕ
    from = slice_index parts own.1

    to : ℕ
    to = slice_index parts own.0

    go : place < length parts → other < length parts → (a : Bool) → (slice_index parts place == from) ≡ a → (b : Bool) → (slice_index parts other == from) ≡ b
        → number parts own (slice_index parts place) ≡ number parts own (slice_index parts other) → inside place ≡ inside other
    go here there true e true e' eq = respects place own.1 here second (eqb-true (slice_index parts place) from e) ∙ sym (respects other own.1 there second (eqb-true (slice_index parts other) from e'))
    go here there true e false e' eq =
        let is : slice_index parts other ≡ to = sym (ap (λ b. if b then to else slice_index parts other) e') ∙ sym eq ∙ ap (λ b. if b then to else slice_index parts place) e in
        respects place own.1 here second (eqb-true (slice_index parts place) from e) ∙ sym same ∙ sym (respects other own.0 there first is)
    go here there false e true e' eq =
        let is : slice_index parts place ≡ to = sym (ap (λ b. if b then to else slice_index parts place) e) ∙ eq ∙ ap (λ b. if b then to else slice_index parts other) e' in
        respects place own.0 here first is ∙ same ∙ sym (respects other own.1 there second (eqb-true (slice_index parts other) from e'))
    go here there false e false e' eq =
        respects place other here there (sym (ap (λ b. if b then to else slice_index parts place) e) ∙ eq ∙ ap (λ b. if b then to else slice_index parts other) e')

respects_all : (inside : ℕ → Bool) (ends : List (ℕ × ℕ)) (parts : List ℕ) → All (AreBelow (length parts)) ends → All (λ own. inside own.0 ≡ inside own.1) ends → Respects inside parts → Respects inside (fold joined parts ends)
respects_all inside [] parts below same respects = respects
respects_all inside (own ∷ ends) parts below same respects =
    let first = first_below (AreBelow (length parts)) own ends below in
    respects_all inside ends (joined parts own) (next_below parts own ends below) (rest_below (λ own. inside own.0 ≡ inside own.1) own ends same)
    (respects_next inside parts own first.0 first.1 (first_below (λ own. inside own.0 ≡ inside own.1) own ends same) respects)

respects_none : (inside : ℕ → Bool) (count : ℕ) → Respects inside (range_with_len 0 count)
respects_none inside count place other within within' same =
    let size = length-range_with_len 0 count in
    let here : slice_index (range_with_len 0 count) place ≡ place = omega (arith, get_or-range_with_len 0 count place 0 (omega (arith, within, size))) in
    let there : slice_index (range_with_len 0 count) other ≡ other = omega (arith, get_or-range_with_len 0 count other 0 (omega (arith, within', size))) in
    ap inside (sym here ∙ same ∙ there)

length-fold : (ends : List (ℕ × ℕ)) (parts : List ℕ) → length (fold joined parts ends) ≡ length parts
length-fold [] parts = refl
length-fold (own ∷ ends) parts = length-fold ends (joined parts own) ∙ still_below parts own

pub apart_in : (count : ℕ) (ends : List (ℕ × ℕ)) (inside : ℕ → Bool) (place other : ℕ) → All (AreBelow count) ends → All (λ own. inside own.0 ≡ inside own.1) ends
    → place < count → other < count → slice_index (parts_of count ends) place ≡ slice_index (parts_of count ends) other → inside place ≡ inside other
apart_in count ends inside place other below same within within' one =
    let start = length-range_with_len 0 count in
    let size = length-fold ends (range_with_len 0 count) in
    respects_all inside ends (range_with_len 0 count) (subst (λ n. All (AreBelow n) ends) (sym start) below) same (respects_none inside count)
    place other (omega (arith, within, size, start)) (omega (arith, within', size, start)) one
