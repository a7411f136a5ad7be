-- The slips that are listed are all slips of some digits, and no others.
use Rattle.std.proofs.Common.{◌≡◌, ◌≢◌, ◌<◌, ◌+◌, ◌-◌, ◌⊎◌, inl, inr, ℕ, zero, suc, Bool, true, false, cond, ◌&&◌, not, ◌==◌, ℤ, List, [], ◌∷◌, ◌++◌, All, Contains, Result, Ok, Err, length, map, nat_lt, nat_le, refl, subst, sym, ap, ◌∙◌, arith, if◌then◌else◌, lt-ltb, ltb-true, ltb-false, le-ltb, ne_eqb, leb-true}
use Rattle.std.specs.List.{flat_map, list_all}
use Rattle.std.specs.Int.{is_negative}
use Rattle.std.specs.Prelude.{option_to_list, slice_index, slice_set}
use Rattle.std.specs.Result.{result_ok}
use Rattle.std.proofs.lemmas.Bool.{cases_order, eqb-false, false≢true, true≢false}
use Rattle.std.proofs.lemmas.List.{map-append}
use Rattle.std.proofs.lemmas.List.Elements.{All-contains, All-from_recursion, Contains-append_cases, Contains-append_left, Contains-append_right}
use Rattle.th_units.specs.Lengths.{is_digit, length_of}
use Rattle.th_units.specs.declared.faults.LenFault.{LenFault}
use Rattle.th_meant.specs.Inside.Slips.{all_digits, change_to, changes_at, differs_behind, exchanged_at, exchanges_at, read_in, slips_at, slips_below, slips_of}
use Rattle.th_meant.specs.Slips.{IsSlip, IsSlipOf, changed, exchanged, behind, digits_of}
use Rattle.th_meant.specs.declared.typed.Typed.{Typed}
use Rattle.th_meant.proofs.MemberLemmas.{at_first, in_piece, in_rest, member_cases, none_in, piece_of}

-- ---- the digits
are_digits : All (λ digit. is_digit digit ≡ true) all_digits
are_digits = All-from_recursion (λ digit. is_digit digit ≡ true) all_digits (refl, (refl, (refl, (refl, (refl, (refl, (refl, (refl, (refl, (refl, tt))))))))))

one_of_ten : (k : ℕ) → k < 10 → Contains all_digits (48 + k)
one_of_ten zero h = (0, omega arith, refl)
one_of_ten (suc zero) h = (1, omega arith, refl)
one_of_ten (suc (suc zero)) h = (2, omega arith, refl)
one_of_ten (suc (suc (suc zero))) h = (3, omega arith, refl)
one_of_ten (suc (suc (suc (suc zero)))) h = (4, omega arith, refl)
one_of_ten (suc (suc (suc (suc (suc zero))))) h = (5, omega arith, refl)
one_of_ten (suc (suc (suc (suc (suc (suc zero)))))) h = (6, omega arith, refl)
one_of_ten (suc (suc (suc (suc (suc (suc (suc zero))))))) h = (7, omega arith, refl)
one_of_ten (suc (suc (suc (suc (suc (suc (suc (suc zero)))))))) h = (8, omega arith, refl)
one_of_ten (suc (suc (suc (suc (suc (suc (suc (suc (suc zero))))))))) h = (9, omega arith, refl)
one_of_ten (suc (suc (suc (suc (suc (suc (suc (suc (suc (suc k)))))))))) h = absurd (omega (arith, h))

pub and_parts : (a b : Bool) → (a && b) ≡ true → (a ≡ true) × (b ≡ true)
and_parts true b h = (refl, h)
and_parts false b h = absurd (false≢true h)

a_digit : (digit : ℕ) → is_digit digit ≡ true → Contains all_digits digit
a_digit digit is =
    let ends = and_parts (nat_le 48 digit) (nat_le digit 57) is in
    let low = leb-true 48 digit ends.0 in
    let high = leb-true digit 57 ends.1 in
    let sum : 48 + (digit - 48) ≡ digit = omega (arith, low) in
    subst (Contains all_digits) sum (one_of_ten (digit - 48) (omega (arith, low, high)))

-- ---- one slip, or none
abbrev one_if : {X : Type 0} → Bool → X → List X
one_if none x = if none then [] else x ∷ []

in_one : {X : Type 0} (none : Bool) (x : X) → none ≡ false → Contains (one_if none x) x
in_one none x e = subst (λ (own : Bool). Contains (one_if own x) x) (sym e) (at_first x [])

the_one : {X : Type 0} (none : Bool) (x y : X) → Contains (one_if none x) y → (none ≡ false) × (x ≡ y)
the_one true x y among = absurd (none_in y among)
the_one false x y among = (refl, elim (member_cases x y [] among) [ inl same ↦ same | inr later ↦ absurd (none_in y later) ])

-- ---- in a list that one digit is put before
abbrev before : ℕ → List ℕ → List ℕ
before own digits = own ∷ digits

if_before : (own : ℕ) (none : Bool) (slip : List ℕ) → one_if none (own ∷ slip) ≡ map (before own) (one_if none slip)
if_before own true slip = refl
if_before own false slip = refl

changes_before : (own : ℕ) (rest : List ℕ) (k : ℕ) (digits : List ℕ) → flat_map (change_to (own ∷ rest) (suc k)) digits ≡ map (before own) (flat_map (change_to rest k) digits)
changes_before own rest k [] = refl
changes_before own rest k (digit ∷ digits) =
    ap (λ one. one ++ flat_map (change_to (own ∷ rest) (suc k)) digits) (if_before own (digit == slice_index rest k) (slice_set rest k digit))
    ∙ ap (λ more. map (before own) (change_to rest k digit) ++ more) (changes_before own rest k digits)
    ∙ sym (map-append (before own) (change_to rest k digit) (flat_map (change_to rest k) digits))

-- the exchange at a place, given the place behind it
abbrev exchange_with : List ℕ → ℕ → ℕ → List (List ℕ)
exchange_with digits place next =
    one_if (not (nat_lt next (length digits) && not (slice_index digits next == slice_index digits place)))
    (slice_set (slice_set digits place (slice_index digits next)) next (slice_index digits place))

turned : (differs : Bool) (slip : List ℕ) → cond differs (slip ∷ []) [] ≡ one_if (not differs) slip
turned true slip = refl
turned false slip = refl

exchange_is : (digits : List ℕ) (place : ℕ) → exchanges_at digits place ≡ exchange_with digits place (place + 1)
exchange_is digits place = turned (differs_behind digits place) (exchanged_at digits place)

longer : (k m : ℕ) → nat_lt (suc k) (suc m) ≡ nat_lt k m
longer k m = by (nat_lt k m) refl
  where
    by : (less : Bool) → nat_lt k m ≡ less → nat_lt (suc k) (suc m) ≡ less
    by true e = lt-ltb (suc k) (suc m) (omega (arith, ltb-true k m e))
    by false e = le-ltb (suc k) (suc m) (omega (arith, ltb-false k m e))

exchange_before : (own : ℕ) (rest : List ℕ) (k : ℕ) → exchanges_at (own ∷ rest) (suc k) ≡ map (before own) (exchanges_at rest k)
exchange_before own rest k =
    let next : suc k + 1 ≡ suc (k + 1) = omega arith in
    exchange_is (own ∷ rest) (suc k)
    ∙ ap (exchange_with (own ∷ rest) (suc k)) next
    ∙ ap (λ less. one_if (not (less && not (slice_index rest (k + 1) == slice_index rest k))) (own ∷ exchanged_at rest k)) (longer (k + 1) (length rest))
    ∙ if_before own (not (differs_behind rest k)) (exchanged_at rest k)
    ∙ ap (map (before own)) (sym (exchange_is rest k))

slips_before : (own : ℕ) (rest : List ℕ) (k : ℕ) → slips_at (own ∷ rest) (suc k) ≡ map (before own) (slips_at rest k)
slips_before own rest k =
    ap (λ one. one ++ exchanges_at (own ∷ rest) (suc k)) (changes_before own rest k all_digits)
    ∙ ap (λ more. map (before own) (changes_at rest k) ++ more) (exchange_before own rest k)
    ∙ sym (map-append (before own) (changes_at rest k) (exchanges_at rest k))

in_map : {X Y : Type 0} (f : X → Y) (xs : List X) (x : X) → Contains xs x → Contains (map f xs) (f x)
in_map f [] x among = absurd (none_in x among)
in_map {X} {Y} f (first ∷ rest) x among = go (member_cases first x rest among) (in_map f rest x)
  where
    go : (first ≡ x) ⊎ Contains rest x → (Contains rest x → Contains (map f rest) (f x)) → Contains (f first ∷ map f rest) (f x)
    go (inl same) later = subst (λ (own : X). Contains (f first ∷ map f rest) (f own)) same (at_first (f first) (map f rest))
    go (inr among) later = in_rest (f first) (f x) (map f rest) (later among)

of_map : {X Y : Type 0} (f : X → Y) (xs : List X) (y : Y) → Contains (map f xs) y → (x : X) × Contains xs x × (f x ≡ y)
of_map f [] y among = absurd (none_in y among)
of_map {X} {Y} f (first ∷ rest) y among = go (member_cases (f first) y (map f rest) among) (of_map f rest y)
  where
    go : (f first ≡ y) ⊎ Contains (map f rest) y → (Contains (map f rest) y → (x : X) × Contains rest x × (f x ≡ y)) → (x : X) × Contains (first ∷ rest) x × (f x ≡ y)
    go (inl same) later = (first, at_first first rest, same)
    go (inr among) later = let found = later among in (found.0, in_rest first found.0 rest found.1, found.2)

-- ---- each slip is listed at a place
slip_at : {digits slip : List ℕ} → IsSlip digits slip → (place : ℕ) × (place < length digits) × Contains (slips_at digits place) slip
slip_at (changed {own} {digit} {rest} another is) = (
  0,
  omega arith,
  Contains-append_left (changes_at (own ∷ rest) 0) (exchanges_at (own ∷ rest) 0) (digit ∷ rest)
      (in_piece (change_to (own ∷ rest) 0) all_digits digit (digit ∷ rest) (a_digit digit is) (in_one (digit == own) (digit ∷ rest) (ne_eqb digit own another))),
)
slip_at (exchanged {own} {next} {rest} another) =
    let slip : List ℕ = next ∷ own ∷ rest in
    let long : nat_lt 1 (suc (suc (length rest))) ≡ true = lt-ltb 1 (suc (suc (length rest))) (omega arith) in
    let differs : not (nat_lt 1 (suc (suc (length rest))) && not (next == own)) ≡ false = ap (λ less. not (less && not (next == own))) long ∙ ap (λ same. not (true && not same)) (ne_eqb next own another) in (
      0,
      omega arith,
      Contains-append_right (changes_at (own ∷ next ∷ rest) 0) (exchanges_at (own ∷ next ∷ rest) 0) slip
          (subst (λ (list : List (List ℕ)). Contains list slip) (sym (exchange_is (own ∷ next ∷ rest) 0)) (in_one (not (nat_lt 1 (suc (suc (length rest))) && not (next == own))) slip differs)),
    )
slip_at (behind {own} {rest} {slip} later) =
    let found = slip_at later in
    (suc found.0, omega (arith, found.1), subst (λ (list : List (List ℕ)). Contains list (own ∷ slip)) (sym (slips_before own rest found.0)) (in_map (before own) (slips_at rest found.0) slip found.2))

-- ---- what is listed at a place is a slip
change_first : (own digit : ℕ) (rest slip : List ℕ) → Contains all_digits digit → Contains (change_to (own ∷ rest) 0 digit) slip → IsSlip (own ∷ rest) slip
change_first own digit rest slip among one =
    let are = the_one (digit == own) (digit ∷ rest) slip one in
    subst (IsSlip (own ∷ rest)) are.1 (changed (eqb-false digit own are.0) (All-contains (λ digit. is_digit digit ≡ true) all_digits digit are_digits among))

exchange_first : (own : ℕ) (rest slip : List ℕ) → Contains (exchange_with (own ∷ rest) 0 1) slip → IsSlip (own ∷ rest) slip
exchange_first own [] slip one =
    let are = the_one (not (nat_lt 1 1 && not (0 == own))) (own ∷ []) slip one in
    absurd (true≢false are.0)
exchange_first own (next ∷ rest) slip one = go (nat_lt 1 (suc (suc (length rest)))) (next == own) refl (the_one _ (next ∷ own ∷ rest) slip one)
  where
    go : (less same : Bool) → (next == own) ≡ same → (not (less && not same) ≡ false) × ((next ∷ own ∷ rest) ≡ slip) → IsSlip (own ∷ next ∷ rest) slip
    go true true e are = absurd (true≢false are.0)
    go true false e are = subst (IsSlip (own ∷ next ∷ rest)) are.1 (exchanged (eqb-false next own e))
    go false same e are = absurd (true≢false are.0)

at_place : (digits : List ℕ) (place : ℕ) (slip : List ℕ) → place < length digits → Contains (slips_at digits place) slip → IsSlip digits slip
at_place [] place slip within among = absurd (omega (arith, within))
at_place (own ∷ rest) zero slip within among = go (Contains-append_cases (changes_at (own ∷ rest) 0) (exchanges_at (own ∷ rest) 0) slip among)
  where
    go : Contains (changes_at (own ∷ rest) 0) slip ⊎ Contains (exchanges_at (own ∷ rest) 0) slip → IsSlip (own ∷ rest) slip
    go (inl change) =
        let piece = piece_of (change_to (own ∷ rest) 0) all_digits slip change in
        change_first own piece.0 rest slip piece.1 piece.2
    go (inr exchange) = exchange_first own rest slip (subst (λ (list : List (List ℕ)). Contains list slip) (exchange_is (own ∷ rest) 0) exchange)
at_place (own ∷ rest) (suc k) slip within among =
    let found = of_map (before own) (slips_at rest k) slip (subst (λ (list : List (List ℕ)). Contains list slip) (slips_before own rest k) among) in
    subst (IsSlip (own ∷ rest)) found.2 (behind (at_place rest k found.0 (omega (arith, within)) found.1))

-- ---- at all places
below_has : (digits : List ℕ) (bound place : ℕ) (slip : List ℕ) → place < bound → Contains (slips_at digits place) slip → Contains (slips_below digits bound) slip
below_has digits zero place slip within among = absurd (omega (arith, within))
below_has digits (suc bound) place slip within among = go (cases_order place bound) (λ before. below_has digits bound place slip before among)
  where
    go : (place ≡ bound) ⊎ ((place < bound) ⊎ (bound < place)) → (place < bound → Contains (slips_below digits bound) slip) → Contains (slips_below digits bound ++ slips_at digits bound) slip
    go (inl same) rest = Contains-append_right (slips_below digits bound) (slips_at digits bound) slip (subst (λ (own : ℕ). Contains (slips_at digits own) slip) same among)
    go (inr (inl before)) rest = Contains-append_left (slips_below digits bound) (slips_at digits bound) slip (rest before)
    go (inr (inr after)) rest = absurd (omega (arith, after, within))

below_at : (digits : List ℕ) (bound : ℕ) (slip : List ℕ) → Contains (slips_below digits bound) slip → (place : ℕ) × (place < bound) × Contains (slips_at digits place) slip
below_at digits zero slip among = absurd (none_in slip among)
below_at digits (suc bound) slip among = go (Contains-append_cases (slips_below digits bound) (slips_at digits bound) slip among) (below_at digits bound slip)
  where
    go : Contains (slips_below digits bound) slip ⊎ Contains (slips_at digits bound) slip → (Contains (slips_below digits bound) slip → (place : ℕ) × (place < bound) × Contains (slips_at digits place) slip) → (place : ℕ) × (place < suc bound) × Contains (slips_at digits place) slip
    go (inl earlier) rest = let found = rest earlier in (found.0, omega (arith, found.1), found.2)
    go (inr own) rest = (bound, omega arith, own)

-- ---- what slips write
read_tells : (read : Result ℤ LenFault) (height : ℤ) → Contains (option_to_list (result_ok read)) height → read ≡ Ok height
read_tells (Ok own) height among = elim (member_cases own height [] among) [ inl same ↦ ap Ok same | inr later ↦ absurd (none_in height later) ]
read_tells (Err fault) height among = absurd (none_in height among)

read_has : (read : Result ℤ LenFault) (height : ℤ) → read ≡ Ok height → Contains (option_to_list (result_ok read)) height
read_has read height is = subst (λ (own : Result ℤ LenFault). Contains (option_to_list (result_ok own)) height) (sym is) (at_first height [])

pub slip_is_listed : (typed : Typed) (height : ℤ) → IsSlipOf typed height → Contains (slips_of typed) height
slip_is_listed typed height (slip, is, writes) =
    let digits : List ℕ = digits_of typed in
    let at = slip_at is in
    in_piece (read_in typed) (slips_below digits (length digits)) slip height
    (below_has digits (length digits) at.0 slip at.1 at.2)
    (read_has (length_of (is_negative typed.given) slip typed.unit) height writes)

pub listed_is_slip : (typed : Typed) (height : ℤ) → Contains (slips_of typed) height → IsSlipOf typed height
listed_is_slip typed height among =
    let digits : List ℕ = digits_of typed in
    let piece = piece_of (read_in typed) (slips_below digits (length digits)) height among in
    let at = below_at digits (length digits) piece.0 piece.1 in
    (piece.0, at_place digits at.0 piece.0 at.1 at.2, read_tells (length_of (is_negative typed.given) piece.0 typed.unit) height piece.2)

-- ---- slips go both ways
head_digit : (own : ℕ) (rest : List ℕ) → list_all is_digit (own ∷ rest) ≡ true → is_digit own ≡ true
head_digit own rest all = (and_parts (is_digit own) (list_all is_digit rest) all).0

rest_digits : (own : ℕ) (rest : List ℕ) → list_all is_digit (own ∷ rest) ≡ true → list_all is_digit rest ≡ true
rest_digits own rest all = (and_parts (is_digit own) (list_all is_digit rest) all).1

both_true : (a b : Bool) → a ≡ true → b ≡ true → (a && b) ≡ true
both_true a b e f = ap (λ own. own && b) e ∙ f

pub slip_back : {meant typed : List ℕ} → IsSlip meant typed → list_all is_digit meant ≡ true → IsSlip typed meant
slip_back (changed {own} {digit} {rest} another is) all = changed (λ same. another (sym same)) (head_digit own rest all)
slip_back (exchanged another) all = exchanged (λ same. another (sym same))
slip_back (behind {own} {rest} later) all = behind (slip_back later (rest_digits own rest all))

pub slip_digits : {digits slip : List ℕ} → IsSlip digits slip → list_all is_digit digits ≡ true → list_all is_digit slip ≡ true
slip_digits (changed {own} {digit} {rest} another is) all = both_true (is_digit digit) (list_all is_digit rest) is (rest_digits own rest all)
slip_digits (exchanged {own} {next} {rest} another) all =
    let later = rest_digits own (next ∷ rest) all in
    both_true (is_digit next) (is_digit own && list_all is_digit rest) (head_digit next rest later)
    (both_true (is_digit own) (list_all is_digit rest) (head_digit own (next ∷ rest) all) (rest_digits next rest later))
slip_digits (behind {own} {rest} {slip} later) all = both_true (is_digit own) (list_all is_digit slip) (head_digit own rest all) (slip_digits later (rest_digits own rest all))

pub slip_length : {digits slip : List ℕ} → IsSlip digits slip → length slip ≡ length digits
slip_length (changed another is) = refl
slip_length (exchanged another) = refl
slip_length (behind later) = ap suc (slip_length later)

pub slip_differs : {digits slip : List ℕ} → IsSlip digits slip → slip ≢ digits
slip_differs (changed {own} {digit} {rest} another is) same = let first : digit ≡ own = cc in another first
slip_differs (exchanged {own} {next} {rest} another) same = let first : next ≡ own = cc in another first
slip_differs (behind {own} {rest} {slip} later) same = let rest_same : slip ≡ rest = cc in slip_differs later rest_same
