-- Steps of the code, with numbers as they are passed.
use Rattle.std.proofs.Common.{◌≡◌, ◌<◌, ◌≤◌, ◌+◌, ◌-◌, ◌&&◌, ℕ, suc, Bool, true, false, ℤ, List, ◌++◌, Option, Some, None, length, get_or, take, drop, sym, ap, ◌∙◌, add-one, drop-cons}
use Rattle.std.specs.Prelude.{pos, int_le, nat_abs, slice_get}
use Rattle.std.specs.List.{flat_map, insert}
use Rattle.std.specs.Option.{option_map_or}
use Rattle.std.specs.Ordering.{int_eq}
use Rattle.std.proofs.lemmas.Bool.{false≢true}
use Rattle.std.proofs.lemmas.List.Concat.{flat_map-append}
use Rattle.th_meant.specs.Inside.Nearest.{is_at, place_of, placed, with_offer, with_offers}
use Rattle.th_meant.specs.Inside.Slips.{all_digits, all_read, change_to, read_in, slips_at, slips_below}
use Rattle.th_meant.specs.declared.nearest.Sought.{Sought}
use Rattle.th_meant.specs.declared.proposed.Proposed.{Proposed}
use Rattle.th_meant.specs.declared.typed.Typed.{Typed}
use Rattle.th_meant.proofs.OfferLemmas.{offers-append}
use Rattle.th_meant.proofs.PlacedLemmas.{equal_heights, is_equal}
use Rattle.th_meant.proofs.PutLemmas.{added_new, added_there, put_for_the_last, put_with_room}

-- ---- comparing
pub between_ends : (a b c d p q r : ℤ) → int_le a b ≡ true → a ≡ p → b ≡ q → c ≡ q → d ≡ r → int_le c d ≡ (int_le p q && int_le q r)
between_ends a b c d p q r e i j k l =
    let one : int_le p q ≡ true = sym (ap (λ own. int_le own b) i ∙ ap (int_le p) j) ∙ e in
    ap (λ own. int_le own d) k ∙ ap (int_le q) l ∙ sym (ap (λ own. own && int_le q r) one)

pub size_of : (a b : ℤ) (n : ℕ) → n ≡ nat_abs a → a ≡ b → n ≡ nat_abs b
size_of a b n e f = e ∙ ap nat_abs f

-- ---- putting
pub put_last : (kept shorter full new : List ℤ) (place : ℕ) (height passed : ℤ) → new ≡ insert full place passed → full ≡ shorter → shorter ≡ take (length kept - 1) kept → length kept ≡ 4 → place ≤ 3 → passed ≡ height → new ≡ take 4 (insert kept place height)
put_last kept shorter full new place height passed e f g many within same =
    e
    ∙ ap (λ own. insert own place passed) (f ∙ g ∙ ap (λ own. take (own - 1) kept) many)
    ∙ ap (insert (take 3 kept) place) same
    ∙ sym (put_for_the_last kept place height within)

pub put_more : (kept full new : List ℤ) (place : ℕ) (height passed : ℤ) → new ≡ insert full place passed → full ≡ kept → place ≤ length kept → length kept < 4 → passed ≡ height → new ≡ take 4 (insert kept place height)
put_more kept full new place height passed e f within room same =
    e ∙ ap (λ own. insert own place passed) f ∙ ap (insert kept place) same ∙ sym (put_with_room kept place height within room)

-- ---- adding
is_there : (found : Option ℤ) (height : ℤ) → option_map_or (λ own. int_eq own height) found false ≡ true → found ≡ Some height
is_there None height e = absurd (false≢true e)
is_there (Some own) height e = ap Some (equal_heights own height e)

is_not_there : (found : Option ℤ) (height : ℤ) → option_map_or (λ own. int_eq own height) found false ≡ false → found ≡ Some height → ⊥
is_not_there None height e same = cc
is_not_there (Some own) height e same =
    let is : own ≡ height = cc in
    false≢true (sym e ∙ is_equal own height is)

pub added_there_as : (proposed : Proposed) (height passed : ℤ) (kept seen also : List ℤ) (place : ℕ) (at : Bool) → passed ≡ height → seen ≡ kept → also ≡ kept → place ≡ place_of proposed passed seen → at ≡ is_at also place passed → at ≡ true → length kept ≤ 4 → kept ≡ take 4 (placed proposed height kept)
added_there_as proposed height passed kept seen also place at same one two is test there few =
    added_there proposed height kept place (is ∙ ap (λ own. place_of proposed own seen) same ∙ ap (place_of proposed height) one) few
    (is_there (slice_get kept place) height (sym (test ∙ ap (λ own. is_at own place passed) two ∙ ap (is_at kept place) same) ∙ there))

pub added_new_as : (proposed : Proposed) (height passed : ℤ) (kept seen also new : List ℤ) (place : ℕ) (at : Bool) → passed ≡ height → seen ≡ kept → also ≡ kept → place ≡ place_of proposed passed seen → at ≡ is_at also place passed → at ≡ false → new ≡ take 4 (insert kept place passed) → new ≡ take 4 (placed proposed height kept)
added_new_as proposed height passed kept seen also new place at same one two is test another put =
    added_new proposed height kept new place (is ∙ ap (λ own. place_of proposed own seen) same ∙ ap (place_of proposed height) one)
    (is_not_there (slice_get kept place) height (sym (test ∙ ap (λ own. is_at own place passed) two ∙ ap (is_at kept place) same) ∙ another))
    (put ∙ ap (λ own. take 4 (insert kept place own)) same)

-- ---- offering
pub offer_more : (sought : Sought) (kept new start heights : List ℤ) (i : ℕ) (height : ℤ) → i < length heights → height ≡ get_or heights i (pos 0) → new ≡ with_offer sought kept height → with_offers sought kept (drop i heights) ≡ with_offers sought start heights → with_offers sought new (drop (i + 1) heights) ≡ with_offers sought start heights
offer_more sought kept new start heights i height within read is before =
    ap (λ own. with_offers sought new (drop own heights)) (add-one i)
    ∙ ap (λ own. with_offers sought own (drop (suc i) heights)) is
    ∙ ap (λ own. with_offers sought (with_offer sought kept own) (drop (suc i) heights)) read
    ∙ sym (ap (with_offers sought kept) (drop-cons heights i (pos 0) within))
    ∙ before

read_append : (typed : Typed) (xs ys : List (List ℕ)) → all_read typed (xs ++ ys) ≡ all_read typed xs ++ all_read typed ys
read_append typed xs ys = flat_map-append (read_in typed) xs ys

pub change_more : (sought : Sought) (typed : Typed) (digits : List ℕ) (place : ℕ) (kept new goal : List ℤ) (i : ℕ) → i < 10 → new ≡ with_offers sought kept (all_read typed (change_to digits place (get_or all_digits i 0)))
    → with_offers sought kept (all_read typed (flat_map (change_to digits place) (drop i all_digits))) ≡ goal → with_offers sought new (all_read typed (flat_map (change_to digits place) (drop (i + 1) all_digits))) ≡ goal
change_more sought typed digits place kept new goal i within is before =
    let digit : ℕ = get_or all_digits i 0 in
    let rest : List ℤ = all_read typed (flat_map (change_to digits place) (drop (suc i) all_digits)) in
    ap (λ own. with_offers sought new (all_read typed (flat_map (change_to digits place) (drop own all_digits)))) (add-one i)
    ∙ ap (λ own. with_offers sought own rest) is
    ∙ offers-append sought kept (all_read typed (change_to digits place digit)) rest
    ∙ ap (with_offers sought kept) (sym (read_append typed (change_to digits place digit) (flat_map (change_to digits place) (drop (suc i) all_digits))))
    ∙ sym (ap (λ own. with_offers sought kept (all_read typed (flat_map (change_to digits place) own))) (drop-cons all_digits i 0 within))
    ∙ before

pub place_more : (sought : Sought) (typed : Typed) (digits seen : List ℕ) (kept new start : List ℤ) (place : ℕ) → seen ≡ digits → new ≡ with_offers sought kept (all_read typed (slips_at seen place)) → kept ≡ with_offers sought start (all_read typed (slips_below digits place)) → new ≡ with_offers sought start (all_read typed (slips_below digits (place + 1)))
place_more sought typed digits seen kept new start place same is before =
    is
    ∙ ap (λ own. with_offers sought kept (all_read typed (slips_at own place))) same
    ∙ ap (λ own. with_offers sought own (all_read typed (slips_at digits place))) before
    ∙ offers-append sought start (all_read typed (slips_below digits place)) (all_read typed (slips_at digits place))
    ∙ ap (with_offers sought start) (sym (read_append typed (slips_below digits place) (slips_at digits place)))
    ∙ sym (ap (λ own. with_offers sought start (all_read typed (slips_below digits own))) (add-one place))
