-- The slips of some digits, listed.
use Rattle.std.specs.Prelude.{ℕ, zero, suc, ℤ, ◌+◌, ◌==◌, ◌&&◌, ◌++◌, not, Bool, List, [], ◌∷◌, if◌then◌else◌, flat_map, length, nat_lt, option_to_list, slice_index, slice_set}
use Rattle.std.specs.Int.{is_negative}
use Rattle.std.specs.Result.{result_ok}
use Rattle.th_units.specs.Lengths.{length_of}
use Rattle.th_meant.specs.Slips.{digits_of}
use Rattle.th_meant.specs.declared.typed.Typed.{Typed}

-- the digits, in ASCII
abbrev pub all_digits : List ℕ
all_digits = 48 ∷ 49 ∷ 50 ∷ 51 ∷ 52 ∷ 53 ∷ 54 ∷ 55 ∷ 56 ∷ 57 ∷ []

-- the slip that puts another digit into a place
abbrev pub change_to : List ℕ → ℕ → ℕ → List (List ℕ)
change_to digits place digit = if digit == slice_index digits place then [] else slice_set digits place digit ∷ []

-- the slips that change the digit at a place
abbrev pub changes_at : List ℕ → ℕ → List (List ℕ)
changes_at digits place = flat_map (change_to digits place) all_digits

-- digits with those at a place and behind it exchanged
abbrev pub exchanged_at : List ℕ → ℕ → List ℕ
exchanged_at digits place =
    slice_set (slice_set digits place (slice_index digits (place + 1))) (place + 1) (slice_index digits place)

-- the digit at a place has another one behind it
abbrev pub differs_behind : List ℕ → ℕ → Bool
differs_behind digits place =
    nat_lt (place + 1) (length digits) && not (slice_index digits (place + 1) == slice_index digits place)

-- the slip that exchanges the digit at a place with the one behind it
abbrev pub exchanges_at : List ℕ → ℕ → List (List ℕ)
exchanges_at digits place = if differs_behind digits place then exchanged_at digits place ∷ [] else []

-- the slips at a place, and at all places below a bound
abbrev pub slips_at : List ℕ → ℕ → List (List ℕ)
slips_at digits place = changes_at digits place ++ exchanges_at digits place

abbrev pub slips_below : List ℕ → ℕ → List (List ℕ)
slips_below digits zero = []
slips_below digits (suc bound) = slips_below digits bound ++ slips_at digits bound

-- the length that some digits write for a height, if it is one of a book
abbrev pub read_in : Typed → List ℕ → List ℤ
read_in typed digits = option_to_list (result_ok (length_of (is_negative typed.given) digits typed.unit))

-- the lengths that some slips write, and all slips of a height
abbrev pub all_read : Typed → List (List ℕ) → List ℤ
all_read typed slips = flat_map (read_in typed) slips

abbrev pub slips_of : Typed → List ℤ
slips_of typed = all_read typed (slips_below (digits_of typed) (length (digits_of typed)))
