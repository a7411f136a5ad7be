use Rattle.std.specs.Prelude.{ℕ, ◌-◌, ◌==◌, ◌&&◌, not, Bool, List, [], ◌∷◌, length, Option, Some, None, if◌then◌else◌, bytes_eq, nat_lt, take, drop}
use Rattle.std.specs.List.{list_all, list_any, prefix_len, suffix_len}
use Rattle.gsi_word.specs.Limits.{max_name}
use Rattle.gsi_word.specs.Bytes.{is_data, is_padding, is_space, is_zero}

-- bytes without their leading run of zeros and spaces, in any order
abbrev pub without_leading : List ℕ → List ℕ
without_leading bytes = drop (prefix_len is_padding bytes) bytes

-- bytes without their trailing spaces; zeros at the end stay
abbrev pub without_trailing : List ℕ → List ℕ
without_trailing bytes = take (length bytes - suffix_len is_space bytes) bytes

-- the reduced form of some data, before any check whether it is empty or too long
abbrev pub reduced : List ℕ → List ℕ
reduced bytes = without_trailing (without_leading bytes)

-- The name that some data write: their reduced form, or `0` if they are only zeros and spaces with at least one zero. There is no name if
-- the data are empty or only spaces, if a byte is not printable, or if more than sixteen bytes are left after reduction.
abbrev pub name_of : List ℕ → Option (List ℕ)
name_of bytes =
    let name = reduced bytes in
    if not (list_all is_data bytes) then None
    else (if length name == 0 then (if list_any is_zero bytes then Some (48 ∷ []) else None)
    else (if nat_lt max_name (length name) then None
    else Some name))

-- whether two names have the same bytes, so `a` and `A` differ: what `==` on names computes, and what a map keyed by names compares by
abbrev pub same_name : List ℕ → List ℕ → Bool
same_name = bytes_eq

-- whether two pairs of names, such as a station and a target, are the same in this order
abbrev pub same_pair : List ℕ × List ℕ → List ℕ × List ℕ → Bool
same_pair pair other = bytes_eq pair.0 other.0 && bytes_eq pair.1 other.1
