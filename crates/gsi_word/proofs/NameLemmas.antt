-- A name's bytes are in reduced form: reducing them again leaves them as they are.
use Rattle.std.proofs.Common.{zero, suc, ◌≡◌, ℕ, ◌-◌, ◌<◌, ◌≤◌, Bool, true, false, not, nat_lt, ◌&&◌, ◌==◌, if◌then◌else◌, List, [], ◌∷◌, ◌++◌, length, get_or, take, drop, reverse, replicate, Some, None, refl, sym, ap, subst, ◌∙◌, arith}
use Rattle.std.specs.List.{list_all, list_any, prefix_len, suffix_len}
use Rattle.std.specs.Str.{IsAscii, IsUtf8}
use Rattle.std.proofs.lemmas.Bool.Decides.{nat_tests}
use Rattle.std.proofs.lemmas.List.{take_all, take-append-drop, drop-replicate, length-reverse, get_or-reverse}
use Rattle.std.proofs.lemmas.Str.{IsUtf8-from_ascii}
use Rattle.std.proofs.Math.Seq.{take-append_seam}
use Rattle.std.proofs.lemmas.List.Folds.{list_all-append, prefix_len-append}
use Rattle.std.proofs.lemmas.List.Sums.{prefix_len_stops, prefix_len-drop_no, prefix_len-drop_all, suffix_len-take_no}
use Rattle.gsi_word.specs.Bytes.{is_data, is_padding, is_space, is_zero}
use Rattle.gsi_word.specs.Names.{name_of, reduced, without_leading, without_trailing}
use Rattle.gsi_word.specs.Limits.{max_name}
use Rattle.gsi_word.specs.Inside.PaddedNames.{IsPaddedName}
use Rattle.gsi_word.specs.declared.limits.TheConstants.{MAX_NAME}

-- a test that each element of a list passes is passed by each of its front and of its rest
pub list_all-parts : (p : ℕ → Bool) (k : ℕ) (xs : List ℕ) → list_all p xs ≡ true → (list_all p (take k xs) ≡ true) × (list_all p (drop k xs) ≡ true)
list_all-parts p k xs passed = both _ _ (sym (list_all-append p (take k xs) (drop k xs)) ∙ ap (list_all p) (take-append-drop k xs) ∙ passed)
  where
    both : (a b : Bool) → (a && b) ≡ true → (a ≡ true) × (b ≡ true)
    both a b e = grind arith

-- after the run at the front that passes, none passes at the front
pub prefix_len-left : (p : ℕ → Bool) (xs : List ℕ) → prefix_len p (drop (prefix_len p xs) xs) ≡ 0
prefix_len-left p xs =
    elim (nat_lt (prefix_len p xs) (length xs)) as (λ b. nat_lt (prefix_len p xs) (length xs) ≡ b → prefix_len p (drop (prefix_len p xs) xs) ≡ 0) [
      | true ↦ λ e.
          let within : prefix_len p xs < length xs = grind (arith, nat_tests) in
          prefix_len-drop_no p xs (prefix_len p xs) 0 within (prefix_len_stops p xs 0 within)
      | false ↦ λ e.
          let past : length xs ≤ prefix_len p xs = grind (arith, nat_tests) in
          prefix_len-drop_all p xs (prefix_len p xs) past
    ] refl

-- where none passes at the front of a list, none does at the front of a part of it
pub prefix_len-front : (p : ℕ → Bool) (k : ℕ) (xs : List ℕ) → prefix_len p xs ≡ 0 → prefix_len p (take k xs) ≡ 0
prefix_len-front p k xs none =
    let parts = prefix_len-append p (take k xs) (drop k xs) in
    let whole = ap (prefix_len p) (take-append-drop k xs) in
    grind (arith, nat_tests)

-- before the run at the end that passes, none passes at the end
pub suffix_len-left : (p : ℕ → Bool) (xs : List ℕ) → suffix_len p (take (length xs - suffix_len p xs) xs) ≡ 0
suffix_len-left p xs = by_length (length xs - suffix_len p xs) refl
  where
    by_length : (n : ℕ) → n ≡ length xs - suffix_len p xs → suffix_len p (take n xs) ≡ 0
    by_length zero e = refl
    by_length (suc n) e =
        let within : prefix_len p (reverse xs) < length (reverse xs) = omega (arith, length-reverse xs, e) in
        let last : get_or (reverse xs) (prefix_len p (reverse xs)) 0 ≡ get_or xs (length xs - 1 - suffix_len p xs) 0 = get_or-reverse xs (prefix_len p (reverse xs)) 0 (omega (arith, length-reverse xs)) in
        let place : length xs - 1 - suffix_len p xs ≡ suc n - 1 = omega arith in
        suffix_len-take_no p xs (suc n) 0 (omega arith) (omega arith) (ap (λ i. p (get_or xs i 0)) (sym place) ∙ ap p (sym last) ∙ prefix_len_stops p (reverse xs) 0 within)

-- bytes that begin with no zero or space stay as they are
without_leading-none : (bytes : List ℕ) → prefix_len is_padding bytes ≡ 0 → without_leading bytes ≡ bytes
without_leading-none bytes none = ap (λ k. drop k bytes) none

-- bytes that end with no space stay as they are
without_trailing-none : (bytes : List ℕ) → suffix_len is_space bytes ≡ 0 → without_trailing bytes ≡ bytes
without_trailing-none bytes none = ap (λ k. take (length bytes - k) bytes) none ∙ take_all (length bytes - 0) bytes (omega arith)

-- what is reduced stays as it is when it is reduced again
pub reduced-reduced : (bytes : List ℕ) → reduced (reduced bytes) ≡ reduced bytes
reduced-reduced bytes =
    let front : prefix_len is_padding (reduced bytes) ≡ 0 = prefix_len-front is_padding _ (without_leading bytes) (prefix_len-left is_padding bytes) in
    let end : suffix_len is_space (reduced bytes) ≡ 0 = suffix_len-left is_space (without_leading bytes) in
    ap without_trailing (without_leading-none (reduced bytes) front) ∙ without_trailing-none (reduced bytes) end

-- the reduced form of printable bytes is its own name, where it is neither empty nor too long
pub name_of-reduced : (bytes : List ℕ) → list_all is_data bytes ≡ true → 0 < length (reduced bytes) → length (reduced bytes) ≤ max_name → name_of (reduced bytes) ≡ Some (reduced bytes)
name_of-reduced bytes printable some fits =
    let front : list_all is_data (without_leading bytes) ≡ true = (list_all-parts is_data _ bytes printable).1 in
    let still : list_all is_data (reduced bytes) ≡ true = (list_all-parts is_data _ (without_leading bytes) front).0 in
    let some_test : (length (reduced bytes) == 0) ≡ false = grind (arith, nat_tests) in
    let fits_test : nat_lt max_name (length (reduced bytes)) ≡ false = grind (arith, nat_tests) in
    rw (reduced-reduced bytes, still, some_test, fits_test) refl

-- what each name of some data is: its own name, of one byte at least, and of sixteen at most
record IsName (name : List ℕ) : Type 0 where
  own : name_of name ≡ Some name
  some : 0 < length name
  within : length name ≤ max_name

IsName-name_of : (bytes name : List ℕ) → name_of bytes ≡ Some name → IsName name
IsName-name_of bytes name is_name =
    by_tests (list_all is_data bytes) (length (reduced bytes) == 0) (list_any is_zero bytes) (nat_lt max_name (length (reduced bytes))) refl refl refl is_name
  where
    by_tests : (printable empty zero_there long : Bool) → list_all is_data bytes ≡ printable → (length (reduced bytes) == 0) ≡ empty → nat_lt max_name (length (reduced bytes)) ≡ long →
        (if not printable then None else (if empty then (if zero_there then Some (48 ∷ []) else None) else (if long then None else Some (reduced bytes)))) ≡ Some name → IsName name
    by_tests false empty zero_there long p e l h = absurd (cc)
    by_tests true true true long p e l h =
        let is_zero : 48 ∷ [] ≡ name = cc in
        subst IsName is_zero (record { own = refl; some = omega arith; within = omega arith })
    by_tests true true false long p e l h = absurd (cc)
    by_tests true false zero_there true p e l h = absurd (cc)
    by_tests true false zero_there false p e l h =
        let is_reduced : reduced bytes ≡ name = cc in
        let some : 0 < length (reduced bytes) = grind (arith, nat_tests) in
        let fits : length (reduced bytes) ≤ max_name = grind (arith, nat_tests) in
        subst IsName is_reduced (record { own = name_of-reduced bytes p some fits; some = some; within = fits })

-- a name's name is itself
pub name_of-name : (bytes name : List ℕ) → name_of bytes ≡ Some name → name_of name ≡ Some name
name_of-name bytes name is_name = (IsName-name_of bytes name is_name).own

-- a name has one byte at least, and sixteen at most
pub length-name : (bytes name : List ℕ) → name_of bytes ≡ Some name → (0 < length name) × (length name ≤ max_name)
length-name bytes name is_name =
    let facts : IsName name = IsName-name_of bytes name is_name in
    (facts.some, facts.within)

-- a name that is its own name, with zero bytes after it
pub IsPaddedName-of : (name : List ℕ) → name_of name ≡ Some name → IsPaddedName (name ++ drop (length name) (replicate MAX_NAME 0)) (length name)
IsPaddedName-of name is_name =
    let rest : List ℕ = drop (length name) (replicate MAX_NAME 0) in
    let front : take (length name) (name ++ rest) ≡ name = take-append_seam name rest in
    record {
      within = (length-name name name is_name).1;
      length = ap length front;
      padded = rw front (ap (λ zeros. name ++ zeros) (drop-replicate (length name) MAX_NAME 0));
      reduced = rw front is_name;
    }

-- printable bytes are ASCII
IsAscii-printable : (bytes : List ℕ) → list_all is_data bytes ≡ true → IsAscii bytes
IsAscii-printable [] printable i = omega arith
IsAscii-printable (b ∷ bytes) printable zero = grind (arith, nat_tests)
IsAscii-printable (b ∷ bytes) printable (suc i) = IsAscii-printable bytes (grind arith) i

-- bytes that have a name are printable, and so a text
pub IsUtf8-name : (bytes name : List ℕ) → name_of bytes ≡ Some name → IsUtf8 bytes
IsUtf8-name bytes name is_name = IsUtf8-from_ascii bytes (IsAscii-printable bytes (by_test (list_all is_data bytes) refl))
  where
    by_test : (printable : Bool) → list_all is_data bytes ≡ printable → list_all is_data bytes ≡ true
    by_test true e = e
    by_test false e = absurd (cc)
