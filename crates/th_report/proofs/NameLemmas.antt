-- Zeros before some data leave its name as it is.
use Rattle.std.proofs.Common.{◌≡◌, ◌≤◌, ◌+◌, ◌-◌, ◌==◌, ℕ, zero, suc, Bool, true, false, not, List, [], ◌∷◌, ◌++◌, Option, None, Some, if◌then◌else◌, length, drop, nat_lt, replicate, refl, subst, ap, ◌∙◌, arith}
use Rattle.std.specs.List.{list_all, list_any, prefix_len}
use Rattle.std.proofs.lemmas.Bool.{ltb-false}
use Rattle.std.proofs.lemmas.List.{append-nil, drop-replicate, take-replicate}
use borrow.Rule.Slice.PartMut.{put_mid}
use Rattle.gsi_word.specs.Bytes.{is_data, is_padding, is_zero}
use Rattle.gsi_word.specs.Names.{name_of, reduced, without_trailing}
use Rattle.th_report.specs.Gsi.{padded_name}

-- a zero before some data is left out
reduced-zero : (bytes : List ℕ) → reduced (48 ∷ bytes) ≡ reduced bytes
reduced-zero bytes = ap without_trailing (ap (λ n. drop n (48 ∷ bytes)) one_more)
  where
    one_more : 1 + prefix_len is_padding bytes ≡ suc (prefix_len is_padding bytes)
    one_more = omega arith

-- the name that is answered, by what was found of the data
chosen : Bool → List ℕ → Bool → Bool → Option (List ℕ)
chosen printable name is_empty has_zero =
    if not printable then None
    else (if is_empty then (if has_zero then Some (48 ∷ []) else None)
    else (if nat_lt 16 (length name) then None else Some name))

chosen-zero : (printable : Bool) (name : List ℕ) (is_empty has_zero : Bool) (found : List ℕ) → chosen printable name is_empty has_zero ≡ Some found → chosen printable name is_empty true ≡ Some found
unfolding chosen
chosen-zero false name is_empty has_zero found is = cc is
chosen-zero true name true true found is = is
chosen-zero true name true false found is = cc is
chosen-zero true name false has_zero found is = is

zero_before : (bytes name : List ℕ) → name_of bytes ≡ Some name → name_of (48 ∷ bytes) ≡ Some name
unfolding chosen
zero_before bytes name is =
    ap (λ name. chosen (list_all is_data bytes) name (length name == 0) true) (reduced-zero bytes)
    ∙ chosen-zero (list_all is_data bytes) (reduced bytes) (length (reduced bytes) == 0) (list_any is_zero bytes) name is

-- any number of zeros
pub zeros_before : (count : ℕ) (bytes name : List ℕ) → name_of bytes ≡ Some name → name_of (replicate count 48 ++ bytes) ≡ Some name
zeros_before zero bytes name is = is
zeros_before (suc count) bytes name is = zero_before (replicate count 48 ++ bytes) name (zeros_before count bytes name is)

-- what is answered has at most sixteen bytes, and the data are printable
chosen-short : (printable : Bool) (name : List ℕ) (is_empty has_zero : Bool) (found : List ℕ) → chosen printable name is_empty has_zero ≡ Some found → length found ≤ 16
unfolding chosen
chosen-short false name is_empty has_zero found is = cc is
chosen-short true name true true found is = subst (λ found. length found ≤ 16) one (omega arith)
  where
    one : 48 ∷ [] ≡ found
    one = cc is
chosen-short true name true false found is = cc is
chosen-short true name false has_zero found is = by (nat_lt 16 (length name)) refl is
  where
    by : (long : Bool) → nat_lt 16 (length name) ≡ long → (if long then None else Some name) ≡ Some found → length found ≤ 16
    by true so is = cc is
    by false so is =
        let same : name ≡ found = cc is in
        subst (λ found. length found ≤ 16) same (ltb-false 16 (length name) so)

chosen-printable : (printable : Bool) (name : List ℕ) (is_empty has_zero : Bool) (found : List ℕ) → chosen printable name is_empty has_zero ≡ Some found → printable ≡ true
unfolding chosen
chosen-printable true name is_empty has_zero found is = refl
chosen-printable false name is_empty has_zero found is = cc is

pub name_short : (bytes name : List ℕ) → name_of bytes ≡ Some name → length name ≤ 16
unfolding chosen
name_short bytes name is = chosen-short (list_all is_data bytes) (reduced bytes) (length (reduced bytes) == 0) (list_any is_zero bytes) name is

pub name_printable : (bytes name : List ℕ) → name_of bytes ≡ Some name → list_all is_data bytes ≡ true
unfolding chosen
name_printable bytes name is = chosen-printable (list_all is_data bytes) (reduced bytes) (length (reduced bytes) == 0) (list_any is_zero bytes) name is

-- a name that is written over the end of sixteen zeros
pub put-padded : (name : List ℕ) → length name ≤ 16 → put_mid (16 - length name) (16 - (16 - length name)) (replicate 16 48) name ≡ padded_name name
put-padded name short =
    let before = 16 - length name in
    let fits : before ≤ 16 = omega arith in
    let none : 16 - before - (16 - before) ≡ 0 = omega arith in
    ap (λ front. front ++ (name ++ drop (16 - before) (drop before (replicate 16 48)))) (take-replicate before 16 48 fits)
    ∙ ap (λ rest. replicate before 48 ++ (name ++ drop (16 - before) rest)) (drop-replicate before 16 48)
    ∙ ap (λ rest. replicate before 48 ++ (name ++ rest)) (drop-replicate (16 - before) (16 - before) 48)
    ∙ ap (λ count. replicate before 48 ++ (name ++ replicate count 48)) none
    ∙ ap (λ rest. replicate before 48 ++ rest) (append-nil name)
