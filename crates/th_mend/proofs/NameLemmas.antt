-- Zeros before a name leave it as it is.
use Rattle.std.proofs.Common.{◌≡◌, ◌+◌, ◌-◌, ◌==◌, ℕ, zero, suc, Bool, true, false, not, cond, List, [], ◌∷◌, ◌++◌, Option, None, Some, Result, Ok, Err, if◌then◌else◌, length, drop, nat_lt, replicate, refl, subst, ap, ◌∙◌, arith}
use Rattle.std.specs.List.{list_all, list_any, prefix_len}
use Rattle.gsi_word.specs.Bytes.{is_data, is_padding, is_zero}
use Rattle.gsi_word.specs.Names.{name_of, reduced, without_trailing}
use Rattle.gsi_word.specs.Words.{Parts, parts, result_map}
use Rattle.th_mend.specs.NewWords.{name_data, with_name}
use Rattle.th_mend.specs.declared.misfits.Misfit.{Misfit}
use Rattle.th_mend.specs.declared.misfits.Misfit.TheVariants.{LongName}

-- a zero before some data is left out
reduced-zero : (bytes : List ℕ) → reduced (48 ∷ bytes) ≡ reduced bytes
reduced-zero bytes = ap without_trailing (ap (λ n. drop n (48 ∷ bytes)) one_more)
  where
    one_more : 1 + prefix_len is_padding bytes ≡ suc (prefix_len is_padding bytes)
    one_more = omega arith

-- the name that is answered, by what was found of the data
chosen : Bool → List ℕ → Bool → Bool → Option (List ℕ)
chosen printable name is_empty has_zero =
    if not printable then None
    else (if is_empty then (if has_zero then Some (48 ∷ []) else None)
    else (if nat_lt 16 (length name) then None else Some name))

chosen-zero : (printable : Bool) (name : List ℕ) (is_empty has_zero : Bool) (found : List ℕ) → chosen printable name is_empty has_zero ≡ Some found → chosen printable name is_empty true ≡ Some found
unfolding chosen
chosen-zero false name is_empty has_zero found is = cc is
chosen-zero true name true true found is = is
chosen-zero true name true false found is = cc is
chosen-zero true name false has_zero found is = is

zero_before : (bytes name : List ℕ) → name_of bytes ≡ Some name → name_of (48 ∷ bytes) ≡ Some name
unfolding chosen
zero_before bytes name is =
    ap (λ name. chosen (list_all is_data bytes) name (length name == 0) true) (reduced-zero bytes)
    ∙ chosen-zero (list_all is_data bytes) (reduced bytes) (length (reduced bytes) == 0) (list_any is_zero bytes) name is

zeros_before : (count : ℕ) (bytes name : List ℕ) → name_of bytes ≡ Some name → name_of (replicate count 48 ++ bytes) ≡ Some name
zeros_before zero bytes name is = is
zeros_before (suc count) bytes name is = zero_before (replicate count 48 ++ bytes) name (zeros_before count bytes name is)

-- the data of a name have it
data_named : (bytes : ℕ) (name body : List ℕ) → name_of name ≡ Some name → name_data bytes name ≡ Ok body → name_of body ≡ Some name
data_named bytes name body is h = by (nat_lt bytes (length name)) h
  where
    by : (long : Bool) → ◌≡◌ {A = Result (List ℕ) Misfit} (cond long (Err LongName) (Ok (replicate (bytes - length name) 48 ++ name))) (Ok body) → name_of body ≡ Some name
    by true h = absurd (cc h)
    by false h =
        let same : replicate (bytes - length name) 48 ++ name ≡ body = cc h in
        subst (λ found. name_of found ≡ Some name) same (zeros_before (bytes - length name) name name is)

-- so has a word with another name
pub with_name_named : (name : List ℕ) (word own : Parts) → name_of name ≡ Some name → with_name name word ≡ Ok own → name_of own.body ≡ Some name
with_name_named name word own is h = made (name_data (length word.body) name) (λ body. data_named (length word.body) name body is) h
  where
    made : (found : Result (List ℕ) Misfit) → ((body : List ℕ) → found ≡ Ok body → name_of body ≡ Some name) → result_map (parts word.index word.info word.negative) found ≡ Ok own → name_of own.body ≡ Some name
    made (Err fault) named h = absurd (cc h)
    made (Ok body) named h =
        let same : parts word.index word.info word.negative body ≡ own = cc h in
        subst (λ it. name_of it.body ≡ Some name) same (named body refl)
