-- The data of lengths and names may stand in a word, and words with them have a spelling.
use Rattle.std.proofs.Common.{◌≡◌, ◌<◌, ◌≤◌, ◌+◌, ◌-◌, ◌/◌, ◌%◌, ◌==◌, ◌&&◌, ◌||◌, ℕ, Bool, zero, suc, true, false, cond, List, [], ◌∷◌, ◌++◌, Some, Result, Ok, Err, length, replicate, refl, ap, subst, ◌∙◌, arith, length-append}
use Rattle.std.specs.Prelude.{nat_lt}
use Rattle.std.specs.List.{list_all}
use Rattle.std.proofs.lemmas.Bool.Decides.{nat_tests}
use Rattle.std.proofs.lemmas.List.Folds.{list_all-append}
use Rattle.th_units.specs.Metres.{last_digits}
use Rattle.gsi_word.specs.Bytes.{is_data, is_info}
use Rattle.gsi_word.specs.Names.{name_of}
use Rattle.gsi_word.specs.Words.{HasSpelling, data_len, parts}
use Rattle.gsi_word.specs.declared.words.Width.{Width}
use Rattle.gsi_word.specs.declared.words.Width.TheVariants.{Eight, Sixteen}
use Rattle.gsi_word.proofs.WrittenWords.{HasSpelling-parts}
use Rattle.th_columns.proofs.DigitLemmas.{digit_is_data, last_digits-all}
use Rattle.th_mend.specs.NewWords.{name_data}
use Rattle.th_mend.specs.Inside.Bodies.{IsBody}
use Rattle.th_mend.specs.declared.misfits.Misfit.{Misfit}
use Rattle.th_mend.specs.declared.misfits.Misfit.TheVariants.{LongName}

-- so many bytes are those of a width
long_in : (width : Width) (len : ℕ) → len ≡ data_len width → ((len == 8) || (len == 16)) ≡ true
long_in Eight len is = ap (λ own. (own == 8) || (own == 16)) is
long_in Sixteen len is = ap (λ own. (own == 8) || (own == 16)) is

pub length-digits : (count n : ℕ) → length (last_digits count n) ≡ count
unfolding last_digits
length-digits zero n = refl
length-digits (suc count) n = omega (arith, length-append (last_digits count (n / 10)) ((48 + n % 10) ∷ []), length-digits count (n / 10))

pub digits_body : (width : Width) (n : ℕ) → IsBody (last_digits (data_len width) n)
digits_body width n = record {
  long = long_in width (length (last_digits (data_len width) n)) (length-digits (data_len width) n);
  printable = last_digits-all is_data digit_is_data (data_len width) n;
}

-- the bytes of a name are data
printable : (name : List ℕ) → name_of name ≡ Some name → list_all is_data name ≡ true
printable name is = by (list_all is_data name) refl
  where
    by : (all : Bool) → list_all is_data name ≡ all → all ≡ true
    by true e = refl
    by false e = let none = rw e at is in absurd (cc none)

zeros-length : (count : ℕ) → length {A = ℕ} (replicate count 48) ≡ count
zeros-length zero = refl
zeros-length (suc count) = omega (arith, zeros-length count)

zeros-data : (count : ℕ) → list_all is_data (replicate count 48) ≡ true
zeros-data zero = refl
zeros-data (suc count) = zeros-data count

-- the data of a name
pub name_body : (width : Width) (name body : List ℕ) → name_of name ≡ Some name → name_data (data_len width) name ≡ Ok body → IsBody body
name_body width name body is h = by (nat_lt (data_len width) (length name)) refl h
  where
    zeros : List ℕ
    zeros = replicate (data_len width - length name) 48

    by : (long : Bool) → nat_lt (data_len width) (length name) ≡ long → ◌≡◌ {A = Result (List ℕ) Misfit} (cond long (Err LongName) (Ok (zeros ++ name))) (Ok body) → IsBody body
    by true e h = absurd (cc h)
    by false e h =
        let same : zeros ++ name ≡ body = cc h in
        let short : length name ≤ data_len width = grind (arith, nat_tests) in
        let all : list_all is_data (zeros ++ name) ≡ true = list_all-append is_data zeros name ∙ ap (λ front. front && list_all is_data name) (zeros-data (data_len width - length name)) ∙ printable name is in
        let long : length (zeros ++ name) ≡ data_len width = omega (arith, length-append zeros name, zeros-length (data_len width - length name), short) in
        subst IsBody same (record { long = long_in width (length (zeros ++ name)) long; printable = all })

-- a word whose parts are allowed has a spelling
pub spelled_with : (index : ℕ) (info : List ℕ) (negative : Bool) (body : List ℕ) → index < 100 → length info ≡ 4 → list_all is_info info ≡ true → IsBody body → HasSpelling (parts index info negative body)
spelled_with index info negative body small four allowed is = HasSpelling-parts (parts index info negative body) small four allowed is.long is.printable
