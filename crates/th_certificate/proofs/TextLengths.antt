-- How long the text of a certificate is at most.
use Rattle.std.proofs.Common.{◌≡◌, ◌<◌, ◌≤◌, ◌+◌, ◌*◌, ◌/◌, ◌%◌, ◌==◌, ℕ, ℤ, pos, negsuc, Bool, true, false, if◌then◌else◌, List, [], ◌∷◌, ◌++◌, length, map, decimal, codes, Some, None, not, nat_lt, unsigned_abs, suc, refl, ap, length-append, arith}
use Rattle.std.specs.Fmt.{signed_decimal}
use Rattle.std.specs.Int.{is_negative}
use Rattle.std.specs.List.{AllByRecursion, enumerate_from, list_all, list_any}
use Rattle.std.proofs.lemmas.Bool.Decides.{nat_tests}
use Rattle.std.proofs.lemmas.Fmt.{length-decimal-le_wide}
use Rattle.std.proofs.lemmas.List.Concat.{flat_map-cons}
use Rattle.csv.specs.Writing.{default_writer, escaped, field_text, fields_text, is_blank, needs_quotes, quoted}
use Rattle.gsi_word.specs.Bytes.{is_data, is_zero}
use Rattle.gsi_word.specs.Names.{name_of, reduced}
use Rattle.gsi_word.specs.Limits.{max_name}
use Rattle.th_units.specs.Metres.{last_digits, metre, metres, size_in_metres}
use Rattle.th_units.proofs.Digits.{length-last_digits}
use Rattle.th_csv.specs.Records.{Fields}
use Rattle.th_csv.specs.Texts.{csv_text, row_text}
use Rattle.th_certificate.specs.Certified.{cost_limit, rows_at}
use Rattle.th_network.specs.Limits.{height_limit}
use Rattle.th_certificate.specs.Limits.{max_cost_digits, max_digits, max_flows}
use Rattle.th_certificate.specs.Texts.{cost_row, flow_row, header_row, height_row, version_row}
use Rattle.th_certificate.proofs.ReadRows.{IsReadable}
use Rattle.th_tables.specs.Limits.{max_weight}

-- a quote is doubled, and no other byte
length-escaped : (field : List ℕ) → length (escaped default_writer field) ≤ 2 * length field
unfolding escaped
length-escaped [] = omega arith
length-escaped (byte ∷ rest) = by (byte == 34) (length-escaped rest)
  where
    by : (quote : Bool) → length (escaped default_writer rest) ≤ 2 * length rest
        → length (if quote then 34 ∷ byte ∷ escaped default_writer rest else byte ∷ escaped default_writer rest) ≤ 2 * length (byte ∷ rest)
    by true h = omega arith
    by false h = omega arith

length-field_text : (field : List ℕ) → length (field_text default_writer field) ≤ 2 * length field + 2
length-field_text field = by (needs_quotes default_writer field)
  where
    by : (needs : Bool) → length (if needs then quoted default_writer field else field) ≤ 2 * length field + 2
    by true = omega (arith, length-append (escaped default_writer field) (34 ∷ []), length-escaped field)
    by false = omega arith

-- a row of three fields of at most forty bytes in all
pub record IsShortRow (row : Fields) : Type 0 where
  pub length_of : length (row_text row) ≤ 89

pub short_row : (a b c : List ℕ) → length a + length b + length c ≤ 40 → IsShortRow (a ∷ b ∷ c ∷ [])
unfolding fields_text is_blank
short_row a b c few =
    let fa = field_text default_writer a in
    let fb = field_text default_writer b in
    let fc = field_text default_writer c in
    let end : length (fc ++ []) ≡ length fc + 0 = length-append fc [] in
    let more : length (fb ++ 44 ∷ (fc ++ [])) ≡ length fb + length (44 ∷ (fc ++ [])) = length-append fb (44 ∷ (fc ++ [])) in
    let all : length (fa ++ 44 ∷ (fb ++ 44 ∷ (fc ++ []))) ≡ length fa + length (44 ∷ (fb ++ 44 ∷ (fc ++ []))) = length-append fa (44 ∷ (fb ++ 44 ∷ (fc ++ []))) in
    let line : length ((fa ++ 44 ∷ (fb ++ 44 ∷ (fc ++ []))) ++ (10 ∷ [])) ≡ length (fa ++ 44 ∷ (fb ++ 44 ∷ (fc ++ []))) + 1 = length-append (fa ++ 44 ∷ (fb ++ 44 ∷ (fc ++ []))) (10 ∷ []) in
    record { length_of = omega (arith, line, all, more, end, length-field_text a, length-field_text b, length-field_text c) }

-- the text of short rows
pub length-csv_text : (rows : List Fields) → AllByRecursion IsShortRow rows → length (csv_text rows) ≤ length rows * 89
length-csv_text [] each = omega arith
length-csv_text (row ∷ rows) each =
    omega (arith, ap length (flat_map-cons row_text row rows), length-append (row_text row) (csv_text rows), each.0.length_of, length-csv_text rows each.1)

-- a name has at most sixteen bytes
length-name : (name : List ℕ) → name_of name ≡ Some name → length name ≤ 16
length-name name h = by (list_all is_data name) (length (reduced name) == 0) (list_any is_zero name) (nat_lt max_name (length (reduced name))) refl h
  where
    by : (printable empty zero long : Bool) → nat_lt max_name (length (reduced name)) ≡ long
        → (if not printable then None else (if empty then (if zero then Some (48 ∷ []) else None) else (if long then None else Some (reduced name)))) ≡ Some name → length name ≤ 16
    by false empty zero long is h = cc h
    by true true true long is h = let same : 48 ∷ [] ≡ name = cc in omega (arith, ap length same)
    by true true false long is h = cc h
    by true false zero true is h = cc h
    by true false zero false is h =
        let same : reduced name ≡ name = cc in
        let short : length (reduced name) ≤ 16 = grind (arith, nat_tests) in
        omega (arith, ap length same)

-- a height in metres has at most nineteen bytes
length-size : (size : ℕ) → size < height_limit → length (size_in_metres size) ≤ 18
length-size size small =
    omega (
      arith,
      length-append (decimal (size / metre)) (46 ∷ last_digits 8 (size % metre)),
      length-last_digits 8 (size % metre),
      length-decimal-le_wide 9 (size / metre) (omega arith) (omega arith) (omega arith),
    )

length-metres : (height : ℤ) → unsigned_abs height < height_limit → length (metres height) ≤ 19
length-metres height small = by (is_negative height)
  where
    by : (negative : Bool) → length (if negative then 45 ∷ size_in_metres (unsigned_abs height) else size_in_metres (unsigned_abs height)) ≤ 19
    by true = omega (arith, length-size (unsigned_abs height) small)
    by false = omega (arith, length-size (unsigned_abs height) small)

pub short_heights : (letter : List ℕ) (names : List (List ℕ)) (heights : List ℕ → ℤ) → length letter ≤ 1 → AllByRecursion (IsReadable heights) names → AllByRecursion IsShortRow (map (height_row letter) (rows_at names heights))
short_heights letter [] heights one each = tt
short_heights letter (name ∷ names) heights one each = (
  short_row letter name (metres (heights name)) (omega (arith, length-name name each.0.0, length-metres (heights name) each.0.1)),
  short_heights letter names heights one each.1,
)

-- a flow has at most its digits and a sign
length-flow : (flow : ℤ) → unsigned_abs flow ≤ max_weight → length (signed_decimal flow) ≤ max_digits + 1
length-flow (pos size) small = omega (arith, length-decimal-le_wide max_digits size (omega arith) (omega arith) (omega arith))
length-flow (negsuc size) small = omega (arith, length-decimal-le_wide max_digits (suc size) (omega arith) (omega arith) (omega arith))

pub short_flows : (first : ℕ) (flows : List ℤ) → first + length flows ≤ max_flows + 1 → AllByRecursion (λ flow. unsigned_abs flow ≤ max_weight) flows → AllByRecursion IsShortRow (map flow_row (enumerate_from first flows))
short_flows first [] few each = tt
short_flows first (flow ∷ flows) few each = (
  short_row (codes "F") (decimal first) (signed_decimal flow) (omega (arith, length-decimal-le_wide max_digits first (omega arith) (omega arith) (omega arith), length-flow flow each.0)),
  short_flows (first + 1) flows (omega arith) each.1,
)

pub short_version : (version : List ℕ) (count : ℕ) → length version ≤ 1 → count ≤ max_flows → IsShortRow (version_row version count)
short_version version count one few = short_row (codes "V") version (decimal count) (omega (arith, length-decimal-le_wide max_digits count (omega arith) (omega arith) (omega arith)))

pub short_cost : (cost : ℕ) → cost < cost_limit → IsShortRow (cost_row cost)
short_cost cost small = short_row (codes "Z") (codes "cost") (decimal cost) (omega (arith, length-decimal-le_wide max_cost_digits cost (omega arith) (omega arith) (omega arith)))

pub short_header : IsShortRow header_row
short_header = short_row (codes "kind") (codes "key") (codes "value") (omega arith)
