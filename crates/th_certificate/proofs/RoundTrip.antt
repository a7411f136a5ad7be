-- The text of a certificate is read as what it says.
use Rattle.std.proofs.Common.{◌≡◌, ◌<◌, ◌≤◌, ◌+◌, ◌-◌, ◌*◌, ℕ, ℤ, false, if◌then◌else◌, List, [], ◌∷◌, ◌++◌, length, map, codes, decimal, Some, None, Ok, Err, nat_lt, unsigned_abs, refl, ap, ◌∙◌, length-append, arith}
use Rattle.std.specs.List.{AllByRecursion, enumerate_from}
use Rattle.std.proofs.lemmas.Bool.Decides.{nat_tests}
use Rattle.std.proofs.lemmas.List.{length-map}
use Rattle.std.proofs.lemmas.List.Elements.{All-from_recursion, recursion_from_All}
use Rattle.std.proofs.lemmas.List.FromFn.{length-enumerate_from}
use Rattle.gsi_word.specs.Names.{name_of}
use Rattle.th_csv.specs.Records.{Fields, records_of}
use Rattle.th_csv.specs.Texts.{HasField, IsUnmarked, csv_text}
use Rattle.th_csv.proofs.RoundTripLemmas.{records_of_csv_text, unmarked_text}
use Rattle.th_network.specs.Networks.{AreInRange, AreOfObservations, Survey, points_of}
use Rattle.th_certificate.specs.Certified.{HeightRows}
use Rattle.th_network.specs.Limits.{height_limit, max_observations, max_points}
use Rattle.th_certificate.specs.Faults.{too_long}
use Rattle.th_certificate.specs.Numbers.{count_in}
use Rattle.th_certificate.specs.Reading.{after, certificate_after, certificate_in, certificate_of}
use Rattle.th_certificate.specs.Limits.{max_certificate, max_flows}
use Rattle.th_certificate.specs.Statements.{begun, counted, empty_draft}
use Rattle.th_certificate.specs.Texts.{IsCertifiable, cost_of, cost_row, end_rows, flow_row, header_row, height_row, heights_at_points, rows_of_version_1, rows_of_version_2, text_of_version_1, text_of_version_2, version_row}
use Rattle.th_certificate.specs.declared.statements.Statement.TheVariants.{Height, Low, High}
use Rattle.th_certificate.proofs.ReadNumbers.{cost_in-decimal, count_in-decimal}
use Rattle.th_certificate.proofs.ReadRows.{IsReadable, cost_read, flowing, flows_read, heights_read}
use Rattle.th_points.proofs.PlaceLemmas.{points_distinct}
use Rattle.th_certificate.proofs.SurveyLemmas.{cost_of_small}
use Rattle.th_certificate.proofs.TextLengths.{IsShortRow, length-csv_text, short_cost, short_flows, short_header, short_heights, short_version}
use Rattle.th_tables.specs.Limits.{max_weight}

-- the most rows of a certificate: three heights for each point, a flow for each observation, the header, the version and the cost
abbrev most_rows : ℕ
most_rows = 3 * max_points + max_observations + 3

-- rows that are few and short are read as the records that they are
read_text : (rows : List Fields) → AllByRecursion IsShortRow rows → AllByRecursion HasField rows → IsUnmarked (csv_text rows) → length rows ≤ most_rows → certificate_of (csv_text rows) ≡ certificate_in rows
read_text rows short fields unmarked few =
    let bound = length-csv_text rows short in
    let within : nat_lt max_certificate (length (csv_text rows)) ≡ false = grind (arith, nat_tests) in
    ap (λ long. if long then Err too_long else certificate_in (records_of (csv_text rows))) within ∙ ap certificate_in (records_of_csv_text rows (All-from_recursion HasField rows fields) unmarked)

-- two facts of each element
both_of_each : (P Q : List ℕ → Type 0) (names : List (List ℕ)) → AllByRecursion P names → AllByRecursion Q names → AllByRecursion (λ name. P name × Q name) names
both_of_each P Q [] a b = tt
both_of_each P Q (name ∷ names) a b = ((a.0, b.0), both_of_each P Q names a.1 b.1)

-- parts of rows that are short, and have fields
joined : (P : Fields → Type 0) (rows more : List Fields) → AllByRecursion P rows → AllByRecursion P more → AllByRecursion P (rows ++ more)
joined P [] more a b = b
joined P (row ∷ rows) more a b = (a.0, joined P rows more a.1 b)

heights_have_fields : (letter : List ℕ) (rows : HeightRows) → AllByRecursion HasField (map (height_row letter) rows)
heights_have_fields letter [] = tt
heights_have_fields letter (row ∷ rows) = (omega arith, heights_have_fields letter rows)

flows_have_fields : (flows : List (ℕ × ℤ)) → AllByRecursion HasField (map flow_row flows)
flows_have_fields [] = tt
flows_have_fields (flow ∷ flows) = (omega arith, flows_have_fields flows)

-- what is known of a survey, its maps and its flows
readable : (survey : Survey) (heights : List ℕ → ℤ) → IsCertifiable survey → AreInRange survey heights → AllByRecursion (IsReadable heights) (points_of survey)
readable survey heights certifiable in_range =
    both_of_each (λ name. name_of name ≡ Some name) (λ name. unsigned_abs (heights name) < height_limit) (points_of survey)
    (recursion_from_All (λ name. name_of name ≡ Some name) (points_of survey) certifiable.names)
    (recursion_from_All (λ name. unsigned_abs (heights name) < height_limit) (points_of survey) in_range)

-- the rows of flows and of the cost
end_short : (survey : Survey) (heights : List ℕ → ℤ) (flows : List ℤ) → IsCertifiable survey → AreInRange survey heights → AreOfObservations survey flows → AllByRecursion IsShortRow (end_rows flows (cost_of survey heights))
end_short survey heights flows certifiable in_range are =
    let few : length survey.observations ≤ max_observations = omega (arith, certifiable.network.few_observations) in
    joined IsShortRow (map flow_row (enumerate_from 1 flows)) (cost_row (cost_of survey heights) ∷ [])
    (short_flows 1 flows (omega (arith, are.each)) (recursion_from_All (λ flow. unsigned_abs flow ≤ max_weight) flows are.in_range))
    (short_cost (cost_of survey heights) (cost_of_small survey heights certifiable in_range), tt)

end_fields : (flows : List ℤ) (cost : ℕ) → AllByRecursion HasField (end_rows flows cost)
end_fields flows cost = joined HasField (map flow_row (enumerate_from 1 flows)) (cost_row cost ∷ []) (flows_have_fields (enumerate_from 1 flows)) (omega arith, tt)

length-end_rows : (flows : List ℤ) (cost : ℕ) → length (end_rows flows cost) ≡ length flows + 1
length-end_rows flows cost = omega (arith, length-append (map flow_row (enumerate_from 1 flows)) (cost_row cost ∷ []), length-map (enumerate_from 1 flows) flow_row, length-enumerate_from 1 flows)

length-heights : (survey : Survey) (letter : List ℕ) (heights : List ℕ → ℤ) → length (map (height_row letter) (heights_at_points survey heights)) ≡ length (points_of survey)
length-heights survey letter heights = length-map (heights_at_points survey heights) (height_row letter) ∙ length-map (points_of survey) (λ name. (name, heights name))

-- the version row begins its draft
begins : (version : List ℕ) (n count : ℕ) (rest : List Fields) → begun (version_row version count) ≡ counted (Some n) (count_in (decimal count)) → count ≤ max_flows
    → certificate_in (header_row ∷ version_row version count ∷ rest) ≡ certificate_after rest 3 (empty_draft n count)
begins version n count rest says few = ap (after 2 (certificate_after rest 3)) (says ∙ ap (counted (Some n)) (count_in-decimal count few))

-- the flows and the cost end it
ends : (survey : Survey) (version number : ℕ) (heights low high : HeightRows) (map_of : List ℕ → ℤ) (flows : List ℤ) → IsCertifiable survey → AreInRange survey map_of → AreOfObservations survey flows
    → (last : ℕ) × (certificate_after (end_rows flows (cost_of survey map_of)) number (flowing version (length survey.observations) heights low high [])
    ≡ certificate_after [] last (record (flowing version (length survey.observations) heights low high flows) { cost = Some (cost_of survey map_of) }))
ends survey version number heights low high map_of flows certifiable in_range are =
    let count = length survey.observations in
    let cost = cost_of survey map_of in
    let few : length survey.observations ≤ max_observations = omega (arith, certifiable.network.few_observations) in (
      (number + length flows) + 1,
      flows_read version count heights low high [] flows (cost_row cost ∷ []) number (omega (arith, are.each)) few (recursion_from_All (λ flow. unsigned_abs flow ≤ max_weight) flows are.in_range)
          ∙ cost_read version count heights low high flows cost (number + length flows) are.each (cost_in-decimal cost (cost_of_small survey map_of certifiable in_range)),
    )

pub read_version_1 : (survey : Survey) (heights : List ℕ → ℤ) (flows : List ℤ) → IsCertifiable survey → AreInRange survey heights → AreOfObservations survey flows
    → certificate_of (text_of_version_1 survey heights flows) ≡ Ok (record { version = 1; heights = heights_at_points survey heights; low = None; high = None; flows = flows; cost = cost_of survey heights })
read_version_1 survey heights flows certifiable in_range are =
    let count = length survey.observations in
    let rows = rows_of_version_1 survey heights flows in
    let each = readable survey heights certifiable in_range in
    let few : length survey.observations ≤ max_observations = omega (arith, certifiable.network.few_observations) in
    let points : length (points_of survey) ≤ max_points = omega (arith, certifiable.network.few_points) in
    let tail = end_rows flows (cost_of survey heights) in
    let body = map (height_row (codes "H")) (heights_at_points survey heights) in
    let size : length (body ++ tail) ≤ most_rows - 2 = omega (arith, length-append body tail, length-heights survey (codes "H") heights, length-end_rows flows (cost_of survey heights), are.each) in
    let short : AllByRecursion IsShortRow rows = (short_header, (short_version (codes "1") count (omega arith) few, joined IsShortRow body tail (short_heights (codes "H") (points_of survey) heights (omega arith) each) (end_short survey heights flows certifiable in_range are))) in
    let fields : AllByRecursion HasField rows = (omega arith, (omega arith, joined HasField body tail (heights_have_fields (codes "H") (heights_at_points survey heights)) (end_fields flows (cost_of survey heights)))) in
    read_text rows short fields (unmarked_text 107 _ refl) (omega (arith, size))
    ∙ begins (codes "1") 1 count (body ++ tail) refl few
    ∙ heights_read (codes "H") (λ row. Height row.0 row.1) (λ rows. flowing 1 count rows [] [] []) (λ rows key number. refl) (λ rows row. refl) heights [] (points_of survey) tail 3 (points_distinct survey.observations survey.benchmarks) each
    ∙ (ends survey 1 (3 + length (points_of survey)) (heights_at_points survey heights) [] [] heights flows certifiable in_range are).1

pub read_version_2 : (survey : Survey) (heights low high : List ℕ → ℤ) (flows : List ℤ) → IsCertifiable survey → AreInRange survey heights → AreInRange survey low → AreInRange survey high → AreOfObservations survey flows
    → certificate_of (text_of_version_2 survey heights low high flows)
    ≡ Ok (record { version = 2; heights = heights_at_points survey heights; low = Some (heights_at_points survey low); high = Some (heights_at_points survey high); flows = flows; cost = cost_of survey heights })
read_version_2 survey heights low high flows certifiable in_range low_in_range high_in_range are =
    let count = length survey.observations in
    let names = points_of survey in
    let rows = rows_of_version_2 survey heights low high flows in
    let each = readable survey heights certifiable in_range in
    let low_each = readable survey low certifiable low_in_range in
    let high_each = readable survey high certifiable high_in_range in
    let few : length survey.observations ≤ max_observations = omega (arith, certifiable.network.few_observations) in
    let points : length (points_of survey) ≤ max_points = omega (arith, certifiable.network.few_points) in
    let distinct = points_distinct survey.observations survey.benchmarks in
    let tail = end_rows flows (cost_of survey heights) in
    let h = map (height_row (codes "H")) (heights_at_points survey heights) in
    let l = map (height_row (codes "L")) (heights_at_points survey low) in
    let u = map (height_row (codes "U")) (heights_at_points survey high) in
    let size : length (h ++ (l ++ (u ++ tail))) ≤ most_rows - 2 =
    omega (
      arith,
      length-append h (l ++ (u ++ tail)),
      length-append l (u ++ tail),
      length-append u tail,
      length-heights survey (codes "H") heights,
      length-heights survey (codes "L") low,
      length-heights survey (codes "U") high,
      length-end_rows flows (cost_of survey heights),
      are.each,
    ) in
    let short : AllByRecursion IsShortRow rows = (
      short_header,
      (
        short_version (codes "2") count (omega arith) few,
        joined IsShortRow h (l ++ (u ++ tail)) (short_heights (codes "H") names heights (omega arith) each)
            (joined IsShortRow l (u ++ tail) (short_heights (codes "L") names low (omega arith) low_each)
            (joined IsShortRow u tail (short_heights (codes "U") names high (omega arith) high_each) (end_short survey heights flows certifiable in_range are))),
      ),
    ) in
    let fields : AllByRecursion HasField rows = (
      omega arith,
      (
        omega arith,
        joined HasField h (l ++ (u ++ tail)) (heights_have_fields (codes "H") (heights_at_points survey heights))
            (joined HasField l (u ++ tail) (heights_have_fields (codes "L") (heights_at_points survey low))
            (joined HasField u tail (heights_have_fields (codes "U") (heights_at_points survey high)) (end_fields flows (cost_of survey heights)))),
      ),
    ) in
    let first = heights_at_points survey heights in
    let second = heights_at_points survey low in
    let third = heights_at_points survey high in
    read_text rows short fields (unmarked_text 107 _ refl) (omega (arith, size))
    ∙ begins (codes "2") 2 count (h ++ (l ++ (u ++ tail))) refl few
    ∙ heights_read (codes "H") (λ row. Height row.0 row.1) (λ rows. flowing 2 count rows [] [] []) (λ rows key number. refl) (λ rows row. refl) heights [] names (l ++ (u ++ tail)) 3 distinct each
    ∙ heights_read (codes "L") (λ row. Low row.0 row.1) (λ rows. flowing 2 count first rows [] []) (λ rows key number. refl) (λ rows row. refl) low [] names (u ++ tail) (3 + length names) distinct low_each
    ∙ heights_read (codes "U") (λ row. High row.0 row.1) (λ rows. flowing 2 count first second rows []) (λ rows key number. refl) (λ rows row. refl) high [] names tail ((3 + length names) + length names) distinct high_each
    ∙ (ends survey 2 (((3 + length names) + length names) + length names) first second third heights flows certifiable in_range are).1
