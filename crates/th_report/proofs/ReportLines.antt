-- The report consists of whole lines, and none ends with a space.
use Rattle.std.proofs.Common.{◌≡◌, ◌≢◌, ◌-◌, ◌+◌, ℕ, ℤ, zero, suc, Bool, true, false, Option, Some, None, List, [], ◌∷◌, ◌++◌, All, Contains, codes, decimal, filter, if◌then◌else◌, length, slice_get, refl, sym, subst, append_assoc, arith}
use Rattle.std.specs.List.{AllByRecursion, enumerate_from, flat_map, zip}
use Rattle.std.specs.Option.{option_map_or}
use Rattle.std.proofs.lemmas.List.{append-nil}
use Rattle.std.proofs.lemmas.List.Elements.{All-contains, recursion_from_All}
use Rattle.th_units.specs.Metres.{metres}
use Rattle.gsi_word.specs.Names.{name_of}
use Rattle.th_observations.specs.Observed.{Observed}
use Rattle.th_tables.specs.Rows.{weight_of}
use Rattle.th_network.specs.Heights.{cost}
use Rattle.th_network.specs.Networks.{Survey, points_of}
use Rattle.th_blunders.specs.Residuals.{residuals}
use Rattle.th_blunders.specs.Blunders.{blunders, is_blunder}
use Rattle.th_blunders.specs.Opposites.{opposites}
use Rattle.th_blunders.specs.declared.pairs.Opposite.{Opposite}
use Rattle.th_report.specs.Lines.{EndsItsLines, HasNoSpaceAtEnd}
use Rattle.th_points.proofs.PlaceLemmas.{ends_contained}
use Rattle.th_columns.specs.Columns.{gap, left_in, line_end, right_in}
use Rattle.th_report.specs.Reports.{adjusted_part, benchmark_count, benchmark_mark, blunder_lines, blunder_mark, blunder_rows, count_lines, end_columns, ends_of, head_lines, is_benchmark, line_in, number_columns, observed_part, opposite_columns, opposite_line, opposite_lines, place_columns, place_of, point_columns, point_line, point_lines, report_text, residual_columns, residual_header, residual_line, residual_lines, residual_of, residual_rows, title_line}
use Rattle.th_columns.specs.Labels.{label_line}
use Rattle.th_report.proofs.NameLemmas.{name_printable}
use Rattle.th_report.proofs.LineLemmas.{IsBody, IsSeen, IsTidy, body-append, body-right, data_printable, decimal_seen, empty_line, line_of, metres_seen, more_lines, no_lines, printable, printable-append, printable-left, printable-right, seen-printable, seen_body, tidy_has_no_space_at_end, tidy_is_ended, visible}

-- a mark behind a line: none, or one that is seen
pub record IsMark (mark : List ℕ) : Type 0 where
  pub behind : (text : List ℕ) → printable text ≡ true → IsBody text → IsBody (text ++ mark)

no_mark : IsMark []
no_mark = record { behind = λ text is body. subst IsBody (sym (append-nil text)) body }

-- two spaces, and a byte that is seen
a_mark : (byte : ℕ) → IsSeen (byte ∷ []) → IsMark (32 ∷ 32 ∷ byte ∷ [])
a_mark byte seen = record { behind = λ text is body. body-append text (32 ∷ 32 ∷ byte ∷ []) is (body-append (32 ∷ 32 ∷ []) (byte ∷ []) refl (seen_body (byte ∷ []) seen)) }

seen_byte : (byte : ℕ) → visible (byte ∷ []) ≡ true → IsSeen (byte ∷ [])
seen_byte byte is = record { some = omega arith; all = is }

benchmark_marks : (is_one : Bool) → IsMark (benchmark_mark is_one)
benchmark_marks true = a_mark 66 (seen_byte 66 refl)
benchmark_marks false = no_mark

blunder_marks : (is_one : Bool) → IsMark (blunder_mark is_one)
blunder_marks true = a_mark 42 (seen_byte 42 refl)
blunder_marks false = no_mark

-- a column with the spaces before it
printable-gap : (front back : List ℕ) → printable front ≡ true → printable back ≡ true → printable (front ++ gap ++ back) ≡ true
printable-gap front back h k = printable-append (front ++ gap) back (printable-append front gap h refl) k

label_tidy : (label value : List ℕ) → printable label ≡ true → IsSeen value → IsTidy (label_line label value)
unfolding label_line
label_tidy label value is seen =
    line_of (left_in 14 label ++ right_in 26 value) (body-append (left_in 14 label) (right_in 26 value) (printable-left 14 label is) (body-right 26 value (seen_body value seen)))

title_tidy : IsTidy title_line
unfolding title_line
title_tidy = line_of (codes "HEIGHT NETWORK REPORT") (body-append (codes "HEIGHT NETWORK ") (codes "REPORT") refl (seen_body (codes "REPORT") (record { some = omega arith; all = refl })))

counts_tidy : (survey : Survey) → IsTidy (count_lines survey)
unfolding count_lines
counts_tidy survey =
    let points = label_tidy (codes "points") (decimal (length (points_of survey))) refl (decimal_seen (length (points_of survey))) in
    let benchmarks = label_tidy (codes "benchmarks") (decimal (benchmark_count survey)) refl (decimal_seen (benchmark_count survey)) in
    let observations = label_tidy (codes "observations") (decimal (length survey.observations)) refl (decimal_seen (length survey.observations)) in
    more_lines _ _ (more_lines _ _ points benchmarks) observations

head_tidy : (survey : Survey) (cost : ℕ) (limit : ℤ) → IsTidy (head_lines survey cost limit)
unfolding head_lines
head_tidy survey cost limit =
    more_lines _ _ (more_lines _ _ (more_lines _ _ title_tidy (counts_tidy survey)) (label_tidy (codes "cost") (decimal cost) refl (decimal_seen cost)))
    (label_tidy (codes "blunder limit") (metres limit) refl (metres_seen limit))

points_tidy : (name height mark : List ℕ) → printable name ≡ true → IsSeen height → IsMark mark → IsTidy (point_columns name height mark)
unfolding point_columns
points_tidy name height mark is seen marked =
    let front = left_in 16 name ++ gap in
    let before : printable front ≡ true = printable-append (left_in 16 name) gap (printable-left 16 name is) refl in
    let text = front ++ right_in 20 height in
    line_of (text ++ mark) (marked.behind text (printable-append front (right_in 20 height) before (printable-right 20 height (seen-printable height seen))) (body-append front (right_in 20 height) before (body-right 20 height (seen_body height seen))))

point_rows : (survey : Survey) (heights : List ℕ → ℤ) (names : List (List ℕ)) → AllByRecursion (λ name. printable name ≡ true) names → IsTidy (flat_map (point_line survey heights) names)
unfolding point_line
point_rows survey heights [] each = no_lines
point_rows survey heights (name ∷ names) each =
    more_lines (point_line survey heights name) (flat_map (point_line survey heights) names)
    (points_tidy name (metres (heights name)) (benchmark_mark (is_benchmark survey name)) each.0 (metres_seen (heights name)) (benchmark_marks (is_benchmark survey name)))
    (point_rows survey heights names each.1)

places_printable : (number book line : List ℕ) → printable number ≡ true → printable book ≡ true → printable line ≡ true → printable (place_columns number book line) ≡ true
unfolding place_columns
places_printable number book line a b c =
    printable-append (right_in 5 number ++ gap ++ right_in 2 book ++ gap ++ right_in 8 line) gap (printable-gap (right_in 5 number ++ gap ++ right_in 2 book) (right_in 8 line) (printable-gap (right_in 5 number) (right_in 2 book) (printable-right 5 number a) (printable-right 2 book b)) (printable-right 8 line c)) refl

ends_printable : (station target : List ℕ) → printable station ≡ true → printable target ≡ true → printable (end_columns station target) ≡ true
unfolding end_columns
ends_printable station target a b =
    printable-append (left_in 16 station ++ gap ++ left_in 16 target) gap (printable-gap (left_in 16 station) (left_in 16 target) (printable-left 16 station a) (printable-left 16 target b)) refl

residuals_tidy : (front weight residual mark : List ℕ) → printable front ≡ true → printable weight ≡ true → IsSeen residual → IsMark mark → IsTidy (front ++ residual_columns weight residual mark)
unfolding residual_columns
residuals_tidy front weight residual mark a b seen marked =
    let before = right_in 4 weight ++ gap in
    let between : printable before ≡ true = printable-append (right_in 4 weight) gap (printable-right 4 weight b) refl in
    let text = before ++ right_in 20 residual in
    let body = body-append before (right_in 20 residual) between (body-right 20 residual (seen_body residual seen)) in
    let whole = printable-append before (right_in 20 residual) between (printable-right 20 residual (seen-printable residual seen)) in
    subst IsTidy (append_assoc front (text ++ mark) line_end) (line_of (front ++ (text ++ mark)) (body-append front (text ++ mark) a (marked.behind text whole body)))

-- an observation whose ends are printable
abbrev pub IsPrintable : Observed → Type 0
IsPrintable o = (printable o.station ≡ true) × (printable o.target ≡ true)

place_printable : (number : ℕ) (o : Observed) → printable (place_of number o) ≡ true
unfolding place_of
place_printable number o =
    places_printable (decimal number) (decimal o.book) (decimal o.line) (seen-printable _ (decimal_seen number)) (seen-printable _ (decimal_seen o.book)) (seen-printable _ (decimal_seen o.line))

ends_of_printable : (o : Observed) → IsPrintable o → printable (ends_of o) ≡ true
unfolding ends_of
ends_of_printable o is = ends_printable o.station o.target is.0 is.1

row_tidy : (survey : Survey) (limit : ℤ) (row : ℕ × (Observed × ℤ)) → IsPrintable row.1.0 → IsTidy (line_in survey limit row)
unfolding line_in residual_line residual_of
row_tidy survey limit (number, (o, residual)) is =
    residuals_tidy (place_of number o ++ ends_of o) (decimal (weight_of survey.weights o.station o.target)) (metres residual) (blunder_mark (is_blunder limit residual))
    (printable-append (place_of number o) (ends_of o) (place_printable number o) (ends_of_printable o is))
    (seen-printable _ (decimal_seen (weight_of survey.weights o.station o.target))) (metres_seen residual) (blunder_marks (is_blunder limit residual))

rows_tidy : (survey : Survey) (limit : ℤ) (rows : List (ℕ × (Observed × ℤ))) → AllByRecursion (λ row. IsPrintable row.1.0) rows → IsTidy (flat_map (line_in survey limit) rows)
rows_tidy survey limit [] each = no_lines
rows_tidy survey limit (row ∷ rows) each = more_lines (line_in survey limit row) (flat_map (line_in survey limit) rows) (row_tidy survey limit row each.0) (rows_tidy survey limit rows each.1)

rows_printable : (number : ℕ) (observations : List Observed) (residuals : List ℤ) → AllByRecursion IsPrintable observations → AllByRecursion (λ row. IsPrintable row.1.0) (enumerate_from number (zip observations residuals))
rows_printable number [] residuals each = tt
rows_printable number (o ∷ observations) [] each = tt
rows_printable number (o ∷ observations) (r ∷ residuals) each = (each.0, rows_printable (number + 1) observations residuals each.1)

kept_printable : (kept : ℕ × (Observed × ℤ) → Bool) (rows : List (ℕ × (Observed × ℤ))) → AllByRecursion (λ row. IsPrintable row.1.0) rows → AllByRecursion (λ row. IsPrintable row.1.0) (filter kept rows)
kept_printable kept [] each = tt
kept_printable kept (row ∷ rows) each = by (kept row) (kept_printable kept rows each.1)
  where
    by : (test : Bool) → AllByRecursion (λ row. IsPrintable row.1.0) (filter kept rows) → AllByRecursion (λ row. IsPrintable row.1.0) (if test then row ∷ filter kept rows else filter kept rows)
    by true later = (each.0, later)
    by false later = later

header_tidy : IsTidy residual_header
unfolding residual_header
header_tidy =
    residuals_tidy (place_columns (codes "NO") (codes "BK") (codes "LINE") ++ end_columns (codes "FROM") (codes "TO")) (codes "WT") (codes "RESIDUAL") []
    (printable-append (place_columns (codes "NO") (codes "BK") (codes "LINE")) (end_columns (codes "FROM") (codes "TO")) (places_printable (codes "NO") (codes "BK") (codes "LINE") refl refl refl) (ends_printable (codes "FROM") (codes "TO") refl refl))
    refl (record { some = omega arith; all = refl }) no_mark

opposite_tidy : (opposite : Opposite) (later : Observed) → IsPrintable later → IsTidy (opposite_columns opposite later)
unfolding opposite_columns number_columns
opposite_tidy opposite later is =
    let front = right_in 5 (decimal opposite.number) ++ gap ++ right_in 5 (decimal opposite.earlier) ++ gap ++ ends_of later in
    let before : printable front ≡ true =
    printable-append (right_in 5 (decimal opposite.number) ++ gap ++ right_in 5 (decimal opposite.earlier) ++ gap) (ends_of later) (printable-append (right_in 5 (decimal opposite.number) ++ gap ++ right_in 5 (decimal opposite.earlier)) gap (printable-gap (right_in 5 (decimal opposite.number)) (right_in 5 (decimal opposite.earlier)) (printable-right 5 _ (seen-printable _ (decimal_seen opposite.number))) (printable-right 5 _ (seen-printable _ (decimal_seen opposite.earlier)))) refl) (ends_of_printable later is) in
    line_of (front ++ right_in 20 (metres opposite.sum)) (body-append front (right_in 20 (metres opposite.sum)) before (body-right 20 (metres opposite.sum) (seen_body (metres opposite.sum) (metres_seen opposite.sum))))

found_tidy : (opposite : Opposite) (found : Option Observed) → ((o : Observed) → found ≡ Some o → IsPrintable o) → IsTidy (option_map_or (opposite_columns opposite) found [])
found_tidy opposite None each = no_lines
found_tidy opposite (Some o) each = opposite_tidy opposite o (each o refl)

got_printable : (observations : List Observed) (k : ℕ) → AllByRecursion IsPrintable observations → (o : Observed) → slice_get observations k ≡ Some o → IsPrintable o
got_printable [] k each o is = cc is
got_printable (first ∷ observations) zero each o is =
    let same : first ≡ o = cc is in
    subst IsPrintable same each.0
got_printable (first ∷ observations) (suc k) each o is = got_printable observations k each.1 o is

opposite_rows : (observations : List Observed) (found : List Opposite) → AllByRecursion IsPrintable observations → IsTidy (flat_map (opposite_line observations) found)
unfolding opposite_line
opposite_rows observations [] each = no_lines
opposite_rows observations (opposite ∷ found) each =
    more_lines (opposite_line observations opposite) (flat_map (opposite_line observations) found)
    (found_tidy opposite (slice_get observations (opposite.number - 1)) (got_printable observations (opposite.number - 1) each))
    (opposite_rows observations found each)

-- the report on a survey whose names are printable
report_tidy : (survey : Survey) (heights : List ℕ → ℤ) (limit : ℤ) → AllByRecursion (λ name. printable name ≡ true) (points_of survey) → AllByRecursion IsPrintable survey.observations → IsTidy (report_text survey heights limit)
unfolding report_text adjusted_part observed_part point_lines residual_lines blunder_lines opposite_lines
report_tidy survey heights limit names each =
    let spent = cost survey.observations survey.weights heights in
    let left = residuals survey.observations heights in
    let rows = rows_printable 1 survey.observations left each in
    let head = head_tidy survey spent limit in
    let points = more_lines _ _ (points_tidy (codes "POINT") (codes "HEIGHT") [] refl (record { some = omega arith; all = refl }) no_mark) (point_rows survey heights (points_of survey) names) in
    let table = more_lines _ _ header_tidy (rows_tidy survey limit (residual_rows survey left) rows) in
    let marked = more_lines _ _ (label_tidy (codes "blunders") (decimal (length (blunders limit left))) refl (decimal_seen (length (blunders limit left)))) (rows_tidy survey limit (blunder_rows survey left limit) (kept_printable _ (residual_rows survey left) rows)) in
    let turned = more_lines _ _ (label_tidy (codes "opposites") (decimal (length (opposites survey.observations))) refl (decimal_seen (length (opposites survey.observations)))) (opposite_rows survey.observations (opposites survey.observations) each) in
    more_lines _ _ (more_lines _ _ (more_lines _ _ (more_lines _ _ head empty_line) points) empty_line)
    (more_lines _ _ (more_lines _ _ (more_lines _ _ (more_lines _ _ table empty_line) marked) empty_line) turned)

-- names in reduced form are printable
pub reduced_printable : (name : List ℕ) → name_of name ≡ Some name → printable name ≡ true
reduced_printable name is = data_printable name (name_printable name name is)

reduced_names : (names : List (List ℕ)) → AllByRecursion (λ name. name_of name ≡ Some name) names → AllByRecursion (λ name. printable name ≡ true) names
reduced_names [] each = tt
reduced_names (name ∷ names) each = (reduced_printable name each.0, reduced_names names each.1)

reduced_ends : (names : List (List ℕ)) → ((name : List ℕ) → Contains names name → printable name ≡ true) → (observations : List Observed)
    → AllByRecursion (λ o. Contains names o.station × Contains names o.target) observations → AllByRecursion IsPrintable observations
reduced_ends names is [] each = tt
reduced_ends names is (o ∷ observations) each = ((is o.station each.0.0, is o.target each.0.1), reduced_ends names is observations each.1)

reduced_report : (survey : Survey) (heights : List ℕ → ℤ) (limit : ℤ) → All (λ name. name_of name ≡ Some name) (points_of survey) → IsTidy (report_text survey heights limit)
reduced_report survey heights limit names =
    let there = recursion_from_All (λ o. Contains (points_of survey) o.station × Contains (points_of survey) o.target) survey.observations (ends_contained survey.observations survey.benchmarks) in
    report_tidy survey heights limit
    (reduced_names (points_of survey) (recursion_from_All (λ name. name_of name ≡ Some name) (points_of survey) names))
    (reduced_ends (points_of survey) (λ name has. reduced_printable name (All-contains (λ name. name_of name ≡ Some name) (points_of survey) name names has)) survey.observations there)

-- the report has a title
report_there : (survey : Survey) (heights : List ℕ → ℤ) (limit : ℤ) → report_text survey heights limit ≢ []
unfolding report_text adjusted_part head_lines title_line
report_there survey heights limit is = cc is

pub report_ended : (survey : Survey) (heights : List ℕ → ℤ) (limit : ℤ) → All (λ name. name_of name ≡ Some name) (points_of survey) → EndsItsLines (report_text survey heights limit)
report_ended survey heights limit names = tidy_is_ended (report_text survey heights limit) (report_there survey heights limit) (reduced_report survey heights limit names)

pub report_spaceless : (survey : Survey) (heights : List ℕ → ℤ) (limit : ℤ) → All (λ name. name_of name ≡ Some name) (points_of survey) → HasNoSpaceAtEnd (report_text survey heights limit)
report_spaceless survey heights limit names = tidy_has_no_space_at_end (report_text survey heights limit) (reduced_report survey heights limit names)
