-- The fault that is read of a record after a draft is the one that the records above it give it.
use Rattle.std.proofs.Common.{◌≡◌, ◌+◌, ◌&&◌, ◌||◌, ◌==◌, ◌++◌, ℕ, ℤ, Bool, true, false, not, if◌then◌else◌, List, [], ◌∷◌, length, Option, Some, None, is_none, is_some, Result, Ok, Err, bytes_eq, codes, nat_le, nat_lt, unwrap_or, refl, sym, ap, subst, ◌∙◌, length-append, arith}
use Rattle.std.specs.List.{list_any}
use Rattle.std.specs.Map.{lookup}
use Rattle.std.specs.Option.{option_map_or}
use Rattle.std.specs.Result.{result_err, result_map_both}
use Rattle.std.proofs.Math.Bool.{or-false}
use Rattle.std.proofs.lemmas.Bool.Decides.{nat_tests}
use Rattle.std.proofs.lemmas.List.Folds.{list_any-append}
use Rattle.std.proofs.lemmas.List.Sums.{sum_by-append}
use Rattle.gsi_word.specs.Names.{name_of}
use Rattle.th_units.specs.Lengths.{are_digits, number, signed}
use Rattle.th_units.specs.Metres.{has_minus, is_in_metres, units_of, decimals, whole, without_sign}
use Rattle.th_units.specs.declared.faults.LenFault.TheVariants.{NotDigits, TooLarge as LongMetres}
use Rattle.th_csv.specs.Records.{Fields}
use Rattle.th_certificate.specs.Certified.{HeightRows}
use Rattle.th_certificate.specs.FirstFaults.{count_of, first_unmet, flow_count, gives_name, is_of, is_of_version_2, lacks, row_kind, version_kind}
use Rattle.th_certificate.specs.Limits.{max_cost_digits, max_digits, max_flows}
use Rattle.th_certificate.specs.Numbers.{cost_in, count_in, flow_in, height_from, height_in, writes}
use Rattle.th_certificate.specs.Statements.{Draft, begun, counted, may_have_cost, may_have_flow, may_have_height, may_have_high, may_have_low, new_name, row_in, row_of, said, statement_of, states, version_in, with_statement}
use Rattle.th_certificate.specs.declared.faults.CertKind.{CertKind}
use Rattle.th_certificate.specs.declared.faults.CertKind.TheVariants.{BadKind, BadName, BadNumber, TooLarge}
use Rattle.th_certificate.specs.declared.statements.Statement.{Statement}
use Rattle.th_certificate.specs.declared.statements.Statement.TheVariants.{Height, Low, High, Flow, Cost}
use Rattle.th_certificate.specs.Rows.{IsCostRow, IsFlowRow, IsHeightRow}
use Rattle.th_certificate.proofs.RowsHeard.{Begins, IsSaid, begins, same_text, statement_known}

-- a text in metres: its form first, and then its size
metres_kind : (make : ℕ → ℤ) (formed long : Bool) (units : ℕ)
    → result_err (height_from (result_map_both make (λ fault. fault) (if not formed then Err NotDigits else (if long then Err LongMetres else Ok units)))) ≡ first_unmet true true true formed (not long)
metres_kind make false long units = refl
metres_kind make true true units = refl
metres_kind make true false units = refl

not_long : (n : ℕ) → not (nat_lt max_digits n) ≡ nat_le n max_digits
not_long n = by (nat_lt max_digits n) refl
  where
    by : (long : Bool) → nat_lt max_digits n ≡ long → not long ≡ nat_le n max_digits
    by true is =
        let small : nat_le n max_digits ≡ false = grind (arith, nat_tests) in
        sym small
    by false is =
        let small : nat_le n max_digits ≡ true = grind (arith, nat_tests) in
        sym small

-- a height's number
height_kind : (number : List ℕ) → result_err (height_in number) ≡ first_unmet true true true (is_in_metres (without_sign number)) (nat_le (length (whole (without_sign number))) max_digits)
height_kind number =
    let text = without_sign number in
    metres_kind (signed (has_minus number)) (is_in_metres text) (nat_lt max_digits (length (whole text))) (units_of (whole text) (unwrap_or (decimals text) []))
    ∙ ap (first_unmet true true true (is_in_metres text)) (not_long (length (whole text)))

-- any other number: its form first, and then its size
formed_kind : {A : Type 0} (formed small : Bool) (it : A) → result_err (if formed then (if small then Ok it else Err TooLarge) else Err BadNumber) ≡ first_unmet true true true formed small
formed_kind false small it = refl
formed_kind true false it = refl
formed_kind true true it = refl

-- a row of a height, where it may stand or not
module _ (make : List ℕ × ℤ → Statement) (rows : HeightRows) (number : List ℕ) where
  named_kind : (name : Option (List ℕ)) → result_err (states make (row_of (new_name rows name) (height_in number)))
      ≡ first_unmet true true (option_map_or (λ name. not (is_some (lookup (bytes_eq name) rows))) name false) (is_in_metres (without_sign number)) (nat_le (length (whole (without_sign number))) max_digits)
  named_kind None = refl
  named_kind (Some name) = by (is_some (lookup (bytes_eq name) rows)) (height_in number) (height_kind number)
    where
      by : (there : Bool) (height : Result ℤ CertKind) → result_err height ≡ first_unmet true true true (is_in_metres (without_sign number)) (nat_le (length (whole (without_sign number))) max_digits)
          → result_err (states make (row_of (if there then Err BadName else Ok name) height))
          ≡ first_unmet true true (not there) (is_in_metres (without_sign number)) (nat_le (length (whole (without_sign number))) max_digits)
      by true height is = refl
      by false (Ok height) is = is
      by false (Err kind) is = is

-- a statement of what is read has its fault
states_kind : {A : Type 0} (make : A → Statement) (read : Result A CertKind) → result_err (states make read) ≡ result_err read
states_kind make (Ok it) = refl
states_kind make (Err kind) = refl

-- what the rows under a version row have said so far is the draft
pub record Tells (version_row : Fields) (above : List Fields) (draft : Draft) : Type 0 where
  pub version : (draft.version == 2) ≡ is_of_version_2 version_row
  pub count : draft.count ≡ flow_count version_row
  pub low : length draft.low ≡ count_of (codes "L") above
  pub high : length draft.high ≡ count_of (codes "U") above
  pub flows : length draft.flows ≡ count_of (codes "F") above
  pub cost : is_none draft.cost ≡ (count_of (codes "Z") above == 0)
  pub height_names : (name : List ℕ) → is_some (lookup (bytes_eq name) draft.heights) ≡ list_any (λ other. is_of (codes "H") other && gives_name name other) above
  pub low_names : (name : List ℕ) → is_some (lookup (bytes_eq name) draft.low) ≡ list_any (λ other. is_of (codes "L") other && gives_name name other) above
  pub high_names : (name : List ℕ) → is_some (lookup (bytes_eq name) draft.high) ≡ list_any (λ other. is_of (codes "U") other && gives_name name other) above

-- tests in another order
four_tests : (z f u l : Bool) → (z && (f && (u && l))) ≡ (l && (u && (f && (z && true))))
four_tests true true true true = refl
four_tests true true true false = refl
four_tests true true false true = refl
four_tests true true false false = refl
four_tests true false true true = refl
four_tests true false true false = refl
four_tests true false false true = refl
four_tests true false false false = refl
four_tests false f u true = by u f
  where
    by : (u f : Bool) → false ≡ (u && (f && false))
    by true true = refl
    by true false = refl
    by false f = refl
four_tests false f u false = refl

three_tests : (z f v u : Bool) → ((z && (f && v)) && u) ≡ (v && (u && (f && (z && true))))
three_tests true true true true = refl
three_tests true true true false = refl
three_tests true true false u = refl
three_tests true false true true = refl
three_tests true false true false = refl
three_tests true false false u = refl
three_tests false f false u = refl
three_tests false f true true = by f
  where
    by : (f : Bool) → false ≡ (f && false)
    by true = refl
    by false = refl
three_tests false f true false = refl

two_tests : (z f v : Bool) → (z && (f && v)) ≡ (v && (f && (z && true)))
two_tests true true true = refl
two_tests true true false = refl
two_tests true false true = refl
two_tests true false false = refl
two_tests false true true = refl
two_tests false true false = refl
two_tests false false true = refl
two_tests false false false = refl

flip_tests : (z f : Bool) → (z && f) ≡ (f && (z && true))
flip_tests true true = refl
flip_tests true false = refl
flip_tests false true = refl
flip_tests false false = refl

cost_tests : (z f k : Bool) → ((z && f) && k) ≡ (k && (f && (z && true)))
cost_tests true true true = refl
cost_tests true true false = refl
cost_tests true false true = refl
cost_tests true false false = refl
cost_tests false true true = refl
cost_tests false true false = refl
cost_tests false false true = refl
cost_tests false false false = refl

-- where a row may not stand nothing else counts
may : {A : Type 0} (make : A → Statement) (read : Result A CertKind) (stands named formed small : Bool) → result_err (states make read) ≡ first_unmet true true named formed small
    → result_err (if stands then states make read else Err BadKind) ≡ first_unmet true stands named formed small
may make read true named formed small is = is
may make read false named formed small is = refl

module _ (version_row : Fields) (above : List Fields) (draft : Draft) (tells : Tells version_row above draft) where
  -- where each kind may stand
  height_stands : may_have_height draft ≡ lacks (codes "LUFZ") above
  height_stands = rw (tells.cost, tells.flows, tells.high, tells.low) (four_tests (count_of (codes "Z") above == 0) (count_of (codes "F") above == 0) (count_of (codes "U") above == 0) (count_of (codes "L") above == 0))

  low_stands : may_have_low draft ≡ (is_of_version_2 version_row && lacks (codes "UFZ") above)
  low_stands = rw (tells.cost, tells.flows, tells.high, tells.version) (three_tests (count_of (codes "Z") above == 0) (count_of (codes "F") above == 0) (is_of_version_2 version_row) (count_of (codes "U") above == 0))

  high_stands : may_have_high draft ≡ (is_of_version_2 version_row && lacks (codes "FZ") above)
  high_stands = rw (tells.cost, tells.flows, tells.version) (two_tests (count_of (codes "Z") above == 0) (count_of (codes "F") above == 0) (is_of_version_2 version_row))

  flow_stands : may_have_flow draft ≡ (nat_lt (count_of (codes "F") above) (flow_count version_row) && lacks (codes "Z") above)
  flow_stands = rw (tells.cost, tells.flows, tells.count) (flip_tests (count_of (codes "Z") above == 0) (nat_lt (count_of (codes "F") above) (flow_count version_row)))

  cost_stands : (key : List ℕ) → (may_have_cost draft && bytes_eq key (codes "cost")) ≡ (bytes_eq key (codes "cost") && ((count_of (codes "F") above == flow_count version_row) && lacks (codes "Z") above))
  cost_stands key = rw (tells.cost, tells.flows, tells.count) (cost_tests (count_of (codes "Z") above == 0) (count_of (codes "F") above == flow_count version_row) (bytes_eq key (codes "cost")))

  -- a row of heights
  module _ (letter : List ℕ) (make : List ℕ × ℤ → Statement) (rows : HeightRows) (key number : List ℕ)
      (names : (name : List ℕ) → is_some (lookup (bytes_eq name) rows) ≡ list_any (λ other. is_of letter other && gives_name name other) above) where
    new_names : (name : Option (List ℕ)) → option_map_or (λ name. not (is_some (lookup (bytes_eq name) rows))) name false
        ≡ option_map_or (λ name. not (list_any (λ other. is_of letter other && gives_name name other) above)) name false
    new_names None = refl
    new_names (Some name) = ap not (names name)

    heights_kind : (may_have stands : Bool) → may_have ≡ stands
        → result_err (if may_have then states make (row_in rows key number) else Err BadKind)
        ≡ first_unmet true stands (option_map_or (λ name. not (list_any (λ other. is_of letter other && gives_name name other) above)) (name_of key) false) (is_in_metres (without_sign number)) (nat_le (length (whole (without_sign number))) max_digits)
    heights_kind may_have stands is =
        ap (λ may_have. result_err (if may_have then states make (row_in rows key number) else Err BadKind)) is
        ∙ may make (row_in rows key number) stands _ (is_in_metres (without_sign number)) (nat_le (length (whole (without_sign number))) max_digits)
        (named_kind make rows number (name_of key)
        ∙ ap (λ named. first_unmet true true named (is_in_metres (without_sign number)) (nat_le (length (whole (without_sign number))) max_digits)) (new_names (name_of key)))

  -- a row of each kind
  kind_of_height : (key number : List ℕ) → result_err (said draft (codes "H") key number) ≡ row_kind version_row above (codes "H" ∷ key ∷ number ∷ [])
  kind_of_height key number = heights_kind (codes "H") (λ row. Height row.0 row.1) draft.heights key number tells.height_names (may_have_height draft) (lacks (codes "LUFZ") above) height_stands

  kind_of_low : (key number : List ℕ) → result_err (said draft (codes "L") key number) ≡ row_kind version_row above (codes "L" ∷ key ∷ number ∷ [])
  kind_of_low key number = heights_kind (codes "L") (λ row. Low row.0 row.1) draft.low key number tells.low_names (may_have_low draft) (is_of_version_2 version_row && lacks (codes "UFZ") above) low_stands

  kind_of_high : (key number : List ℕ) → result_err (said draft (codes "U") key number) ≡ row_kind version_row above (codes "U" ∷ key ∷ number ∷ [])
  kind_of_high key number = heights_kind (codes "U") (λ row. High row.0 row.1) draft.high key number tells.high_names (may_have_high draft) (is_of_version_2 version_row && lacks (codes "FZ") above) high_stands

  flow_kind : (key number : List ℕ) → result_err (flow_in (length draft.flows + 1) key number)
      ≡ first_unmet true true true (writes key (count_of (codes "F") above + 1) && are_digits (without_sign number)) (nat_le (length key) max_digits && nat_le (length (without_sign number)) max_digits)
  flow_kind key number =
      ap (λ count. result_err (flow_in (count + 1) key number)) tells.flows
      ∙ formed_kind (writes key (count_of (codes "F") above + 1) && are_digits (without_sign number)) (nat_le (length key) max_digits && nat_le (length (without_sign number)) max_digits) _

  kind_of_flow : (key number : List ℕ) → result_err (said draft (codes "F") key number) ≡ row_kind version_row above (codes "F" ∷ key ∷ number ∷ [])
  kind_of_flow key text =
      ap (λ may_have. result_err (if may_have then states Flow (flow_in (length draft.flows + 1) key text) else Err BadKind)) flow_stands
      ∙ may Flow (flow_in (length draft.flows + 1) key text) (nat_lt (count_of (codes "F") above) (flow_count version_row) && lacks (codes "Z") above) true _ _
      (states_kind Flow (flow_in (length draft.flows + 1) key text) ∙ flow_kind key text)

  kind_of_cost : (key number : List ℕ) → result_err (said draft (codes "Z") key number) ≡ row_kind version_row above (codes "Z" ∷ key ∷ number ∷ [])
  kind_of_cost key text =
      ap (λ may_have. result_err (if may_have then states Cost (cost_in text) else Err BadKind)) (cost_stands key)
      ∙ may Cost (cost_in text) (bytes_eq key (codes "cost") && ((count_of (codes "F") above == flow_count version_row) && lacks (codes "Z") above)) true _ _
      (states_kind Cost (cost_in text) ∙ formed_kind (are_digits text) (nat_le (length text) max_cost_digits) _)

  -- a row of any other kind may not stand there
  said_kind : (letter key number : List ℕ) → result_err (said draft letter key number) ≡ row_kind version_row above (letter ∷ key ∷ number ∷ [])
  said_kind letter key number = by (bytes_eq letter (codes "H")) (bytes_eq letter (codes "L")) (bytes_eq letter (codes "U")) (bytes_eq letter (codes "F")) (bytes_eq letter (codes "Z")) refl refl refl refl refl
    where
      Same : List ℕ → Type 0
      Same letter = result_err (said draft letter key number) ≡ row_kind version_row above (letter ∷ key ∷ number ∷ [])

      by : (h l u f z : Bool) → bytes_eq letter (codes "H") ≡ h → bytes_eq letter (codes "L") ≡ l → bytes_eq letter (codes "U") ≡ u → bytes_eq letter (codes "F") ≡ f → bytes_eq letter (codes "Z") ≡ z → Same letter
      by true l u f z is-h is-l is-u is-f is-z = subst Same (sym (same_text letter (codes "H") is-h)) (kind_of_height key number)
      by false true u f z is-h is-l is-u is-f is-z = subst Same (sym (same_text letter (codes "L") is-l)) (kind_of_low key number)
      by false false true f z is-h is-l is-u is-f is-z = subst Same (sym (same_text letter (codes "U") is-u)) (kind_of_high key number)
      by false false false true z is-h is-l is-u is-f is-z = subst Same (sym (same_text letter (codes "F") is-f)) (kind_of_flow key number)
      by false false false false true is-h is-l is-u is-f is-z = subst Same (sym (same_text letter (codes "Z") is-z)) (kind_of_cost key number)
      by false false false false false is-h is-l is-u is-f is-z = rw (is-h, is-l, is-u, is-f, is-z)

  -- the fault of a record
  pub statement_kind : (row : Fields) → result_err (statement_of draft row) ≡ row_kind version_row above row
  statement_kind [] = refl
  statement_kind (letter ∷ []) = refl
  statement_kind (letter ∷ key ∷ []) = refl
  statement_kind (letter ∷ key ∷ number ∷ []) = said_kind letter key number
  statement_kind (letter ∷ key ∷ number ∷ more ∷ others) = refl

-- one row more
count_of-more : (letter : List ℕ) (above : List Fields) (row : Fields) → count_of letter (above ++ row ∷ []) ≡ count_of letter above + (if is_of letter row then 1 else 0)
count_of-more letter above row =
    let more : count_of letter (above ++ row ∷ []) ≡ count_of letter above + count_of letter (row ∷ []) = sum_by-append (λ row. if is_of letter row then 1 else 0) above (row ∷ []) in
    omega (arith, more)

-- a row of another kind
count_of-other : (letter : List ℕ) (above : List Fields) (row : Fields) (n : ℕ) → is_of letter row ≡ false → n ≡ count_of letter above → n ≡ count_of letter (above ++ row ∷ [])
count_of-other letter above row n other is =
    let more : count_of letter (above ++ row ∷ []) ≡ count_of letter above + 0 = count_of-more letter above row ∙ ap (λ (test : Bool). count_of letter above + (if test then 1 else 0)) other in
    omega (arith, more, is)

-- a row of the kind
count_of-one : (letter : List ℕ) (above : List Fields) (row : Fields) (n : ℕ) → is_of letter row ≡ true → n ≡ count_of letter above → n + 1 ≡ count_of letter (above ++ row ∷ [])
count_of-one letter above row n this is =
    let more : count_of letter (above ++ row ∷ []) ≡ count_of letter above + 1 = count_of-more letter above row ∙ ap (λ (test : Bool). count_of letter above + (if test then 1 else 0)) this in
    omega (arith, more, is)

-- its names
Names : List ℕ → List Fields → HeightRows → Type 0
Names letter above rows = (name : List ℕ) → is_some (lookup (bytes_eq name) rows) ≡ list_any (λ other. is_of letter other && gives_name name other) above

names-other : (letter : List ℕ) (above : List Fields) (row : Fields) (rows : HeightRows) → is_of letter row ≡ false → Names letter above rows → Names letter (above ++ row ∷ []) rows
unfolding Names
names-other letter above row rows other names name =
    names name
    ∙ sym (or-false (list_any (λ other. is_of letter other && gives_name name other) above))
    ∙ ap (λ (test : Bool). list_any (λ other. is_of letter other && gives_name name other) above || ((test && gives_name name row) || false)) (sym other)
    ∙ sym (list_any-append (λ other. is_of letter other && gives_name name other) above (row ∷ []))

-- a row of a height more
is_some-more : (name : List ℕ) (rows : HeightRows) (row : List ℕ × ℤ) → is_some (lookup (bytes_eq name) (rows ++ row ∷ [])) ≡ (is_some (lookup (bytes_eq name) rows) || (bytes_eq name row.0 || false))
is_some-more name [] row = by (bytes_eq name row.0)
  where
    by : (same : Bool) → is_some (if same then Some row.1 else None) ≡ (same || false)
    by true = refl
    by false = refl
is_some-more name (first ∷ rows) row = by (bytes_eq name first.0) (is_some-more name rows row)
  where
    by : (same : Bool) → is_some (lookup (bytes_eq name) (rows ++ row ∷ [])) ≡ (is_some (lookup (bytes_eq name) rows) || (bytes_eq name row.0 || false))
        → is_some (if same then Some first.1 else lookup (bytes_eq name) (rows ++ row ∷ [])) ≡ (is_some (if same then Some first.1 else lookup (bytes_eq name) rows) || (bytes_eq name row.0 || false))
    by true more = refl
    by false more = more

names-one : (letter : List ℕ) (above : List Fields) (row : Fields) (rows : HeightRows) (it : List ℕ × ℤ) → is_of letter row ≡ true → ((name : List ℕ) → gives_name name row ≡ bytes_eq name it.0) → Names letter above rows
    → Names letter (above ++ row ∷ []) (rows ++ it ∷ [])
unfolding Names
names-one letter above row rows it this gives names name =
    is_some-more name rows it
    ∙ ap (λ (test : Bool). test || (bytes_eq name it.0 || false)) (names name)
    ∙ ap (λ (test : Bool). list_any (λ other. is_of letter other && gives_name name other) above || (test || false)) (sym (gives name))
    ∙ ap (λ (test : Bool). list_any (λ other. is_of letter other && gives_name name other) above || ((test && gives_name name row) || false)) (sym this)
    ∙ sym (list_any-append (λ other. is_of letter other && gives_name name other) above (row ∷ []))

-- what a row gives
gives : (letter : List ℕ) (row : Fields) (it : List ℕ × ℤ) → IsHeightRow letter row it → (name : List ℕ) → gives_name name row ≡ bytes_eq name it.0
gives letter row it is name =
    ap (gives_name name) is.fields ∙ ap (λ found. option_map_or (bytes_eq name) found false) is.name

-- what kind a row is of
kind_is : (letter : List ℕ) (row : Fields) (key number : List ℕ) (other : List ℕ) → row ≡ letter ∷ key ∷ number ∷ [] → is_of other row ≡ bytes_eq letter other
kind_is letter row key number other fields = ap (is_of other) fields

-- one thing more
length_more : {A : Type 0} (xs : List A) (x : A) → length (xs ++ x ∷ []) ≡ length xs + 1
length_more xs x = omega (arith, length-append xs (x ∷ []))

module _ (version_row : Fields) (above : List Fields) (draft : Draft) (row : Fields) (tells : Tells version_row above draft) where
  tells_height : (it : List ℕ × ℤ) → IsHeightRow (codes "H") row it → Tells version_row (above ++ row ∷ []) (with_statement draft (Height it.0 it.1))
  unfolding Names
  tells_height it is = record {
    version = tells.version;
    count = tells.count;
    low = count_of-other (codes "L") above row _ (kind_is (codes "H") row is.key is.number (codes "L") is.fields) tells.low;
    high = count_of-other (codes "U") above row _ (kind_is (codes "H") row is.key is.number (codes "U") is.fields) tells.high;
    flows = count_of-other (codes "F") above row _ (kind_is (codes "H") row is.key is.number (codes "F") is.fields) tells.flows;
    cost = tells.cost ∙ ap (λ n. n == 0) (count_of-other (codes "Z") above row _ (kind_is (codes "H") row is.key is.number (codes "Z") is.fields) refl);
    height_names = names-one (codes "H") above row draft.heights it (kind_is (codes "H") row is.key is.number (codes "H") is.fields) (gives (codes "H") row it is) tells.height_names;
    low_names = names-other (codes "L") above row draft.low (kind_is (codes "H") row is.key is.number (codes "L") is.fields) tells.low_names;
    high_names = names-other (codes "U") above row draft.high (kind_is (codes "H") row is.key is.number (codes "U") is.fields) tells.high_names;
  }

  tells_low : (it : List ℕ × ℤ) → IsHeightRow (codes "L") row it → Tells version_row (above ++ row ∷ []) (with_statement draft (Low it.0 it.1))
  unfolding Names
  tells_low it is = record {
    version = tells.version;
    count = tells.count;
    low = length_more draft.low it ∙ count_of-one (codes "L") above row _ (kind_is (codes "L") row is.key is.number (codes "L") is.fields) tells.low;
    high = count_of-other (codes "U") above row _ (kind_is (codes "L") row is.key is.number (codes "U") is.fields) tells.high;
    flows = count_of-other (codes "F") above row _ (kind_is (codes "L") row is.key is.number (codes "F") is.fields) tells.flows;
    cost = tells.cost ∙ ap (λ n. n == 0) (count_of-other (codes "Z") above row _ (kind_is (codes "L") row is.key is.number (codes "Z") is.fields) refl);
    height_names = names-other (codes "H") above row draft.heights (kind_is (codes "L") row is.key is.number (codes "H") is.fields) tells.height_names;
    low_names = names-one (codes "L") above row draft.low it (kind_is (codes "L") row is.key is.number (codes "L") is.fields) (gives (codes "L") row it is) tells.low_names;
    high_names = names-other (codes "U") above row draft.high (kind_is (codes "L") row is.key is.number (codes "U") is.fields) tells.high_names;
  }

  tells_high : (it : List ℕ × ℤ) → IsHeightRow (codes "U") row it → Tells version_row (above ++ row ∷ []) (with_statement draft (High it.0 it.1))
  unfolding Names
  tells_high it is = record {
    version = tells.version;
    count = tells.count;
    low = count_of-other (codes "L") above row _ (kind_is (codes "U") row is.key is.number (codes "L") is.fields) tells.low;
    high = length_more draft.high it ∙ count_of-one (codes "U") above row _ (kind_is (codes "U") row is.key is.number (codes "U") is.fields) tells.high;
    flows = count_of-other (codes "F") above row _ (kind_is (codes "U") row is.key is.number (codes "F") is.fields) tells.flows;
    cost = tells.cost ∙ ap (λ n. n == 0) (count_of-other (codes "Z") above row _ (kind_is (codes "U") row is.key is.number (codes "Z") is.fields) refl);
    height_names = names-other (codes "H") above row draft.heights (kind_is (codes "U") row is.key is.number (codes "H") is.fields) tells.height_names;
    low_names = names-other (codes "L") above row draft.low (kind_is (codes "U") row is.key is.number (codes "L") is.fields) tells.low_names;
    high_names = names-one (codes "U") above row draft.high it (kind_is (codes "U") row is.key is.number (codes "U") is.fields) (gives (codes "U") row it is) tells.high_names;
  }

  tells_flow : (flow : ℤ) (it : ℕ × ℤ) → IsFlowRow row it → Tells version_row (above ++ row ∷ []) (with_statement draft (Flow flow))
  unfolding Names
  tells_flow flow it is = record {
    version = tells.version;
    count = tells.count;
    low = count_of-other (codes "L") above row _ (kind_is (codes "F") row is.key is.number (codes "L") is.fields) tells.low;
    high = count_of-other (codes "U") above row _ (kind_is (codes "F") row is.key is.number (codes "U") is.fields) tells.high;
    flows = length_more draft.flows flow ∙ count_of-one (codes "F") above row _ (kind_is (codes "F") row is.key is.number (codes "F") is.fields) tells.flows;
    cost = tells.cost ∙ ap (λ n. n == 0) (count_of-other (codes "Z") above row _ (kind_is (codes "F") row is.key is.number (codes "Z") is.fields) refl);
    height_names = names-other (codes "H") above row draft.heights (kind_is (codes "F") row is.key is.number (codes "H") is.fields) tells.height_names;
    low_names = names-other (codes "L") above row draft.low (kind_is (codes "F") row is.key is.number (codes "L") is.fields) tells.low_names;
    high_names = names-other (codes "U") above row draft.high (kind_is (codes "F") row is.key is.number (codes "U") is.fields) tells.high_names;
  }

  tells_cost : (cost : ℕ) → IsCostRow row cost → Tells version_row (above ++ row ∷ []) (with_statement draft (Cost cost))
  unfolding Names
  tells_cost cost is = record {
    version = tells.version;
    count = tells.count;
    low = count_of-other (codes "L") above row _ (kind_is (codes "Z") row (codes "cost") is.number (codes "L") is.fields) tells.low;
    high = count_of-other (codes "U") above row _ (kind_is (codes "Z") row (codes "cost") is.number (codes "U") is.fields) tells.high;
    flows = count_of-other (codes "F") above row _ (kind_is (codes "Z") row (codes "cost") is.number (codes "F") is.fields) tells.flows;
    cost = some_cost (count_of-one (codes "Z") above row _ (kind_is (codes "Z") row (codes "cost") is.number (codes "Z") is.fields) refl);
    height_names = names-other (codes "H") above row draft.heights (kind_is (codes "Z") row (codes "cost") is.number (codes "H") is.fields) tells.height_names;
    low_names = names-other (codes "L") above row draft.low (kind_is (codes "Z") row (codes "cost") is.number (codes "L") is.fields) tells.low_names;
    high_names = names-other (codes "U") above row draft.high (kind_is (codes "Z") row (codes "cost") is.number (codes "U") is.fields) tells.high_names;
  }
    where
      some_cost : count_of (codes "Z") above + 1 ≡ count_of (codes "Z") (above ++ row ∷ []) → false ≡ (count_of (codes "Z") (above ++ row ∷ []) == 0)
      some_cost more = sym (grind (arith, nat_tests, more))

  -- whatever the row says
  tells_said : (statement : Statement) → IsSaid draft row statement → Tells version_row (above ++ row ∷ []) (with_statement draft statement)
  tells_said (Height name height) is = tells_height (name, height) is.1.reads
  tells_said (Low name height) is = tells_low (name, height) is.1.reads
  tells_said (High name height) is = tells_high (name, height) is.1.reads
  tells_said (Flow flow) is = tells_flow flow (length draft.flows + 1, flow) is.1
  tells_said (Cost cost) is = tells_cost cost is.1

  pub tells_more : (statement : Statement) → statement_of draft row ≡ Ok statement → Tells version_row (above ++ row ∷ []) (with_statement draft statement)
  tells_more statement says = tells_said statement (statement_known draft row statement says)

-- the version row
version_of : (key : List ℕ) → is_some (version_in key) ≡ (bytes_eq key (codes "1") || bytes_eq key (codes "2"))
version_of key = by (bytes_eq key (codes "1")) (bytes_eq key (codes "2"))
  where
    by : (one two : Bool) → is_some {T = ℕ} (if one then Some 1 else (if two then Some 2 else None)) ≡ (one || two)
    by true two = refl
    by false true = refl
    by false false = refl

counted_kind : (version : Option ℕ) (count : Result ℕ CertKind) (formed small : Bool) → result_err count ≡ first_unmet true true true formed small
    → result_err (counted version count) ≡ first_unmet true (is_some version) true formed small
counted_kind None count formed small is = refl
counted_kind (Some version) (Ok count) formed small is = is
counted_kind (Some version) (Err kind) formed small is = is

pub begun_kind : (row : Fields) → result_err (begun row) ≡ version_kind row
begun_kind [] = refl
begun_kind (letter ∷ []) = refl
begun_kind (letter ∷ key ∷ []) = refl
begun_kind (letter ∷ key ∷ text ∷ []) =
    counted_kind (if bytes_eq letter (codes "V") then version_in key else None) (count_in text) (are_digits text) (nat_le (length text) max_digits && nat_le (number text) max_flows)
    (formed_kind (are_digits text) (nat_le (length text) max_digits && nat_le (number text) max_flows) (number text))
    ∙ ap (λ stands. first_unmet true stands true (are_digits text) (nat_le (length text) max_digits && nat_le (number text) max_flows)) (stands (bytes_eq letter (codes "V")))
  where
    stands : (is_v : Bool) → is_some (if is_v then version_in key else None) ≡ (is_v && (bytes_eq key (codes "1") || bytes_eq key (codes "2")))
    stands true = version_of key
    stands false = refl
begun_kind (letter ∷ key ∷ text ∷ more ∷ others) = refl

-- a count that is read is what the digits write
count_is : (text : List ℕ) (count : ℕ) → count_in text ≡ Ok count → count ≡ number text
count_is text count h = by (are_digits text) (nat_le (length text) max_digits && nat_le (number text) max_flows) h
  where
    by : (formed small : Bool) → (if formed then (if small then Ok (number text) else Err TooLarge) else Err BadNumber) ≡ Ok count → count ≡ number text
    by false small h = cc h
    by true false h = cc h
    by true true h =
        let same : number text ≡ count = cc h in
        sym same

-- a version that is read is 2 where its key is
version_is : (key : List ℕ) (version : ℕ) → version_in key ≡ Some version → (version == 2) ≡ bytes_eq key (codes "2")
version_is key version h = by (bytes_eq key (codes "1")) (bytes_eq key (codes "2")) refl refl h
  where
    by : (one two : Bool) → bytes_eq key (codes "1") ≡ one → bytes_eq key (codes "2") ≡ two → (if one then Some 1 else (if two then Some 2 else None)) ≡ Some version → (version == 2) ≡ bytes_eq key (codes "2")
    by true two is is' h =
        let same : 1 ≡ version = cc h in
        let other : bytes_eq key (codes "2") ≡ false = ap (λ key. bytes_eq key (codes "2")) (same_text key (codes "1") is) in
        ap (λ version. version == 2) (sym same) ∙ sym other
    by false true is is' h =
        let same : 2 ≡ version = cc h in
        ap (λ version. version == 2) (sym same) ∙ sym is'
    by false false is is' h = cc h

-- nothing was said yet
pub tells_begun : (row : Fields) (draft : Draft) → begun row ≡ Ok draft → Tells row [] draft
tells_begun row draft h = from (begins row draft h)
  where
    from : Begins row draft → Tells row [] draft
    from it = subst (Tells row []) (sym it.empty) (record {
      version = version_is it.row_is.key it.version it.row_is.says ∙ ap is_of_version_2 (sym it.row_is.fields);
      count = count_is it.row_is.number it.count it.row_is.counts ∙ ap flow_count (sym it.row_is.fields);
      low = refl;
      high = refl;
      flows = refl;
      cost = refl;
      height_names = λ name. refl;
      low_names = λ name. refl;
      high_names = λ name. refl;
    })
