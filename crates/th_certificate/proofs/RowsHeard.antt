-- What is read as a certificate has its rows.
use Rattle.std.proofs.Common.{◌≡◌, ◌≤◌, ◌+◌, ◌++◌, ℕ, ℤ, ◌&&◌, ◌==◌, Bool, true, false, if◌then◌else◌, List, [], ◌∷◌, length, Option, Some, None, is_none, is_some, Result, Ok, Err, bytes_eq, codes, nat_lt, refl, sym, ap, subst, ◌∙◌, append_assoc, arith}
use Rattle.std.specs.Map.{lookup}
use Rattle.std.specs.List.{enumerate_from}
use Rattle.std.proofs.lemmas.Bool.Decides.{nat_tests}
use Rattle.std.proofs.lemmas.Slice.Eq.{bytes_eq-Decides}
use Rattle.std.proofs.lemmas.List.{nil_from_length}
use Rattle.gsi_word.specs.Names.{name_of}
use Rattle.th_csv.specs.Records.{Fields, records_of}
use Rattle.th_tables.proofs.TableLemmas.{none_from_test}
use Rattle.th_certificate.specs.Certified.{Certified, HeightRows}
use Rattle.th_certificate.specs.Faults.{too_long}
use Rattle.th_certificate.specs.Numbers.{cost_in, count_in, flow_in, height_in}
use Rattle.th_certificate.specs.Reading.{after, certificate_after, certificate_in, certificate_of, certificate_under, ended, in_version_2, is_header}
use Rattle.th_certificate.specs.Limits.{max_certificate}
use Rattle.th_certificate.specs.Rows.{IsCertificate, IsCostRow, IsFlowRow, IsHeightRow, IsVersionRow, SayFlows, SayHeights, SaySpans}
use Rattle.th_certificate.specs.Statements.{Draft, begun, counted, empty_draft, may_have_cost, may_have_flow, may_have_height, may_have_high, may_have_low, new_name, row_in, row_of, said, statement_of, version_in, with_statement}
use Rattle.th_certificate.specs.Texts.{header_row}
use Rattle.th_certificate.specs.declared.faults.CertKind.{CertKind}
use Rattle.th_certificate.specs.declared.faults.CertKind.TheVariants.{BadHeader, BadName}
use Rattle.th_certificate.specs.declared.statements.Statement.{Statement}
use Rattle.th_certificate.specs.declared.statements.Statement.TheVariants.{Height, Low, High, Flow, Cost}
use Rattle.th_certificate.proofs.NumberLemmas.{first_of, second_of}
use Rattle.th_certificate.proofs.StatementLemmas.{either_of, states_of}
use Rattle.th_certificate.proofs.RowLemmas.{AllZip-none, SayFlows-more, SayHeights-more, distinct-none, more_before_none, none_and_none}

-- a field that is just this text
pub same_text : (field text : List ℕ) → bytes_eq field text ≡ true → field ≡ text
same_text field text h = (bytes_eq-Decides field text).0 h

-- a row of a name that none of the earlier ones has
pub record IsNext (letter : List ℕ) (earlier : HeightRows) (row : Fields) (it : List ℕ × ℤ) : Type 0 where
  pub reads : IsHeightRow letter row it
  pub new : lookup (bytes_eq it.0) earlier ≡ None

-- what is known of a record and the statement that it makes after a draft
abbrev pub IsSaid : Draft → Fields → Statement → Type 0
IsSaid draft row (Height name height) = (may_have_height draft ≡ true) × IsNext (codes "H") draft.heights row (name, height)
IsSaid draft row (Low name height) = (may_have_low draft ≡ true) × IsNext (codes "L") draft.low row (name, height)
IsSaid draft row (High name height) = (may_have_high draft ≡ true) × IsNext (codes "U") draft.high row (name, height)
IsSaid draft row (Flow flow) = (may_have_flow draft ≡ true) × IsFlowRow row (length draft.flows + 1, flow)
IsSaid draft row (Cost cost) = (may_have_cost draft ≡ true) × IsCostRow row cost

-- a row that can be read
next_row : (letter kind key number : List ℕ) (earlier : HeightRows) (it : List ℕ × ℤ) → kind ≡ letter → row_in earlier key number ≡ Ok it → IsNext letter earlier (kind ∷ key ∷ number ∷ []) it
next_row letter kind key number earlier it same h = by (name_of key) refl h
  where
    found : (name : List ℕ) (there : Bool) (height : Result ℤ CertKind) → name_of key ≡ Some name → is_some (lookup (bytes_eq name) earlier) ≡ there → height_in number ≡ height
        → row_of (if there then Err BadName else Ok name) height ≡ Ok it → IsNext letter earlier (kind ∷ key ∷ number ∷ []) it
    found name true height is is' is'' h = cc h
    found name false (Err fault) is is' is'' h = cc h
    found name false (Ok height) is is' is'' h =
        let same_row : (name, height) ≡ it = cc in
        subst (IsNext letter earlier (kind ∷ key ∷ number ∷ [])) same_row (record {
          reads = record { key = key; number = number; fields = ap (λ kind. kind ∷ key ∷ number ∷ []) same; name = is; height = is'' };
          new = none_from_test (lookup (bytes_eq name) earlier) is';
        })

    by : (name : Option (List ℕ)) → name_of key ≡ name → row_of (new_name earlier name) (height_in number) ≡ Ok it → IsNext letter earlier (kind ∷ key ∷ number ∷ []) it
    by None is h = cc h
    by (Some name) is h = found name (is_some (lookup (bytes_eq name) earlier)) (height_in number) is refl refl h

-- a record of three fields that says something
said_known : (draft : Draft) (kind key number : List ℕ) (statement : Statement) → said draft kind key number ≡ Ok statement → IsSaid draft (kind ∷ key ∷ number ∷ []) statement
said_known draft kind key number statement h =
    let row : Fields = kind ∷ key ∷ number ∷ [] in
    let P : Type 0 = IsSaid draft row statement in
    either_of (bytes_eq kind (codes "H") && may_have_height draft) _ _ statement P h
    (λ test read. states_of _ (row_in draft.heights key number) statement (IsSaid draft row) read (λ it is. (second_of _ _ test, next_row (codes "H") kind key number draft.heights it (same_text kind (codes "H") (first_of _ _ test)) is))) (λ h.
    either_of (bytes_eq kind (codes "L") && may_have_low draft) _ _ statement P h
    (λ test read. states_of _ (row_in draft.low key number) statement (IsSaid draft row) read (λ it is. (second_of _ _ test, next_row (codes "L") kind key number draft.low it (same_text kind (codes "L") (first_of _ _ test)) is))) (λ h.
    either_of (bytes_eq kind (codes "U") && may_have_high draft) _ _ statement P h
    (λ test read. states_of _ (row_in draft.high key number) statement (IsSaid draft row) read (λ it is. (second_of _ _ test, next_row (codes "U") kind key number draft.high it (same_text kind (codes "U") (first_of _ _ test)) is))) (λ h.
    either_of (bytes_eq kind (codes "F") && may_have_flow draft) _ _ statement P h
    (λ test read. states_of Flow (flow_in (length draft.flows + 1) key number) statement (IsSaid draft row) read (λ flow is. (
      second_of (bytes_eq kind (codes "F")) (may_have_flow draft) test,
      record { key = key; number = number; fields = ap (λ kind. kind ∷ key ∷ number ∷ []) (same_text kind (codes "F") (first_of (bytes_eq kind (codes "F")) (may_have_flow draft) test)); flow = is },
    ))) (λ h.
    either_of (bytes_eq kind (codes "Z") && (may_have_cost draft && bytes_eq key (codes "cost"))) _ _ statement P h
    (λ test read. states_of Cost (cost_in number) statement (IsSaid draft row) read (λ cost is. (
      first_of (may_have_cost draft) (bytes_eq key (codes "cost")) (second_of (bytes_eq kind (codes "Z")) (may_have_cost draft && bytes_eq key (codes "cost")) test),
      record {
        number = number;
        fields =
            ap (λ kind. kind ∷ key ∷ number ∷ []) (same_text kind (codes "Z") (first_of (bytes_eq kind (codes "Z")) (may_have_cost draft && bytes_eq key (codes "cost")) test))
            ∙ ap (λ key. codes "Z" ∷ key ∷ number ∷ []) (same_text key (codes "cost") (second_of (may_have_cost draft) (bytes_eq key (codes "cost")) (second_of (bytes_eq kind (codes "Z")) (may_have_cost draft && bytes_eq key (codes "cost")) test)));
        costs = is;
      },
    )))
    (λ h. cc h)))))

-- a record that says something
pub statement_known : (draft : Draft) (row : Fields) (statement : Statement) → statement_of draft row ≡ Ok statement → IsSaid draft row statement
statement_known draft [] statement h = cc h
statement_known draft (kind ∷ []) statement h = cc h
statement_known draft (kind ∷ key ∷ []) statement h = cc h
statement_known draft (kind ∷ key ∷ number ∷ []) statement h = said_known draft kind key number statement h
statement_known draft (kind ∷ key ∷ number ∷ more ∷ others) statement h = cc h

-- nothing is said after the cost
pub before_cost : (draft : Draft) (row : Fields) (statement : Statement) → IsSaid draft row statement → is_none draft.cost ≡ true
before_cost draft row (Height name height) is = first_of (is_none draft.cost) _ is.0
before_cost draft row (Low name height) is = first_of (is_none draft.cost) _ (first_of (may_have_high draft) _ is.0)
before_cost draft row (High name height) is = first_of (is_none draft.cost) _ is.0
before_cost draft row (Flow flow) is = first_of (is_none draft.cost) _ is.0
before_cost draft row (Cost cost) is = first_of (is_none draft.cost) _ is.0

-- so no record stands after it
none_after_cost : (left : List Fields) (number : ℕ) (draft : Draft) (cost : ℕ) (it : Certified) → draft.cost ≡ Some cost → certificate_after left number draft ≡ Ok it → (left ≡ []) × (ended number draft (Some cost) ≡ Ok it)
none_after_cost [] number draft cost it is h = (refl, ap (ended number draft) (sym is) ∙ h)
none_after_cost (this ∷ left) number draft cost it is h = by (statement_of draft this) refl h
  where
    by : (says : Result Statement CertKind) → statement_of draft this ≡ says → after number (λ statement. certificate_after left (number + 1) (with_statement draft statement)) says ≡ Ok it
        → (this ∷ left ≡ []) × (ended number draft (Some cost) ≡ Ok it)
    by (Err kind) says h = cc h
    by (Ok statement) says h =
        let open_yet : is_none draft.cost ≡ true = before_cost draft this statement (statement_known draft this statement says) in
        let closed : is_none draft.cost ≡ false = ap is_none is in
        absurd (cc (open_yet, closed))

-- what the records so far said is the draft, which has no cost yet
record AreHeard (done : List Fields) (draft : Draft) : Type 0 where
  height_rows : List Fields
  low_rows : List Fields
  high_rows : List Fields
  flow_rows : List Fields
  order : done ≡ height_rows ++ (low_rows ++ (high_rows ++ flow_rows))
  heights : SayHeights (codes "H") height_rows draft.heights
  low : SayHeights (codes "L") low_rows draft.low
  high : SayHeights (codes "U") high_rows draft.high
  flows : SayFlows flow_rows draft.flows
  unclosed : draft.cost ≡ None
  known : (1 ≤ draft.version) × (draft.version ≤ 2)
  no_spans : draft.version ≡ 1 → (draft.low ≡ []) × (draft.high ≡ [])

-- a list of no length
nothing : {A : Type 0} (xs : List A) → (length xs == 0) ≡ true → xs ≡ []
nothing xs h =
    let none : length xs ≡ 0 = grind (arith, nat_tests) in
    nil_from_length xs none

-- no rows say no heights, and no flows
no_heights : (letter : List ℕ) (rows : List Fields) (heights : HeightRows) → SayHeights letter rows heights → heights ≡ [] → rows ≡ []
no_heights letter rows heights say none = AllZip-none (IsHeightRow letter) rows heights say.each none

no_flows : (rows : List Fields) (flows : List ℤ) → SayFlows rows flows → flows ≡ [] → rows ≡ []
no_flows rows flows say none = AllZip-none IsFlowRow rows (enumerate_from 1 flows) say (ap (enumerate_from 1) none)

-- a draft of version 2 is not one of version 1
other_version : {P : Type 0} (version : ℕ) → (version == 2) ≡ true → version ≡ 1 → P
other_version version two one = absurd (grind (arith, nat_tests))

module _ (done : List Fields) (draft : Draft) (this : Fields) (heard : AreHeard done draft) where
  -- one row of a height more
  heard_height : (name : List ℕ) (height : ℤ) → IsSaid draft this (Height name height) → AreHeard (done ++ this ∷ []) (with_statement draft (Height name height))
  heard_height name height is =
      let after_cost = second_of (is_none draft.cost) _ is.0 in
      let after_flows = second_of (length draft.flows == 0) _ after_cost in
      let no_flow = nothing draft.flows (first_of (length draft.flows == 0) _ after_cost) in
      let no_high = nothing draft.high (first_of (length draft.high == 0) _ after_flows) in
      let no_low = nothing draft.low (second_of (length draft.high == 0) _ after_flows) in
      let last = none_and_none heard.high_rows heard.flow_rows (no_heights (codes "U") heard.high_rows draft.high heard.high no_high) (no_flows heard.flow_rows draft.flows heard.flows no_flow) in
      let rest = none_and_none heard.low_rows (heard.high_rows ++ heard.flow_rows) (no_heights (codes "L") heard.low_rows draft.low heard.low no_low) last in
      record {
        height_rows = heard.height_rows ++ this ∷ [];
        low_rows = heard.low_rows;
        high_rows = heard.high_rows;
        flow_rows = heard.flow_rows;
        order = ap (λ done. done ++ this ∷ []) heard.order ∙ more_before_none heard.height_rows (heard.low_rows ++ (heard.high_rows ++ heard.flow_rows)) this rest;
        heights = SayHeights-more (codes "H") heard.height_rows draft.heights this (name, height) heard.heights is.1.reads is.1.new;
        low = heard.low;
        high = heard.high;
        flows = heard.flows;
        unclosed = heard.unclosed;
        known = heard.known;
        no_spans = heard.no_spans;
      }

  -- one of a lowest height
  heard_low : (name : List ℕ) (height : ℤ) → IsSaid draft this (Low name height) → AreHeard (done ++ this ∷ []) (with_statement draft (Low name height))
  heard_low name height is =
      let after_cost = second_of (is_none draft.cost) _ (first_of (may_have_high draft) _ is.0) in
      let no_flow = nothing draft.flows (first_of (length draft.flows == 0) _ after_cost) in
      let no_high = nothing draft.high (second_of (may_have_high draft) _ is.0) in
      let rest = none_and_none heard.high_rows heard.flow_rows (no_heights (codes "U") heard.high_rows draft.high heard.high no_high) (no_flows heard.flow_rows draft.flows heard.flows no_flow) in
      let two = second_of (length draft.flows == 0) _ after_cost in
      record {
        height_rows = heard.height_rows;
        low_rows = heard.low_rows ++ this ∷ [];
        high_rows = heard.high_rows;
        flow_rows = heard.flow_rows;
        order =
            ap (λ done. done ++ this ∷ []) heard.order
            ∙ append_assoc heard.height_rows (heard.low_rows ++ (heard.high_rows ++ heard.flow_rows)) (this ∷ [])
            ∙ ap (λ rows. heard.height_rows ++ rows) (more_before_none heard.low_rows (heard.high_rows ++ heard.flow_rows) this rest);
        heights = heard.heights;
        low = SayHeights-more (codes "L") heard.low_rows draft.low this (name, height) heard.low is.1.reads is.1.new;
        high = heard.high;
        flows = heard.flows;
        unclosed = heard.unclosed;
        known = heard.known;
        no_spans = λ one. other_version draft.version two one;
      }

  -- one of a highest height
  heard_high : (name : List ℕ) (height : ℤ) → IsSaid draft this (High name height) → AreHeard (done ++ this ∷ []) (with_statement draft (High name height))
  heard_high name height is =
      let after_cost = second_of (is_none draft.cost) _ is.0 in
      let no_flow = nothing draft.flows (first_of (length draft.flows == 0) _ after_cost) in
      let two = second_of (length draft.flows == 0) _ after_cost in
      record {
        height_rows = heard.height_rows;
        low_rows = heard.low_rows;
        high_rows = heard.high_rows ++ this ∷ [];
        flow_rows = heard.flow_rows;
        order =
            ap (λ done. done ++ this ∷ []) heard.order
            ∙ append_assoc heard.height_rows (heard.low_rows ++ (heard.high_rows ++ heard.flow_rows)) (this ∷ [])
            ∙ ap (λ rows. heard.height_rows ++ rows) (append_assoc heard.low_rows (heard.high_rows ++ heard.flow_rows) (this ∷ []))
            ∙ ap (λ rows. heard.height_rows ++ (heard.low_rows ++ rows)) (more_before_none heard.high_rows heard.flow_rows this (no_flows heard.flow_rows draft.flows heard.flows no_flow));
        heights = heard.heights;
        low = heard.low;
        high = SayHeights-more (codes "U") heard.high_rows draft.high this (name, height) heard.high is.1.reads is.1.new;
        flows = heard.flows;
        unclosed = heard.unclosed;
        known = heard.known;
        no_spans = λ one. other_version draft.version two one;
      }

  -- whatever stands last stands after the flows
  last_of_all : done ++ this ∷ [] ≡ heard.height_rows ++ (heard.low_rows ++ (heard.high_rows ++ (heard.flow_rows ++ this ∷ [])))
  last_of_all =
      ap (λ done. done ++ this ∷ []) heard.order
      ∙ append_assoc heard.height_rows (heard.low_rows ++ (heard.high_rows ++ heard.flow_rows)) (this ∷ [])
      ∙ ap (λ rows. heard.height_rows ++ rows) (append_assoc heard.low_rows (heard.high_rows ++ heard.flow_rows) (this ∷ []))
      ∙ ap (λ rows. heard.height_rows ++ (heard.low_rows ++ rows)) (append_assoc heard.high_rows heard.flow_rows (this ∷ []))

  -- one of a flow
  heard_flow : (flow : ℤ) → IsSaid draft this (Flow flow) → AreHeard (done ++ this ∷ []) (with_statement draft (Flow flow))
  heard_flow flow is = record {
    height_rows = heard.height_rows;
    low_rows = heard.low_rows;
    high_rows = heard.high_rows;
    flow_rows = heard.flow_rows ++ this ∷ [];
    order = last_of_all;
    heights = heard.heights;
    low = heard.low;
    high = heard.high;
    flows = SayFlows-more heard.flow_rows draft.flows this flow heard.flows is.1;
    unclosed = heard.unclosed;
    known = heard.known;
    no_spans = heard.no_spans;
  }

-- the rows under the version row
record AreUnder (records : List Fields) (version count : ℕ) (it : Certified) : Type 0 where
  height_rows : List Fields
  low_rows : List Fields
  high_rows : List Fields
  flow_rows : List Fields
  cost_row : Fields
  order : records ≡ height_rows ++ (low_rows ++ (high_rows ++ (flow_rows ++ cost_row ∷ [])))
  same_version : version ≡ it.version
  same_count : count ≡ length it.flows
  heights : SayHeights (codes "H") height_rows it.heights
  low : SaySpans it.version (codes "L") low_rows it.low
  high : SaySpans it.version (codes "U") high_rows it.high
  flows : SayFlows flow_rows it.flows
  cost : IsCostRow cost_row it.cost

-- the rows of a version that may have none
spans_heard : (version : ℕ) (letter : List ℕ) (rows : List Fields) (heights : HeightRows) → (1 ≤ version) × (version ≤ 2) → SayHeights letter rows heights → (version ≡ 1 → heights ≡ []) → SaySpans version letter rows (in_version_2 version heights)
spans_heard version letter rows heights known say none = by (version == 2) refl
  where
    by : (two : Bool) → (version == 2) ≡ two → SaySpans version letter rows (if two then Some heights else None)
    by true is =
        let two : version ≡ 2 = grind (arith, nat_tests) in
        (two, say)
    by false is =
        let one : version ≡ 1 = grind (arith, nat_tests, known.0, known.1) in
        (one, no_heights letter rows heights say (none one))

-- the cost ends the rows
heard_cost : (done : List Fields) (draft : Draft) (this : Fields) (cost number : ℕ) (it : Certified) → AreHeard done draft → IsSaid draft this (Cost cost)
    → ended number (record draft { cost = Some cost }) (Some cost) ≡ Ok it → AreUnder (done ++ this ∷ []) draft.version draft.count it
heard_cost done draft this cost number it heard is h =
    let made : Certified = record { version = draft.version; heights = draft.heights; low = in_version_2 draft.version draft.low; high = in_version_2 draft.version draft.high; flows = draft.flows; cost = cost } in
    let same : made ≡ it = cc h in
    let full : (length draft.flows == draft.count) ≡ true = second_of (is_none draft.cost) _ is.0 in
    subst (AreUnder (done ++ this ∷ []) draft.version draft.count) same (record {
      height_rows = heard.height_rows;
      low_rows = heard.low_rows;
      high_rows = heard.high_rows;
      flow_rows = heard.flow_rows;
      cost_row = this;
      order = last_of_all done draft this heard;
      same_version = refl;
      same_count = grind (arith, nat_tests);
      heights = heard.heights;
      low = spans_heard draft.version (codes "L") heard.low_rows draft.low heard.known heard.low (λ one. (heard.no_spans one).0);
      high = spans_heard draft.version (codes "U") heard.high_rows draft.high heard.known heard.high (λ one. (heard.no_spans one).1);
      flows = heard.flows;
      cost = is.1;
    })

-- what is read after what was heard
rows_after : (done left : List Fields) (number : ℕ) (draft : Draft) (it : Certified) → AreHeard done draft → certificate_after left number draft ≡ Ok it → AreUnder (done ++ left) draft.version draft.count it
rows_after done [] number draft it heard h =
    let none : ended number draft None ≡ Ok it = ap (ended number draft) (sym heard.unclosed) ∙ h in
    absurd (cc none)
rows_after done (this ∷ left) number draft it heard h = by (statement_of draft this) refl h (λ (next : Draft). rows_after (done ++ this ∷ []) left (number + 1) next it)
  where
    moved : (version count : ℕ) → AreUnder ((done ++ this ∷ []) ++ left) version count it → AreUnder (done ++ this ∷ left) version count it
    moved version count are = subst (λ records. AreUnder records version count it) (append_assoc done (this ∷ []) left) are

    closed : (cost : ℕ) → IsSaid draft this (Cost cost) → (left ≡ []) × (ended (number + 1) (record draft { cost = Some cost }) (Some cost) ≡ Ok it) → AreUnder (done ++ this ∷ left) draft.version draft.count it
    closed cost is end =
        subst (λ left. AreUnder (done ++ this ∷ left) draft.version draft.count it) (sym end.0) (heard_cost done draft this cost (number + 1) it heard is end.1)

    by : (says : Result Statement CertKind) → statement_of draft this ≡ says → after number (λ statement. certificate_after left (number + 1) (with_statement draft statement)) says ≡ Ok it
        → ((next : Draft) → AreHeard (done ++ this ∷ []) next → certificate_after left (number + 1) next ≡ Ok it → AreUnder ((done ++ this ∷ []) ++ left) next.version next.count it)
        → AreUnder (done ++ this ∷ left) draft.version draft.count it
    by (Err kind) is h more = cc h
    by (Ok (Height name height)) is h more =
        moved draft.version draft.count (more (with_statement draft (Height name height)) (heard_height done draft this heard name height (statement_known draft this (Height name height) is)) h)
    by (Ok (Low name height)) is h more =
        moved draft.version draft.count (more (with_statement draft (Low name height)) (heard_low done draft this heard name height (statement_known draft this (Low name height) is)) h)
    by (Ok (High name height)) is h more =
        moved draft.version draft.count (more (with_statement draft (High name height)) (heard_high done draft this heard name height (statement_known draft this (High name height) is)) h)
    by (Ok (Flow flow)) is h more =
        moved draft.version draft.count (more (with_statement draft (Flow flow)) (heard_flow done draft this heard flow (statement_known draft this (Flow flow) is)) h)
    by (Ok (Cost cost)) is h more =
        closed cost (statement_known draft this (Cost cost) is) (none_after_cost left (number + 1) (with_statement draft (Cost cost)) cost it refl h)

-- a version row begins an empty draft
pub record Begins (row : Fields) (draft : Draft) : Type 0 where
  pub version : ℕ
  pub count : ℕ
  pub empty : draft ≡ empty_draft version count
  pub known : (1 ≤ version) × (version ≤ 2)
  pub row_is : IsVersionRow row version count

-- a version that is read is 1 or 2
version_known : (key : List ℕ) (version : ℕ) → version_in key ≡ Some version → (1 ≤ version) × (version ≤ 2)
version_known key version h = by (bytes_eq key (codes "1")) (bytes_eq key (codes "2")) h
  where
    by : (one two : Bool) → (if one then Some 1 else (if two then Some 2 else None)) ≡ Some version → (1 ≤ version) × (version ≤ 2)
    by true two h =
        let same : 1 ≡ version = cc h in
        (omega (arith, same), omega (arith, same))
    by false true h =
        let same : 2 ≡ version = cc h in
        (omega (arith, same), omega (arith, same))
    by false false h = cc h

-- the draft that is begun
pub begins : (row : Fields) (draft : Draft) → begun row ≡ Ok draft → Begins row draft
begins [] draft h = cc h
begins (kind ∷ []) draft h = cc h
begins (kind ∷ key ∷ []) draft h = cc h
begins (kind ∷ key ∷ number ∷ more ∷ others) draft h = cc h
begins (kind ∷ key ∷ number ∷ []) draft h = by (bytes_eq kind (codes "V")) (version_in key) (count_in number) refl refl refl h
  where
    by : (is_v : Bool) (found : Option ℕ) (count : Result ℕ CertKind) → bytes_eq kind (codes "V") ≡ is_v → version_in key ≡ found → count_in number ≡ count
        → counted (if is_v then found else None) count ≡ Ok draft → Begins (kind ∷ key ∷ number ∷ []) draft
    by false found count is is' is'' h = cc h
    by true None count is is' is'' h = cc h
    by true (Some version) (Err fault) is is' is'' h = cc h
    by true (Some version) (Ok count) is is' is'' h =
        let same : empty_draft version count ≡ draft = cc h in
        record {
          version = version;
          count = count;
          empty = sym same;
          known = version_known key version is';
          row_is = record { key = key; number = number; fields = ap (λ kind. kind ∷ key ∷ number ∷ []) (same_text kind (codes "V") is); says = is'; counts = is'' };
        }

-- nothing was heard yet
none_heard : (version count : ℕ) → (1 ≤ version) × (version ≤ 2) → AreHeard [] (empty_draft version count)
none_heard version count known = record {
  height_rows = [];
  low_rows = [];
  high_rows = [];
  flow_rows = [];
  order = refl;
  heights = record { each = tt; distinct = distinct-none };
  low = record { each = tt; distinct = distinct-none };
  high = record { each = tt; distinct = distinct-none };
  flows = tt;
  unclosed = refl;
  known = known;
  no_spans = λ one. (refl, refl);
}

-- the header
pub header_known : (row : Fields) → is_header row ≡ true → row ≡ header_row
header_known [] h = cc h
header_known (kind ∷ []) h = cc h
header_known (kind ∷ key ∷ []) h = cc h
header_known (kind ∷ key ∷ number ∷ more ∷ others) h = cc h
header_known (kind ∷ key ∷ number ∷ []) h =
    let later = second_of (bytes_eq kind (codes "kind")) _ h in
    ap (λ kind. kind ∷ key ∷ number ∷ []) (same_text kind (codes "kind") (first_of (bytes_eq kind (codes "kind")) _ h))
    ∙ ap (λ key. codes "kind" ∷ key ∷ number ∷ []) (same_text key (codes "key") (first_of (bytes_eq key (codes "key")) _ later))
    ∙ ap (λ number. codes "kind" ∷ codes "key" ∷ number ∷ []) (same_text number (codes "value") (second_of (bytes_eq key (codes "key")) _ later))

-- the rows of all records
are_rows : (records : List Fields) (it : Certified) → certificate_in records ≡ Ok it → IsCertificate records it
are_rows [] it h = cc h
are_rows (first ∷ []) it h = by (is_header first) h
  where
    by : (header : Bool) → (if header then certificate_under [] else Err (record { row = 1; kind = BadHeader })) ≡ Ok it → IsCertificate (first ∷ []) it
    by true h = cc h
    by false h = cc h
are_rows (first ∷ second ∷ rest) it h = by (is_header first) refl h
  where
    all : first ≡ header_row → (draft : Draft) (begin : Begins second draft) → AreUnder rest begin.version begin.count it → IsCertificate (first ∷ second ∷ rest) it
    all header draft begin under = record {
      version_row = second;
      height_rows = under.height_rows;
      low_rows = under.low_rows;
      high_rows = under.high_rows;
      flow_rows = under.flow_rows;
      cost_row = under.cost_row;
      order = ap (λ first. first ∷ second ∷ rest) header ∙ ap (λ rest. header_row ∷ second ∷ rest) under.order;
      version =
          subst (λ count. IsVersionRow second it.version count) under.same_count
          (subst (λ version. IsVersionRow second version begin.count) under.same_version begin.row_is);
      heights = under.heights;
      low = under.low;
      high = under.high;
      flows = under.flows;
      cost = under.cost;
    }

    under : first ≡ header_row → (says : Result Draft CertKind) → begun second ≡ says → after 2 (certificate_after rest 3) says ≡ Ok it → IsCertificate (first ∷ second ∷ rest) it
    under header (Err kind) is h = cc h
    under header (Ok draft) is h =
        let begin : Begins second draft = begins second draft is in
        let read : certificate_after rest 3 (empty_draft begin.version begin.count) ≡ Ok it = ap (certificate_after rest 3) (sym begin.empty) ∙ h in
        all header draft begin (rows_after [] rest 3 (empty_draft begin.version begin.count) it (none_heard begin.version begin.count begin.known) read)

    by : (header : Bool) → is_header first ≡ header → (if header then certificate_under (second ∷ rest) else Err (record { row = 1; kind = BadHeader })) ≡ Ok it → IsCertificate (first ∷ second ∷ rest) it
    by false is h = cc h
    by true is h = under (header_known first is) (begun second) refl h

-- bytes that are read as a certificate are not too many, and have its rows
pub rows_of_read : (bytes : List ℕ) (it : Certified) → certificate_of bytes ≡ Ok it → (length bytes ≤ max_certificate) × IsCertificate (records_of bytes) it
rows_of_read bytes it h = by (nat_lt max_certificate (length bytes)) refl h
  where
    by : (long : Bool) → nat_lt max_certificate (length bytes) ≡ long → (if long then Err too_long else certificate_in (records_of bytes)) ≡ Ok it → (length bytes ≤ max_certificate) × IsCertificate (records_of bytes) it
    by true is h = cc h
    by false is h = (grind (arith, nat_tests), are_rows (records_of bytes) it h)
