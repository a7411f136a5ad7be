-- The rows of a certificate are read as what they say.
use Rattle.std.proofs.Common.{◌≡◌, ◌≤◌, ◌+◌, ◌++◌, ℕ, ℤ, ◌&&◌, ◌==◌, true, false, if◌then◌else◌, List, [], ◌∷◌, length, Option, Some, None, is_some, Ok, Err, bytes_eq, codes, nat_lt, refl, sym, ap, subst, ◌∙◌, append_assoc, length-append, arith}
use Rattle.std.specs.List.{AllZip, IsDistinct, enumerate_from}
use Rattle.std.specs.Map.{keys_of, lookup}
use Rattle.std.proofs.lemmas.Bool.Decides.{nat_tests}
use Rattle.std.proofs.lemmas.List.{append-nil}
use Rattle.th_csv.specs.Records.{Fields, records_of}
use Rattle.th_certificate.specs.Certified.{Certified, HeightRows}
use Rattle.th_certificate.specs.Faults.{too_long}
use Rattle.th_certificate.specs.Numbers.{cost_in, count_in, flow_in, height_in}
use Rattle.th_certificate.specs.Reading.{after, certificate_after, certificate_in, certificate_of, ended}
use Rattle.th_certificate.specs.Limits.{max_certificate}
use Rattle.th_certificate.specs.Rows.{IsCertificate, IsCostRow, IsFlowRow, IsHeightRow, IsVersionRow, SayFlows, SayHeights, SaySpans}
use Rattle.th_certificate.specs.Statements.{Draft, begun, counted, empty_draft, new_name, row_in, row_of, row_with, said, statement_of, states, with_statement}
use Rattle.th_certificate.specs.declared.faults.CertKind.TheVariants.{BadKind, BadName}
use Rattle.th_certificate.specs.declared.statements.Statement.{Statement}
use Rattle.th_certificate.specs.declared.statements.Statement.TheVariants.{Height, Low, High, Flow, Cost}
use Rattle.th_certificate.proofs.ReadRows.{flowing, says_flow}
use Rattle.th_certificate.proofs.RowLemmas.{lookup-earlier}

-- some records take one draft to another
abbrev pub Leads : List Fields → Draft → Draft → Type 0
Leads records from to = (rest : List Fields) (number : ℕ) → (next : ℕ) × (certificate_after (records ++ rest) number from ≡ certificate_after rest next to)

-- one record and then others
leads-cons : (this : Fields) (records : List Fields) (statement : Statement) (from to : Draft) → statement_of from this ≡ Ok statement → Leads records (with_statement from statement) to → Leads (this ∷ records) from to
leads-cons this records statement from to says more = λ rest number.
    (let later = more rest (number + 1) in
    (later.0, ap (after number (λ statement. certificate_after (records ++ rest) (number + 1) (with_statement from statement))) says ∙ later.1))

module _ (letter : List ℕ) (make : List ℕ × ℤ → Statement) (put : HeightRows → Draft)
    (says : (rows : HeightRows) (key number : List ℕ) → said (put rows) letter key number ≡ states make (row_in rows key number))
    (puts : (rows : HeightRows) (row : List ℕ × ℤ) → with_statement (put rows) (make row) ≡ put (rows ++ row ∷ [])) where
  -- a row of a new name
  height_read : (rows : HeightRows) (row : Fields) (it : List ℕ × ℤ) → IsHeightRow letter row it → lookup (bytes_eq it.0) rows ≡ None → statement_of (put rows) row ≡ Ok (make it)
  height_read rows row it is new =
      ap (statement_of (put rows)) is.fields
      ∙ says rows is.key is.number
      ∙ ap (λ found. states make (row_of (new_name rows found) (height_in is.number))) is.name
      ∙ ap (λ (found : Option ℤ). states make (row_of (if is_some found then Err BadName else Ok it.0) (height_in is.number))) new
      ∙ ap (λ height. states make (row_with it.0 height)) is.height

  -- rows of one kind, one after the other
  pub heights_lead : (done todo : HeightRows) (records : List Fields) → AllZip (IsHeightRow letter) records todo → IsDistinct bytes_eq (keys_of (done ++ todo)) → Leads records (put done) (put (done ++ todo))
  heights_lead done [] [] each distinct = λ rest number. (number, ap (λ rows. certificate_after rest number (put rows)) (sym (append-nil done)))
  heights_lead done [] (this ∷ records) each distinct = absurd each
  heights_lead done (it ∷ todo) [] each distinct = absurd each
  heights_lead done (it ∷ todo) (this ∷ records) each distinct =
      let next : (done ++ it ∷ []) ++ todo ≡ done ++ it ∷ todo = append_assoc done (it ∷ []) todo in
      let apart : IsDistinct bytes_eq (keys_of ((done ++ it ∷ []) ++ todo)) = subst (λ rows. IsDistinct bytes_eq (keys_of rows)) (sym next) distinct in
      let more : Leads records (put (done ++ it ∷ [])) (put ((done ++ it ∷ []) ++ todo)) = heights_lead (done ++ it ∷ []) todo records each.1 apart in
      leads-cons this records (make it) (put done) (put (done ++ it ∷ todo)) (height_read done this it each.0 (lookup-earlier done it todo distinct))
      (subst (λ from. Leads records from (put (done ++ it ∷ todo))) (sym (puts done it)) (subst (λ rows. Leads records (put (done ++ it ∷ [])) (put rows)) next more))

module _ (version count : ℕ) (heights low high : HeightRows) where
  -- all heights and these flows
  abbrev with_flows : List ℤ → Draft
  with_flows flows = flowing version count heights low high flows

  -- the flows, one after the other
  flows_lead : (done todo : List ℤ) (place : ℕ) (records : List Fields) → place ≡ length done + 1 → length done + length todo ≤ count → AllZip IsFlowRow records (enumerate_from place todo)
      → Leads records (with_flows done) (with_flows (done ++ todo))
  flows_lead done [] place [] at few each = λ rest number. (number, ap (λ flows. certificate_after rest number (with_flows flows)) (sym (append-nil done)))
  flows_lead done [] place (this ∷ records) at few each = absurd each
  flows_lead done (flow ∷ todo) place [] at few each = absurd each
  flows_lead done (flow ∷ todo) place (this ∷ records) at few each =
      let is : IsFlowRow this (place, flow) = each.0 in
      let longer : length (done ++ flow ∷ []) ≡ length done + 1 = omega (arith, length-append done (flow ∷ [])) in
      let next : (done ++ flow ∷ []) ++ todo ≡ done ++ flow ∷ todo = append_assoc done (flow ∷ []) todo in
      let draft = with_flows done in
      let read : statement_of draft this ≡ Ok (Flow flow) =
      ap (statement_of draft) is.fields
      ∙ says_flow version count heights low high done is.key is.number (omega arith)
      ∙ ap (λ place. states Flow (flow_in place is.key is.number)) (sym at)
      ∙ ap (states Flow) is.flow in
      let more : Leads records (with_flows (done ++ flow ∷ [])) (with_flows ((done ++ flow ∷ []) ++ todo)) =
      flows_lead (done ++ flow ∷ []) todo (place + 1) records (omega (arith, longer, at)) (omega (arith, longer)) each.1 in
      leads-cons this records (Flow flow) draft (with_flows (done ++ flow ∷ todo)) read
      (subst (λ flows. Leads records (with_flows (done ++ flow ∷ [])) (with_flows flows)) next more)

  -- the flows and the cost end a certificate
  rest_read : (flows : List ℤ) (cost number : ℕ) (flow_rows : List Fields) (cost_row : Fields) → length flows ≡ count → SayFlows flow_rows flows → IsCostRow cost_row cost
      → (last : ℕ) × (certificate_after (flow_rows ++ cost_row ∷ []) number (with_flows []) ≡ ended last (with_flows flows) (Some cost))
  rest_read flows cost number flow_rows cost_row all say is =
      let before = flows_lead [] flows 1 flow_rows (omega arith) (omega (arith, all)) say (cost_row ∷ []) number in
      let full : (length flows == count) ≡ true = grind (arith, nat_tests) in
      let read : statement_of (with_flows flows) cost_row ≡ Ok (Cost cost) =
      ap (statement_of (with_flows flows)) is.fields
      ∙ ap (λ b. if b && true then states Cost (cost_in is.number) else Err BadKind) full
      ∙ ap (states Cost) is.costs in
      (before.0 + 1, before.1 ∙ ap (after before.0 (λ statement. certificate_after [] (before.0 + 1) (with_statement (with_flows flows) statement))) read)

-- the records under the version row of version 1
read_1 : (heights : HeightRows) (flows : List ℤ) (cost count : ℕ) (height_rows flow_rows : List Fields) (cost_row : Fields) → length flows ≡ count → SayHeights (codes "H") height_rows heights → SayFlows flow_rows flows → IsCostRow cost_row cost
    → certificate_after (height_rows ++ (flow_rows ++ cost_row ∷ [])) 3 (empty_draft 1 count) ≡ Ok (record { version = 1; heights = heights; low = None; high = None; flows = flows; cost = cost })
read_1 heights flows cost count height_rows flow_rows cost_row all say say_flows is =
    let first = heights_lead (codes "H") (λ row. Height row.0 row.1) (λ rows. flowing 1 count rows [] [] []) (λ rows key number. refl) (λ rows row. refl) [] heights height_rows say.each say.distinct (flow_rows ++ cost_row ∷ []) 3 in
    first.1 ∙ (rest_read 1 count heights [] [] flows cost first.0 flow_rows cost_row all say_flows is).1

-- and of version 2
read_2 : (heights low high : HeightRows) (flows : List ℤ) (cost count : ℕ) (height_rows low_rows high_rows flow_rows : List Fields) (cost_row : Fields) → length flows ≡ count
    → SayHeights (codes "H") height_rows heights → SayHeights (codes "L") low_rows low → SayHeights (codes "U") high_rows high → SayFlows flow_rows flows → IsCostRow cost_row cost
    → certificate_after (height_rows ++ (low_rows ++ (high_rows ++ (flow_rows ++ cost_row ∷ [])))) 3 (empty_draft 2 count)
    ≡ Ok (record { version = 2; heights = heights; low = Some low; high = Some high; flows = flows; cost = cost })
read_2 heights low high flows cost count height_rows low_rows high_rows flow_rows cost_row all say say_low say_high say_flows is =
    let last = flow_rows ++ cost_row ∷ [] in
    let first = heights_lead (codes "H") (λ row. Height row.0 row.1) (λ rows. flowing 2 count rows [] [] []) (λ rows key number. refl) (λ rows row. refl) [] heights height_rows say.each say.distinct (low_rows ++ (high_rows ++ last)) 3 in
    let second = heights_lead (codes "L") (λ row. Low row.0 row.1) (λ rows. flowing 2 count heights rows [] []) (λ rows key number. refl) (λ rows row. refl) [] low low_rows say_low.each say_low.distinct (high_rows ++ last) first.0 in
    let third = heights_lead (codes "U") (λ row. High row.0 row.1) (λ rows. flowing 2 count heights low rows []) (λ rows key number. refl) (λ rows row. refl) [] high high_rows say_high.each say_high.distinct last second.0 in
    first.1 ∙ second.1 ∙ third.1 ∙ (rest_read 2 count heights low high flows cost third.0 flow_rows cost_row all say_flows is).1

-- of either
under_read : (version cost : ℕ) (heights : HeightRows) (low high : Option HeightRows) (flows : List ℤ) (height_rows low_rows high_rows flow_rows : List Fields) (cost_row : Fields)
    → SayHeights (codes "H") height_rows heights → SaySpans version (codes "L") low_rows low → SaySpans version (codes "U") high_rows high → SayFlows flow_rows flows → IsCostRow cost_row cost
    → certificate_after (height_rows ++ (low_rows ++ (high_rows ++ (flow_rows ++ cost_row ∷ [])))) 3 (empty_draft version (length flows))
    ≡ Ok (record { version = version; heights = heights; low = low; high = high; flows = flows; cost = cost })
under_read version cost heights None None flows height_rows low_rows high_rows flow_rows cost_row say say_low say_high say_flows is =
    ap (λ version. certificate_after (height_rows ++ (low_rows ++ (high_rows ++ (flow_rows ++ cost_row ∷ [])))) 3 (empty_draft version (length flows))) say_low.0
    ∙ ap (λ rows. certificate_after (height_rows ++ (rows ++ (high_rows ++ (flow_rows ++ cost_row ∷ [])))) 3 (empty_draft 1 (length flows))) say_low.1
    ∙ ap (λ rows. certificate_after (height_rows ++ (rows ++ (flow_rows ++ cost_row ∷ []))) 3 (empty_draft 1 (length flows))) say_high.1
    ∙ read_1 heights flows cost (length flows) height_rows flow_rows cost_row refl say say_flows is
    ∙ ap (λ version. Ok (record { version = version; heights = heights; low = None; high = None; flows = flows; cost = cost })) (sym say_low.0)
under_read version cost heights (Some low) (Some high) flows height_rows low_rows high_rows flow_rows cost_row say say_low say_high say_flows is =
    ap (λ version. certificate_after (height_rows ++ (low_rows ++ (high_rows ++ (flow_rows ++ cost_row ∷ [])))) 3 (empty_draft version (length flows))) say_low.0
    ∙ read_2 heights low high flows cost (length flows) height_rows low_rows high_rows flow_rows cost_row refl say say_low.1 say_high.1 say_flows is
    ∙ ap (λ version. Ok (record { version = version; heights = heights; low = Some low; high = Some high; flows = flows; cost = cost })) (sym say_low.0)
under_read version cost heights None (Some high) flows height_rows low_rows high_rows flow_rows cost_row say say_low say_high say_flows is = absurd (omega (arith, say_low.0, say_high.0))
under_read version cost heights (Some low) None flows height_rows low_rows high_rows flow_rows cost_row say say_low say_high say_flows is = absurd (omega (arith, say_low.0, say_high.0))

-- a version row is read as its version and its count
version_read : (row : Fields) (version count : ℕ) → IsVersionRow row version count → begun row ≡ Ok (empty_draft version count)
version_read row version count is =
    ap begun is.fields ∙ ap (λ found. counted found (count_in is.number)) is.says ∙ ap (counted (Some version)) is.counts

-- the rows of a certificate, in bytes that are not too many, are read as it
pub read_of_rows : (bytes : List ℕ) (it : Certified) → length bytes ≤ max_certificate → IsCertificate (records_of bytes) it → certificate_of bytes ≡ Ok it
read_of_rows bytes it short is =
    let within : nat_lt max_certificate (length bytes) ≡ false = grind (arith, nat_tests) in
    let rest : List Fields = is.height_rows ++ (is.low_rows ++ (is.high_rows ++ (is.flow_rows ++ is.cost_row ∷ []))) in
    ap (λ long. if long then Err too_long else certificate_in (records_of bytes)) within
    ∙ ap certificate_in is.order
    ∙ ap (after 2 (certificate_after rest 3)) (version_read is.version_row it.version (length it.flows) is.version)
    ∙ under_read it.version it.cost it.heights it.low it.high it.flows is.height_rows is.low_rows is.high_rows is.flow_rows is.cost_row is.heights is.low is.high is.flows is.cost
