-- Rows that are written are read again.
use Rattle.std.proofs.Common.{◌≡◌, ◌<◌, ◌≤◌, ◌+◌, ◌++◌, ℕ, ℤ, ◌&&◌, ◌==◌, true, if◌then◌else◌, List, [], ◌∷◌, length, get_or, map, Option, Some, None, is_some, Ok, Err, bytes_eq, codes, decimal, nat_lt, unsigned_abs, suc, sym, ap, subst, ◌∙◌, append_assoc, length-append, arith}
use Rattle.std.specs.Fmt.{signed_decimal}
use Rattle.std.specs.List.{AllByRecursion, IsDistinct, enumerate_from}
use Rattle.std.specs.Map.{lookup}
use Rattle.std.proofs.Math.Seq.{get_or-append_seam, take-append_seam}
use Rattle.std.proofs.lemmas.Bool.Decides.{nat_tests}
use Rattle.std.proofs.lemmas.List.{append-nil, map-append}
use Rattle.gsi_word.specs.Names.{name_of}
use Rattle.th_units.specs.Metres.{metres}
use Rattle.th_csv.specs.Records.{Fields}
use Rattle.th_certificate.specs.Certified.{HeightRows, rows_at}
use Rattle.th_network.specs.Limits.{height_limit}
use Rattle.th_certificate.specs.Numbers.{cost_in, flow_in, height_in}
use Rattle.th_certificate.specs.Limits.{max_flows}
use Rattle.th_certificate.specs.Reading.{after, certificate_after, ended}
use Rattle.th_certificate.specs.Statements.{Draft, new_name, row_in, row_of, row_with, said, states, with_statement}
use Rattle.th_certificate.specs.Texts.{cost_row, flow_row, height_row}
use Rattle.th_certificate.specs.declared.faults.CertKind.TheVariants.{BadKind, BadName}
use Rattle.th_certificate.specs.declared.statements.Statement.{Statement}
use Rattle.th_certificate.specs.declared.statements.Statement.TheVariants.{Flow, Cost}
use Rattle.th_certificate.proofs.PointLemmas.{lookup-rows_before}
use Rattle.th_certificate.proofs.ReadNumbers.{flow_in-decimal, height_in-metres}
use Rattle.th_tables.specs.Limits.{max_weight}

-- a point whose row can be read: its name is in reduced form and its height in its range
abbrev pub IsReadable : (List ℕ → ℤ) → List ℕ → Type 0
IsReadable heights name = (name_of name ≡ Some name) × (unsigned_abs (heights name) < height_limit)

-- a row of a new name
row_in-new : (rows : HeightRows) (name : List ℕ) (height : ℤ) → name_of name ≡ Some name → lookup (bytes_eq name) rows ≡ None → unsigned_abs height < height_limit → row_in rows name (metres height) ≡ Ok (name, height)
row_in-new rows name height reduced new small =
    ap (λ found. row_of (new_name rows found) (height_in (metres height))) reduced
    ∙ ap (λ (found : Option ℤ). row_of (if is_some found then Err BadName else Ok name) (height_in (metres height))) new
    ∙ ap (row_with name) (height_in-metres height small)

module _ (letter : List ℕ) (make : List ℕ × ℤ → Statement) (put : HeightRows → Draft)
    (says : (rows : HeightRows) (key number : List ℕ) → said (put rows) letter key number ≡ states make (row_in rows key number))
    (puts : (rows : HeightRows) (row : List ℕ × ℤ) → with_statement (put rows) (make row) ≡ put (rows ++ row ∷ []))
    (heights : List ℕ → ℤ) where
  -- rows of one kind, one after the other
  pub heights_read : (done todo : List (List ℕ)) (rest : List Fields) (number : ℕ) → IsDistinct bytes_eq (done ++ todo) → AllByRecursion (IsReadable heights) todo
      → certificate_after (map (height_row letter) (rows_at todo heights) ++ rest) number (put (rows_at done heights)) ≡ certificate_after rest (number + length todo) (put (rows_at (done ++ todo) heights))
  heights_read done [] rest number distinct each =
      let here : number ≡ number + 0 = omega arith in
      ap (λ n. certificate_after rest n (put (rows_at done heights))) here ∙ ap (λ names. certificate_after rest (number + 0) (put (rows_at names heights))) (sym (append-nil done))
  heights_read done (name ∷ todo) rest number distinct each =
      let all = done ++ name ∷ todo in
      let within : length done < length all = omega (arith, length-append done (name ∷ todo)) in
      let new : lookup (bytes_eq name) (rows_at done heights) ≡ None =
      ap (λ (last : List ℕ). lookup (bytes_eq last) (rows_at done heights)) (sym (get_or-append_seam done name todo name))
      ∙ ap (λ (names : List (List ℕ)). lookup (bytes_eq (get_or all (length done) name)) (rows_at names heights)) (sym (take-append_seam done (name ∷ todo)))
      ∙ lookup-rows_before all (length done) heights name distinct within in
      let row : row_in (rows_at done heights) name (metres (heights name)) ≡ Ok (name, heights name) = row_in-new (rows_at done heights) name (heights name) each.0.0 new each.0.1 in
      let later = map (height_row letter) (rows_at todo heights) ++ rest in
      let next : (done ++ name ∷ []) ++ todo ≡ all = append_assoc done (name ∷ []) todo in
      let counted : (number + 1) + length todo ≡ number + suc (length todo) = omega arith in
      ap (after number (λ s. certificate_after later (number + 1) (with_statement (put (rows_at done heights)) s))) (says (rows_at done heights) name (metres (heights name)) ∙ ap (states make) row)
      ∙ ap (certificate_after later (number + 1)) (puts (rows_at done heights) (name, heights name) ∙ ap put (sym (map-append (λ name. (name, heights name)) done (name ∷ []))))
      ∙ heights_read (done ++ name ∷ []) todo rest (number + 1) (subst_distinct (sym next) distinct) each.1
      ∙ ap (λ n. certificate_after rest n (put (rows_at ((done ++ name ∷ []) ++ todo) heights))) counted
      ∙ ap (λ names. certificate_after rest (number + suc (length todo)) (put (rows_at names heights))) next
    where
      subst_distinct : {names others : List (List ℕ)} → names ≡ others → IsDistinct bytes_eq names → IsDistinct bytes_eq others
      subst_distinct same h = subst (IsDistinct bytes_eq) same h

-- a draft that has all rows of heights and these flows
abbrev pub flowing : ℕ → ℕ → HeightRows → HeightRows → HeightRows → List ℤ → Draft
flowing version count heights low high flows = record { version = version; count = count; heights = heights; low = low; high = high; flows = flows; cost = None }

module _ (version count : ℕ) (heights low high : HeightRows) where
  -- a flow, where there is room for one
  pub says_flow : (flows : List ℤ) (key number : List ℕ) → length flows < count → said (flowing version count heights low high flows) (codes "F") key number ≡ states Flow (flow_in (length flows + 1) key number)
  says_flow flows key number room =
      let test : nat_lt (length flows) count ≡ true = grind (arith, nat_tests) in
      ap (λ b. if b then states Flow (flow_in (length flows + 1) key number) else Err BadKind) test

  -- the flows, one after the other
  pub flows_read : (done todo : List ℤ) (rest : List Fields) (number : ℕ) → length done + length todo ≤ count → count ≤ max_flows → AllByRecursion (λ flow. unsigned_abs flow ≤ max_weight) todo
      → certificate_after (map flow_row (enumerate_from (length done + 1) todo) ++ rest) number (flowing version count heights low high done)
      ≡ certificate_after rest (number + length todo) (flowing version count heights low high (done ++ todo))
  flows_read done [] rest number few counts each =
      let here : number ≡ number + 0 = omega arith in
      ap (λ n. certificate_after rest n (flowing version count heights low high done)) here ∙ ap (λ flows. certificate_after rest (number + 0) (flowing version count heights low high flows)) (sym (append-nil done))
  flows_read done (flow ∷ todo) rest number few counts each =
      let draft = flowing version count heights low high done in
      let place = length done + 1 in
      let later = map flow_row (enumerate_from (place + 1) todo) ++ rest in
      let read : flow_in place (decimal place) (signed_decimal flow) ≡ Ok flow = flow_in-decimal place flow (omega arith) each.0 in
      let longer : length (done ++ flow ∷ []) ≡ place = omega (arith, length-append done (flow ∷ [])) in
      let next : (done ++ flow ∷ []) ++ todo ≡ done ++ flow ∷ todo = append_assoc done (flow ∷ []) todo in
      let counted : (number + 1) + length todo ≡ number + suc (length todo) = omega arith in
      ap (after number (λ s. certificate_after later (number + 1) (with_statement draft s))) (says_flow done (decimal place) (signed_decimal flow) (omega arith) ∙ ap (states Flow) read)
      ∙ ap (λ n. certificate_after (map flow_row (enumerate_from (n + 1) todo) ++ rest) (number + 1) (flowing version count heights low high (done ++ flow ∷ []))) (sym longer)
      ∙ flows_read (done ++ flow ∷ []) todo rest (number + 1) (omega (arith, longer)) counts each.1
      ∙ ap (λ n. certificate_after rest n (flowing version count heights low high ((done ++ flow ∷ []) ++ todo))) counted
      ∙ ap (λ flows. certificate_after rest (number + suc (length todo)) (flowing version count heights low high flows)) next

  -- the cost, once all flows stand
  pub cost_read : (flows : List ℤ) (cost number : ℕ) → length flows ≡ count → cost_in (decimal cost) ≡ Ok cost
      → certificate_after (cost_row cost ∷ []) number (flowing version count heights low high flows) ≡ ended (number + 1) (flowing version count heights low high flows) (Some cost)
  cost_read flows cost number all small =
      let test : (length flows == count) ≡ true = grind (arith, nat_tests) in
      let full : said (flowing version count heights low high flows) (codes "Z") (codes "cost") (decimal cost) ≡ states Cost (cost_in (decimal cost)) =
      ap (λ b. if b && true then states Cost (cost_in (decimal cost)) else Err BadKind) test in
      ap (after number (λ s. certificate_after [] (number + 1) (with_statement (flowing version count heights low high flows) s))) (full ∙ ap (states Cost) small)
