-- What is written is accepted.
use Rattle.std.proofs.Common.{◌≡◌, ◌&&◌, ◌==◌, ◌||◌, ℕ, ℤ, Bool, true, false, List, [], ◌∷◌, ◌++◌, length, map, Option, Some, None, Result, Ok, bytes_eq, refl, sym, ap, subst, ◌∙◌, arith}
use Rattle.std.specs.List.{AllByRecursion, list_any}
use Rattle.std.proofs.lemmas.List.Elements.{recursion_from_All}
use Rattle.std.proofs.lemmas.Slice.Eq.{bytes_eq-Decides}
use Rattle.th_observations.specs.Observed.{Observed}
use Rattle.th_tables.specs.Rows.{AreBenchmarks, BenchmarkRows}
use Rattle.th_network.specs.Circulation.{Circulation, Shows}
use Rattle.th_network.specs.Heights.{IsHeights, cost}
use Rattle.th_network.specs.Networks.{AreOfObservations, Survey, points_of}
use Rattle.th_points.specs.Points.{ends, points}
use Rattle.th_points.proofs.PointLemmas.{among_distinct, ends_are_points, is_among}
use Rattle.th_certificate.specs.Certified.{Certified, stated_height}
use Rattle.th_certificate.specs.Reading.{certificate_of}
use Rattle.th_certificate.specs.declared.faults.CertFault.{CertFault}
use Rattle.th_certificate.specs.Texts.{IsCertifiable, cost_of, heights_at_points, text_of_version_1, text_of_version_2}
use Rattle.th_certificate.proofs.PointLemmas.{stated_height-rows_at}
use Rattle.th_certificate.proofs.RoundTrip.{read_version_1, read_version_2}
use Rattle.th_certificate.proofs.ReadNumbers.{same_test}
use Rattle.th_checker.specs.Accepted.{AreShownRows, IsShown}
use Rattle.std.specs.Prelude.{IfSome, ◌≤◌, unsigned_abs}
use Rattle.std.specs.List.{AllZip}
use Rattle.th_tables.specs.Rows.{WeightRows, weight_of}
use Rattle.th_certificate.specs.Certified.{HeightRows}
use Rattle.th_checker.specs.Verdicts.{if_there}
use Rattle.th_checker.proofs.AcceptLemmas.{AgreeAt}
use Rattle.std.proofs.lemmas.List.Elements.{All-from_recursion}
use Rattle.th_tables.specs.Rows.{AreWeights}
use Rattle.th_tables.proofs.WeightLemmas.{weight_is}
use Rattle.th_checker.specs.Shown.{Shown}
use Rattle.th_checker.specs.Verdicts.{first_not_slack, first_too_large, first_unbalanced, flow_verdict, if_found, keeps, map_verdict, names_are, not_slack_in, of_all_maps, slack_verdict, unless, verdict_of}
use Rattle.th_checker.specs.declared.verdicts.Reason.TheVariants.{PointsDiffer, BenchmarkMoved, FlowCount, FlowTooLarge, Unbalanced, NotSlack, WrongCost, LowNotSlack, HighNotSlack}
use Rattle.th_checker.specs.declared.verdicts.Verdict.TheVariants.{Yes}
use Rattle.th_checker.proofs.AcceptLemmas.{cost_agrees, keep_each, keeps-rows, names_are-rows_at, none_not_slack, none_too_large, none_unbalanced, rows_agree}
use Rattle.th_tables.specs.Limits.{max_weight}

-- each benchmark is a point
benchmark_among : (names : List (List ℕ)) (benchmarks : BenchmarkRows) (rest : BenchmarkRows) → ((name : List ℕ) → list_any (bytes_eq name) (map (λ row. row.0) rest) ≡ true → list_any (bytes_eq name) names ≡ true)
    → AllByRecursion (λ row. list_any (bytes_eq row.0) names ≡ true) rest
benchmark_among names benchmarks [] has = tt
benchmark_among names benchmarks (row ∷ rest) has = (
  has row.0 (ap (λ b. b || list_any (bytes_eq row.0) (map (λ row. row.0) rest)) ((bytes_eq-Decides row.0 row.0).1 refl)),
  benchmark_among names benchmarks rest (λ name among. has name (right (bytes_eq name row.0) (list_any (bytes_eq name) (map (λ row. row.0) rest)) among)),
)
  where
    right : (a b : Bool) → b ≡ true → (a || b) ≡ true
    right true b h = refl
    right false b h = h

among_append : (first second : List (List ℕ)) (name : List ℕ) → is_among second name ≡ true → is_among (first ++ second) name ≡ true
among_append [] second name h = h
among_append (next ∷ first) second name h = right (bytes_eq name next) (is_among (first ++ second) name) (among_append first second name h)
  where
    right : (a b : Bool) → b ≡ true → (a || b) ≡ true
    right true b h = refl
    right false b h = h

benchmarks_are_points : (observations : List Observed) (benchmarks : BenchmarkRows) → AllByRecursion (λ row. list_any (bytes_eq row.0) (points observations benchmarks) ≡ true) benchmarks
unfolding points
benchmarks_are_points observations benchmarks =
    let names = map (λ row. row.0) benchmarks in
    benchmark_among (points observations benchmarks) benchmarks benchmarks (λ name among. among_distinct (ends observations ++ names) name ∙ among_append (ends observations) names name among)

-- rows of heights that keep the benchmarks keep them
kept_rows : (survey : Survey) (heights : List ℕ → ℤ) → AreBenchmarks survey.benchmarks → IsHeights survey.benchmarks heights → keeps survey.benchmarks (heights_at_points survey heights) ≡ true
kept_rows survey heights valid are =
    keeps-rows survey.benchmarks (heights_at_points survey heights) heights (each survey.benchmarks (benchmarks_are_points survey.observations survey.benchmarks)) (keep_each survey.benchmarks heights valid.distinct are)
  where
    each : (rows : BenchmarkRows) → AllByRecursion (λ row. list_any (bytes_eq row.0) (points_of survey) ≡ true) rows → AllByRecursion (λ row. stated_height (heights_at_points survey heights) row.0 ≡ heights row.0) rows
    each [] among = tt
    each (row ∷ rows) among = (stated_height-rows_at (points_of survey) heights row.0 among.0, each rows among.1)

-- and are slack
slack_rows : (survey : Survey) (heights : List ℕ → ℤ) (flows : List ℤ) → Shows survey.observations survey.weights flows heights → first_not_slack survey.observations survey.weights flows (stated_height (heights_at_points survey heights)) ≡ None
slack_rows survey heights flows shows =
    none_not_slack survey.weights (stated_height (heights_at_points survey heights)) heights survey.observations flows 1
    (rows_agree (points_of survey) heights survey.observations (ends_are_points survey.observations survey.benchmarks)) shows

-- the verdict where each test passes
all_pass : (survey : Survey) (certificate : Certified) → of_all_maps (names_are (points_of survey)) certificate ≡ true → of_all_maps (keeps survey.benchmarks) certificate ≡ true → (length certificate.flows == length survey.observations) ≡ true
    → first_too_large survey.observations survey.weights certificate.flows ≡ None → first_unbalanced survey.observations survey.benchmarks certificate.flows ≡ None
    → first_not_slack survey.observations survey.weights certificate.flows (stated_height certificate.heights) ≡ None → (certificate.cost == cost survey.observations survey.weights (stated_height certificate.heights)) ≡ true
    → not_slack_in survey.observations survey.weights certificate.flows certificate.low ≡ None → not_slack_in survey.observations survey.weights certificate.flows certificate.high ≡ None
    → verdict_of survey.observations survey.benchmarks survey.weights certificate ≡ Yes
all_pass survey certificate a b c d e f g h i =
    let o = survey.observations in
    let w = survey.weights in
    let flows = certificate.flows in
    ap (λ t. unless t PointsDiffer (map_verdict o survey.benchmarks w certificate)) a
    ∙ ap (λ t. unless t BenchmarkMoved (unless (length flows == length o) FlowCount (flow_verdict o survey.benchmarks w certificate))) b
    ∙ ap (λ t. unless t FlowCount (flow_verdict o survey.benchmarks w certificate)) c
    ∙ ap (λ (x : Option ℕ). if_found x FlowTooLarge (if_found (first_unbalanced o survey.benchmarks flows) Unbalanced (slack_verdict o w certificate))) d
    ∙ ap (λ (x : Option (List ℕ)). if_found x Unbalanced (slack_verdict o w certificate)) e
    ∙ ap (λ (x : Option ℕ). if_found x NotSlack (unless (certificate.cost == cost o w (stated_height certificate.heights)) WrongCost (if_found (not_slack_in o w flows certificate.low) LowNotSlack (if_found (not_slack_in o w flows certificate.high) HighNotSlack Yes)))) f
    ∙ ap (λ t. unless t WrongCost (if_found (not_slack_in o w flows certificate.low) LowNotSlack (if_found (not_slack_in o w flows certificate.high) HighNotSlack Yes))) g
    ∙ ap (λ (x : Option ℕ). if_found x LowNotSlack (if_found (not_slack_in o w flows certificate.high) HighNotSlack Yes)) h
    ∙ ap (λ (x : Option ℕ). if_found x HighNotSlack Yes) i

-- the flows of a circulation pass
flows_pass : (survey : Survey) (flows : List ℤ) → Circulation survey.observations survey.benchmarks survey.weights flows → (first_too_large survey.observations survey.weights flows ≡ None) × (first_unbalanced survey.observations survey.benchmarks flows ≡ None)
flows_pass survey flows circulation = (
  none_too_large survey.weights survey.observations flows 1 circulation.bounded,
  none_unbalanced survey.observations survey.benchmarks flows (points_of survey) (recursion_from_All _ (points_of survey) circulation.balanced),
)

-- the cost of the rows is what the heights cost
cost_test : (survey : Survey) (heights : List ℕ → ℤ) → (cost_of survey heights == cost survey.observations survey.weights (stated_height (heights_at_points survey heights))) ≡ true
cost_test survey heights =
    same_test (cost_of survey heights) (cost survey.observations survey.weights (stated_height (heights_at_points survey heights)))
    (sym (cost_agrees survey.weights (stated_height (heights_at_points survey heights)) heights survey.observations (rows_agree (points_of survey) heights survey.observations (ends_are_points survey.observations survey.benchmarks))))

both : (a b : Bool) → a ≡ true → b ≡ true → (a && b) ≡ true
both a b h k = ap (λ t. t && b) h ∙ k

same_certificate : (first second : Certified) → ◌≡◌ {A = Result Certified CertFault} (Ok first) (Ok second) → first ≡ second
same_certificate first second h = cc h

pub accept_version_1 : (survey : Survey) (heights : List ℕ → ℤ) (flows : List ℤ) (certificate : Certified) → IsCertifiable survey → AreBenchmarks survey.benchmarks → Shown survey heights flows → AreOfObservations survey flows
    → certificate_of (text_of_version_1 survey heights flows) ≡ Ok certificate → verdict_of survey.observations survey.benchmarks survey.weights certificate ≡ Yes
accept_version_1 survey heights flows certificate certifiable valid shown are read =
    let written : Certified = record { version = 1; heights = heights_at_points survey heights; low = None; high = None; flows = flows; cost = cost_of survey heights } in
    let same : written ≡ certificate = same_certificate written certificate (sym (read_version_1 survey heights flows certifiable shown.in_range are) ∙ read) in
    let pass = flows_pass survey flows shown.circulation in
    subst (λ (certificate : Certified). verdict_of survey.observations survey.benchmarks survey.weights certificate ≡ Yes) same
    (all_pass survey written
    (both (names_are (points_of survey) (heights_at_points survey heights)) true (names_are-rows_at (points_of survey) heights) refl)
    (both (keeps survey.benchmarks (heights_at_points survey heights)) true (kept_rows survey heights valid shown.kept) refl)
    (same_test (length flows) (length survey.observations) are.each) pass.0 pass.1 (slack_rows survey heights flows shown.shows) (cost_test survey heights) refl refl)

pub accept_version_2 : (survey : Survey) (heights low high : List ℕ → ℤ) (flows : List ℤ) (certificate : Certified) → IsCertifiable survey → AreBenchmarks survey.benchmarks → Shown survey heights flows → Shown survey low flows → Shown survey high flows
    → AreOfObservations survey flows → certificate_of (text_of_version_2 survey heights low high flows) ≡ Ok certificate → verdict_of survey.observations survey.benchmarks survey.weights certificate ≡ Yes
accept_version_2 survey heights low high flows certificate certifiable valid shown low_shown high_shown are read =
    let first = heights_at_points survey heights in
    let second = heights_at_points survey low in
    let third = heights_at_points survey high in
    let written : Certified = record { version = 2; heights = first; low = Some second; high = Some third; flows = flows; cost = cost_of survey heights } in
    let same : written ≡ certificate = same_certificate written certificate (sym (read_version_2 survey heights low high flows certifiable shown.in_range low_shown.in_range high_shown.in_range are) ∙ read) in
    let pass = flows_pass survey flows shown.circulation in
    let names = points_of survey in
    subst (λ (certificate : Certified). verdict_of survey.observations survey.benchmarks survey.weights certificate ≡ Yes) same
    (all_pass survey written
    (both (names_are names first) (names_are names second && names_are names third) (names_are-rows_at names heights) (both (names_are names second) (names_are names third) (names_are-rows_at names low) (names_are-rows_at names high)))
    (both (keeps survey.benchmarks first) (keeps survey.benchmarks second && keeps survey.benchmarks third) (kept_rows survey heights valid shown.kept)
    (both (keeps survey.benchmarks second) (keeps survey.benchmarks third) (kept_rows survey low valid low_shown.kept) (kept_rows survey high valid high_shown.kept)))
    (same_test (length flows) (length survey.observations) are.each) pass.0 pass.1 (slack_rows survey heights flows shown.shows) (cost_test survey heights)
    (slack_rows survey low flows low_shown.shows) (slack_rows survey high flows high_shown.shows))

each_same : (rows : BenchmarkRows) (heights : List ℕ → ℤ) → AllByRecursion (λ row. heights row.0 ≡ heights row.0) rows
each_same [] heights = tt
each_same (row ∷ rows) heights = (refl, each_same rows heights)

agrees_itself : (heights : List ℕ → ℤ) (observations : List Observed) → AllByRecursion (AgreeAt heights heights) observations
agrees_itself heights [] = tt
agrees_itself heights (o ∷ observations) = ((refl, refl), agrees_itself heights observations)

one_each : (weights : WeightRows) (observations : List Observed) (flows : List ℤ) → AllZip (λ o flow. unsigned_abs flow ≤ weight_of weights o.station o.target) observations flows → length flows ≡ length observations
one_each weights [] [] each = refl
one_each weights [] (flow ∷ flows) each = absurd each
one_each weights (o ∷ observations) [] each = absurd each
one_each weights (o ∷ observations) (flow ∷ flows) each = let rest = one_each weights observations flows each.1 in omega (arith, rest)

keeps_shown : (survey : Survey) (flows : List ℤ) (rows : HeightRows) → AreBenchmarks survey.benchmarks → AreShownRows survey.observations survey.benchmarks survey.weights flows rows → keeps survey.benchmarks rows ≡ true
keeps_shown survey flows rows valid shown = keeps-rows survey.benchmarks rows (stated_height rows) (each_same survey.benchmarks (stated_height rows)) (keep_each survey.benchmarks (stated_height rows) valid.distinct shown.kept)

slack_shown : (survey : Survey) (flows : List ℤ) (rows : HeightRows) → AreShownRows survey.observations survey.benchmarks survey.weights flows rows → first_not_slack survey.observations survey.weights flows (stated_height rows) ≡ None
slack_shown survey flows rows shown = none_not_slack survey.weights (stated_height rows) (stated_height rows) survey.observations flows 1 (agrees_itself (stated_height rows) survey.observations) shown.shows

span_named : (survey : Survey) (flows : List ℤ) (span : Option HeightRows) → IfSome span (AreShownRows survey.observations survey.benchmarks survey.weights flows) → if_there (names_are (points_of survey)) span ≡ true
span_named survey flows None shown = refl
span_named survey flows (Some rows) shown = shown.names

span_kept : (survey : Survey) (flows : List ℤ) (span : Option HeightRows) → AreBenchmarks survey.benchmarks → IfSome span (AreShownRows survey.observations survey.benchmarks survey.weights flows) → if_there (keeps survey.benchmarks) span ≡ true
span_kept survey flows None valid shown = refl
span_kept survey flows (Some rows) valid shown = keeps_shown survey flows rows valid shown

span_slack : (survey : Survey) (flows : List ℤ) (span : Option HeightRows) → IfSome span (AreShownRows survey.observations survey.benchmarks survey.weights flows) → not_slack_in survey.observations survey.weights flows span ≡ None
span_slack survey flows None shown = refl
span_slack survey flows (Some rows) shown = slack_shown survey flows rows shown

pub shown_accepted : (observations : List Observed) (benchmarks : BenchmarkRows) (weights : WeightRows) (certificate : Certified) → AreBenchmarks benchmarks → IsShown observations benchmarks weights certificate → verdict_of observations benchmarks weights certificate ≡ Yes
shown_accepted observations benchmarks weights certificate valid shown =
    let survey : Survey = record { observations = observations; benchmarks = benchmarks; weights = weights } in
    let flows = certificate.flows in
    let names = names_are (points_of survey) in
    let keep = keeps benchmarks in
    let pass = flows_pass survey flows shown.circulation in
    all_pass survey certificate
    (both (names certificate.heights) (if_there names certificate.low && if_there names certificate.high) shown.heights.names
    (both (if_there names certificate.low) (if_there names certificate.high) (span_named survey flows certificate.low shown.low) (span_named survey flows certificate.high shown.high)))
    (both (keep certificate.heights) (if_there keep certificate.low && if_there keep certificate.high) (keeps_shown survey flows certificate.heights valid shown.heights)
    (both (if_there keep certificate.low) (if_there keep certificate.high) (span_kept survey flows certificate.low valid shown.low) (span_kept survey flows certificate.high valid shown.high)))
    (same_test (length flows) (length observations) (one_each weights observations flows shown.circulation.bounded)) pass.0 pass.1 (slack_shown survey flows certificate.heights shown.heights)
    (same_test certificate.cost (cost observations weights (stated_height certificate.heights)) shown.costs) (span_slack survey flows certificate.low shown.low) (span_slack survey flows certificate.high shown.high)

flows_small : (weights : WeightRows) (observations : List Observed) (flows : List ℤ) → AreWeights weights → AllZip (λ o flow. unsigned_abs flow ≤ weight_of weights o.station o.target) observations flows → AllByRecursion (λ flow. unsigned_abs flow ≤ max_weight) flows
flows_small weights [] [] valid each = tt
flows_small weights [] (flow ∷ flows) valid each = absurd each
flows_small weights (o ∷ observations) [] valid each = absurd each
flows_small weights (o ∷ observations) (flow ∷ flows) valid each =
    let first = each.0 in
    let most = (weight_is weights valid o.station o.target).1 in
    (let small : unsigned_abs flow ≤ max_weight = omega (arith, first, most) in small, flows_small weights observations flows valid each.1)

of_observations : (survey : Survey) (flows : List ℤ) → IsCertifiable survey → Circulation survey.observations survey.benchmarks survey.weights flows → AreOfObservations survey flows
of_observations survey flows certifiable circulation = record {
  each = one_each survey.weights survey.observations flows circulation.bounded;
  in_range = All-from_recursion (λ flow. unsigned_abs flow ≤ max_weight) flows (flows_small survey.weights survey.observations flows certifiable.weights circulation.bounded);
}

pub read_1_accepted : (survey : Survey) (heights : List ℕ → ℤ) (flows : List ℤ) → IsCertifiable survey → AreBenchmarks survey.benchmarks → Shown survey heights flows
    → (certificate : Certified) × (certificate_of (text_of_version_1 survey heights flows) ≡ Ok certificate) × (verdict_of survey.observations survey.benchmarks survey.weights certificate ≡ Yes)
read_1_accepted survey heights flows certifiable valid shown =
    let are = of_observations survey flows certifiable shown.circulation in
    let read = read_version_1 survey heights flows certifiable shown.in_range are in
    (record { version = 1; heights = heights_at_points survey heights; low = None; high = None; flows = flows; cost = cost_of survey heights }, read, accept_version_1 survey heights flows _ certifiable valid shown are read)

pub read_2_accepted : (survey : Survey) (heights low high : List ℕ → ℤ) (flows : List ℤ) → IsCertifiable survey → AreBenchmarks survey.benchmarks → Shown survey heights flows → Shown survey low flows → Shown survey high flows
    → (certificate : Certified) × (certificate_of (text_of_version_2 survey heights low high flows) ≡ Ok certificate) × (verdict_of survey.observations survey.benchmarks survey.weights certificate ≡ Yes)
read_2_accepted survey heights low high flows certifiable valid shown low_shown high_shown =
    let are = of_observations survey flows certifiable shown.circulation in
    let read = read_version_2 survey heights low high flows certifiable shown.in_range low_shown.in_range high_shown.in_range are in
    (record { version = 2; heights = heights_at_points survey heights; low = Some (heights_at_points survey low); high = Some (heights_at_points survey high); flows = flows; cost = cost_of survey heights }, read, accept_version_2 survey heights low high flows _ certifiable valid shown low_shown high_shown are read)
