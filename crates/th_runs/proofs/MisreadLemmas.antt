-- What the law on misreadings rests on: the network with misread observations, and its lowest best heights.
use Rattle.std.proofs.Common.{◌≡◌, inl, inr, ℕ, ℤ, zero, suc, [], ◌∷◌, ◌++◌, List, All, Contains, bytes_eq, length, map, take, refl, ap, sym, subst, ◌∙◌, arith}
use Rattle.std.specs.List.{AllByRecursion, IsDistinct, enumerate_from, flat_map}
use Rattle.std.proofs.lemmas.List.Elements.{All-from_recursion, recursion_from_All}
use Rattle.th_observations.specs.Observed.{Observed}
use Rattle.th_circulation.specs.Best.{Best, IsBest}
use Rattle.th_circulation.specs.Extremes.{Low}
use Rattle.th_circulation.specs.Misreadings.{AreMisread}
use Rattle.th_network.specs.Circulation.{Circulation, Shows}
use Rattle.th_network.specs.Heights.{heights_at}
use Rattle.th_network.specs.Networks.{AreAtPoints, Survey, at_points_of, points_of}
use Rattle.th_network.specs.Walks.{IsTied, Leads}
use Rattle.th_points.specs.Points.{distinct, ends, points}
use Rattle.th_report.specs.Gsi.{text_of_point}
use Rattle.th_report.specs.Heights.{heights_header, heights_text, printed_height, printed_heights}
use Rattle.th_tables.specs.Rows.{BenchmarkRows, WeightRows}
use Rattle.th_runs.specs.Adjusted.{AreOutputs, OutTexts}
use Rattle.th_run_parts.specs.Inputs.{MakesNetwork}
use Rattle.th_runs.proofs.LawLemmas.{same_heights}

-- misread observations run between the same points
ends_same : (heights : List ℕ → ℤ) (observations misread : List Observed) → AreMisread heights observations misread → ends misread ≡ ends observations
ends_same heights [] [] each = refl
ends_same heights [] (other ∷ others) each = absurd each
ends_same heights (o ∷ observations) [] each = absurd each
ends_same heights (o ∷ observations) (other ∷ others) each =
    ap (λ station. station ∷ other.target ∷ ends others) each.0.station ∙ ap (λ target. o.station ∷ target ∷ ends others) each.0.target
    ∙ ap (λ later. o.station ∷ o.target ∷ later) (ends_same heights observations others each.1)

points_same : (heights : List ℕ → ℤ) (observations misread : List Observed) (benchmarks : BenchmarkRows) → AreMisread heights observations misread
    → points misread benchmarks ≡ points observations benchmarks
unfolding points
points_same heights observations misread benchmarks each =
    ap (λ (names : List (List ℕ)). distinct (names ++ map (λ row. row.0) benchmarks)) (ends_same heights observations misread each)

-- so they have the same lowest best heights
misread_low :
    ((observations misread : List Observed) (benchmarks : BenchmarkRows) (weights : WeightRows) (heights : List ℕ → ℤ) (flows : List ℤ)
    → Low observations benchmarks weights heights → Circulation observations benchmarks weights flows → Shows observations weights flows heights
    → AreMisread heights observations misread → Low misread benchmarks weights heights)
    → ((observations : List Observed) (benchmarks : BenchmarkRows) (weights : WeightRows) (first second : List ℕ → ℤ)
    → Low observations benchmarks weights first → Low observations benchmarks weights second → All (λ point. first point ≡ second point) (points observations benchmarks))
    → ((observations : List Observed) (benchmarks : BenchmarkRows) → IsDistinct bytes_eq (points observations benchmarks))
    → (survey : Survey) (misread : List Observed) (first second : Best) → IsBest survey first
    → AreMisread (at_points_of survey first.low) survey.observations misread
    → IsBest (record survey { observations = misread }) second → second.low ≡ first.low
misread_low keeps one_low once survey misread first second one each other =
    let there : Survey = record survey { observations = misread } in
    let same : points_of there ≡ points_of survey = points_same (at_points_of survey first.low) survey.observations misread survey.benchmarks each in
    let kept : Low misread survey.benchmarks survey.weights (at_points_of survey first.low) =
    keeps survey.observations misread survey.benchmarks survey.weights (at_points_of survey first.low) first.flows one.low one.circulation one.shows_low each in
    let low : Low misread survey.benchmarks survey.weights (at_points_of there first.low) =
    subst (λ (names : List (List ℕ)). Low misread survey.benchmarks survey.weights (heights_at names first.low)) (sym same) kept in
    let listed : AreAtPoints there first.low = record { each = one.low_at_points.each ∙ ap length (sym same); in_range = one.low_at_points.in_range } in
    same_heights there second.low first.low (once misread survey.benchmarks) other.low_at_points listed
    (one_low misread survey.benchmarks survey.weights (at_points_of there second.low) (at_points_of there first.low) other.low low)

-- for each observation there is a misread one between the same points
turned : (heights : List ℕ → ℤ) (observations misread : List Observed) → AreMisread heights observations misread → (o : Observed) → Contains observations o
    → (other : Observed) × Contains misread other × (other.station ≡ o.station) × (other.target ≡ o.target)
turned heights [] misread each o (k, within, is) = absurd (omega arith)
turned heights (first ∷ observations) [] each o has = absurd each
turned heights (first ∷ observations) (other ∷ others) each o (zero, within, is) =
    (other, (zero, omega arith, refl), each.0.station ∙ ap (λ (o : Observed). o.station) is, each.0.target ∙ ap (λ (o : Observed). o.target) is)
turned heights (first ∷ observations) (other ∷ others) each o (suc k, within, is) =
    let later = turned heights observations others each.1 o (k, omega arith, is) in
    (later.0, (suc later.1.0, omega (arith, later.1.1), later.1.2), later.2, later.3)

-- a chain of observations leads where one of misread ones does
chained : (heights : List ℕ → ℤ) (observations misread : List Observed) → AreMisread heights observations misread → (chain : List Observed) → AllByRecursion (Contains observations) chain
    → (start goal : List ℕ) → Leads chain start goal → (other : List Observed) × AllByRecursion (Contains misread) other × Leads other start goal
chained heights observations misread each [] has start goal leads = ([], tt, leads)
chained heights observations misread each (o ∷ chain) has start goal (inl (is, leads)) =
    let other = turned heights observations misread each o has.0 in
    let later = chained heights observations misread each chain has.1 o.target goal leads in
    (other.0 ∷ later.0, (other.1, later.1), inl (is ∙ sym other.2, subst (λ from. Leads later.0 from goal) (sym other.3) later.2))
chained heights observations misread each (o ∷ chain) has start goal (inr (is, leads)) =
    let other = turned heights observations misread each o has.0 in
    let later = chained heights observations misread each chain has.1 o.station goal leads in
    (other.0 ∷ later.0, (other.1, later.1), inr (is ∙ sym other.3, subst (λ from. Leads later.0 from goal) (sym other.2) later.2))

tied : (heights : List ℕ → ℤ) (observations misread : List Observed) (benchmarks : BenchmarkRows) → AreMisread heights observations misread → (point : List ℕ)
    → IsTied observations benchmarks point → IsTied misread benchmarks point
tied heights observations misread benchmarks each point (benchmark, is, (chain, has, leads)) =
    let other = chained heights observations misread each chain (recursion_from_All (Contains observations) chain has) point benchmark leads in
    (benchmark, is, (other.0, All-from_recursion (Contains misread) other.0 other.1, other.2))

same_length : (heights : List ℕ → ℤ) (observations misread : List Observed) → AreMisread heights observations misread → length misread ≡ length observations
same_length heights [] [] each = refl
same_length heights [] (other ∷ others) each = absurd each
same_length heights (o ∷ observations) [] each = absurd each
same_length heights (o ∷ observations) (other ∷ others) each = omega (arith, same_length heights observations others each.1)

-- misread observations make a network where those as they were do
pub still_network : (survey : Survey) (misread : List Observed) (heights : List ℕ → ℤ) → MakesNetwork survey → AreMisread heights survey.observations misread
    → MakesNetwork (record survey { observations = misread })
still_network survey misread heights is each =
    let benchmarks = survey.benchmarks in
    let same : points misread benchmarks ≡ points survey.observations benchmarks = points_same heights survey.observations misread benchmarks each in
    record {
      few_observations = omega (arith, same_length heights survey.observations misread each, is.few_observations);
      few_points = omega (arith, ap length same, is.few_points);
      anchored = subst (λ (names : List (List ℕ)). All (IsTied misread benchmarks) names) (sym same)
          (λ k d within. tied heights survey.observations misread benchmarks each _ (is.anchored k d within));
    }

-- what is printed of the points, from their names and their heights in point order
gsi_from : List (List ℕ) → List ℤ → List ℕ
gsi_from names low = flat_map (text_of_point (heights_at names low)) (enumerate_from 1 names)

heights_from : List (List ℕ) → List ℤ → List (List (List ℕ))
heights_from names low = take 3 heights_header ∷ map (printed_height (heights_at names low)) names

module _ (keeps : (observations misread : List Observed) (benchmarks : BenchmarkRows) (weights : WeightRows) (heights : List ℕ → ℤ) (flows : List ℤ)
    → Low observations benchmarks weights heights → Circulation observations benchmarks weights flows → Shows observations weights flows heights
    → AreMisread heights observations misread → Low misread benchmarks weights heights)
    (one_low : (observations : List Observed) (benchmarks : BenchmarkRows) (weights : WeightRows) (first second : List ℕ → ℤ)
    → Low observations benchmarks weights first → Low observations benchmarks weights second → All (λ point. first point ≡ second point) (points observations benchmarks))
    (once : (observations : List Observed) (benchmarks : BenchmarkRows) → IsDistinct bytes_eq (points observations benchmarks)) where
  pub misread_gsi : (survey : Survey) (misread : List Observed) (limit other : ℤ) (first second : OutTexts) (outputs : AreOutputs survey limit first)
      → AreMisread (at_points_of survey outputs.answer.low) survey.observations misread → AreOutputs (record survey { observations = misread }) other second
      → second.gsi ≡ first.gsi
  unfolding gsi_from
  misread_gsi survey misread limit other first second outputs each others =
      let same = points_same (at_points_of survey outputs.answer.low) survey.observations misread survey.benchmarks each in
      let low = misread_low keeps one_low once survey misread outputs.answer others.answer outputs.answers each others.answers in
      others.printed.gsi
      ∙ ap (λ (names : List (List ℕ)). gsi_from names others.answer.low) same
      ∙ ap (gsi_from (points_of survey)) low
      ∙ sym outputs.printed.gsi

  pub misread_heights : ((survey : Survey) (low high : List ℕ → ℤ) → printed_heights (heights_text survey low high) ≡ take 3 heights_header ∷ map (printed_height low) (points_of survey))
      → (survey : Survey) (misread : List Observed) (limit other : ℤ) (first second : OutTexts) (outputs : AreOutputs survey limit first)
      → AreMisread (at_points_of survey outputs.answer.low) survey.observations misread → AreOutputs (record survey { observations = misread }) other second
      → printed_heights second.heights ≡ printed_heights first.heights
  unfolding heights_from
  misread_heights read survey misread limit other first second outputs each others =
      let there : Survey = record survey { observations = misread } in
      let same = points_same (at_points_of survey outputs.answer.low) survey.observations misread survey.benchmarks each in
      let low = misread_low keeps one_low once survey misread outputs.answer others.answer outputs.answers each others.answers in
      ap printed_heights others.printed.heights
      ∙ read there (at_points_of there others.answer.low) (at_points_of there others.answer.high)
      ∙ ap (λ (names : List (List ℕ)). heights_from names others.answer.low) same
      ∙ ap (heights_from (points_of survey)) low
      ∙ sym (read survey (at_points_of survey outputs.answer.low) (at_points_of survey outputs.answer.high))
      ∙ sym (ap printed_heights outputs.printed.heights)
