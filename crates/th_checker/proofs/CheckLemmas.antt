-- The tests over places give the verdict.
use Rattle.std.proofs.Common.{◌≡◌, ◌<◌, ◌*◌, ◌==◌, ◌&&◌, ℕ, ℤ, pos, ◌-ℤ◌, not, Bool, true, false, if◌then◌else◌, List, [], ◌∷◌, length, get_or, map, Option, Some, None, IfSome, find, is_none, sum_by, unsigned_abs, suc, refl, sym, ap, ◌∙◌, arith}
use Rattle.std.specs.List.{position_from, zip}
use Rattle.std.specs.Ordering.{int_eq}
use Rattle.std.proofs.lemmas.Bool.Decides.{Decides-int_eq}
use Rattle.std.proofs.lemmas.Int.{ints}
use Rattle.std.proofs.lemmas.List.{length-map}
use Rattle.th_observations.specs.Observed.{Observed}
use Rattle.th_tables.specs.Rows.{BenchmarkRows, WeightRows, height_of}
use Rattle.th_network.specs.Circulation.{arriving, leaving, total_by}
use Rattle.th_network.specs.Heights.{cost, residual}
use Rattle.th_points.specs.Ends.{ArePoints, ends_in}
use Rattle.th_points.specs.Points.{points}
use Rattle.th_points.proofs.PlaceLemmas.{points_distinct}
use Rattle.th_points.proofs.PointLemmas.{ends_are_points}
use Rattle.th_certificate.specs.Certified.{Certified, HeightRows, stated_height}
use Rattle.th_checker.specs.Inside.Tests.{added_at, AreBalances, AreHeightsAt, AreListed, AreMaps, AreMapsAt, AreStated, cost_at, first_place, is_slack_at, listed_in, not_slack_at, residual_at, slack_verdict_at, span_not_slack_at, too_large_at}
use Rattle.th_checker.specs.Verdicts.{first_not_slack, first_too_large, first_unbalanced, flow_verdict, if_found, not_slack_in, slack_verdict, unless}
use Rattle.th_checker.specs.declared.maps.Maps.{Maps}
use Rattle.th_checker.specs.declared.verdicts.Reason.TheVariants.{FlowTooLarge, Unbalanced, NotSlack, WrongCost, LowNotSlack, HighNotSlack}
use Rattle.th_checker.specs.declared.verdicts.Verdict.TheVariants.{Yes}
use Rattle.th_checker.proofs.PlaceLemmas.{balance_by_places, cost_by_places, not_slack_same, residuals_by_places, too_large_same, weight_by}

-- the first flow that is too large
pub too_large_found : (weights : WeightRows) (observations : List Observed) (flows fs : List ℤ) (ws : List ℕ) (found : Option ℕ) → ws ≡ map (weight_by weights) observations → fs ≡ flows
    → found ≡ too_large_at ws fs → found ≡ first_too_large observations weights flows
too_large_found weights observations flows fs ws found a b h =
    h
    ∙ ap (λ (ws : List ℕ). too_large_at ws fs) a
    ∙ ap (too_large_at (map (weight_by weights) observations)) b
    ∙ too_large_same weights observations flows 1

-- a difference is zero just where both are the same
zero_difference : (x y z : ℤ) → x ≡ y -ℤ z → int_eq x (pos 0) ≡ int_eq y z
zero_difference x y z is = by (int_eq x (pos 0)) refl (int_eq y z) refl
  where
    by : (a : Bool) → int_eq x (pos 0) ≡ a → (b : Bool) → int_eq y z ≡ b → a ≡ b
    by true first true second = refl
    by false first false second = refl
    by true first false second =
        let none = (Decides-int_eq x (pos 0)).0 first in
        let same : y ≡ z = omega (arith, ints) in
        sym ((Decides-int_eq y z).1 same) ∙ second
    by false first true second =
        let same = (Decides-int_eq y z).0 second in
        let none : x ≡ pos 0 = omega (arith, ints) in
        sym first ∙ (Decides-int_eq x (pos 0)).1 none

-- the first name out of balance
first_place_is : (benchmarks : BenchmarkRows) (first second : List ℕ → ℤ) (names : List (List ℕ)) (balances : List ℤ) → length balances ≡ length names
    → ((k : ℕ) → k < length names → get_or balances k (pos 0) ≡ first (get_or names k []) -ℤ second (get_or names k [])) → first_place benchmarks names balances ≡ find (λ point. is_none (height_of benchmarks point) && not (int_eq (first point) (second point))) names
first_place_is benchmarks first second [] [] same each = refl
first_place_is benchmarks first second [] (balance ∷ balances) same each = refl
first_place_is benchmarks first second (name ∷ names) [] same each = absurd (omega arith)
first_place_is benchmarks first second (name ∷ names) (balance ∷ balances) same each =
    ap (λ b. if not b && is_none (height_of benchmarks name) then Some name else first_place benchmarks names balances) (zero_difference balance (first name) (second name) (each 0 (omega arith)))
    ∙ ap (λ b. if b then Some name else first_place benchmarks names balances) (swapped (not (int_eq (first name) (second name))) (is_none (height_of benchmarks name)))
    ∙ ap (λ rest. if is_none (height_of benchmarks name) && not (int_eq (first name) (second name)) then Some name else rest)
    (first_place_is benchmarks first second names balances (omega arith) (λ k within. each (suc k) (omega arith)))
  where
    swapped : (a b : Bool) → (a && b) ≡ (b && a)
    swapped true true = refl
    swapped true false = refl
    swapped false true = refl
    swapped false false = refl

pub unbalanced_found : (observations : List Observed) (benchmarks : BenchmarkRows) (flows fs : List ℤ) (names : List (List ℕ)) (ends : List (ℕ × ℕ)) (balances : List ℤ) (found : Option (List ℕ)) → ArePoints observations benchmarks names ends
    → fs ≡ flows → AreBalances (length names) (zip ends fs) balances → found ≡ first_place benchmarks names balances → found ≡ first_unbalanced observations benchmarks flows
unbalanced_found observations benchmarks flows fs names ends balances found are same sums h =
    let all = points observations benchmarks in
    let placed : ends ≡ map (ends_in all) observations = are.placed in
    let size : length balances ≡ length all = sums.each ∙ ap length are.all in
    h
    ∙ ap (λ (ns : List (List ℕ)). first_place benchmarks ns balances) are.all
    ∙ first_place_is benchmarks (arriving observations flows) (leaving observations flows) all balances size (λ k within.
    sums.sums k (omega (arith, ap length are.all, within))
    ∙ ap (λ (fs : List ℤ). total_by (added_at k) (zip ends fs)) same
    ∙ ap (λ (es : List (ℕ × ℕ)). total_by (added_at k) (zip es flows)) placed
    ∙ balance_by_places all observations flows k [] (points_distinct observations benchmarks) within)

-- a height for each of the names
heights_at_names : (names : List (List ℕ)) (rows : HeightRows) (heights : List ℤ) → AreStated names rows heights → AreHeightsAt (length names) heights
heights_at_names names rows heights stated = record { each = ap length stated.value ∙ length-map names (stated_height rows); in_range = stated.in_range }

span_at_names : (names : List (List ℕ)) (span : Option HeightRows) (heights : Option (List ℤ)) → AreListed names span heights → IfSome heights (AreHeightsAt (length names))
span_at_names names None None listed = tt
span_at_names names None (Some heights) listed = absurd listed
span_at_names names (Some rows) None listed = tt
span_at_names names (Some rows) (Some heights) listed = heights_at_names names rows heights listed

pub maps_at_names : (names : List (List ℕ)) (certificate : Certified) (maps : Maps) → AreMaps names certificate maps → AreMapsAt (length names) maps
maps_at_names names certificate maps are = record {
  heights = heights_at_names names certificate.heights maps.heights.items are.heights;
  low = span_at_names names certificate.low (listed_in maps.low) are.low;
  high = span_at_names names certificate.high (listed_in maps.high) are.high;
}

module _ (observations : List Observed) (benchmarks : BenchmarkRows) (weights : WeightRows) (names : List (List ℕ)) (ends : List (ℕ × ℕ)) (are : ArePoints observations benchmarks names ends) where
  -- the residuals over listed heights
  residuals_are : (rows : HeightRows) (heights : List ℤ) → AreStated names rows heights → map (residual_at heights) (zip observations ends) ≡ map (λ o. residual o (stated_height rows)) observations
  residuals_are rows heights stated =
      let all = points observations benchmarks in
      let listed : heights ≡ map (stated_height rows) all = stated.value ∙ ap (map (stated_height rows)) are.all in
      ap (λ (hs : List ℤ). map (residual_at hs) (zip observations ends)) listed
      ∙ ap (λ (es : List (ℕ × ℕ)). map (residual_at (map (stated_height rows) all)) (zip observations es)) are.placed
      ∙ residuals_by_places all (stated_height rows) observations (ends_are_points observations benchmarks)

  not_slack_is : (rows : HeightRows) (heights flows : List ℤ) → AreStated names rows heights
      → not_slack_at (map (weight_by weights) observations) (zip observations ends) flows heights ≡ first_not_slack observations weights flows (stated_height rows)
  not_slack_is rows heights flows stated =
      ap (λ (rs : List ℤ). position_from (λ it. not (is_slack_at it)) 1 (zip (map (weight_by weights) observations) (zip rs flows))) (residuals_are rows heights stated)
      ∙ not_slack_same weights (stated_height rows) observations flows 1

  span_is : (span : Option HeightRows) (heights : Option (List ℤ)) (flows : List ℤ) → AreListed names span heights
      → span_not_slack_at (map (weight_by weights) observations) (zip observations ends) flows heights ≡ not_slack_in observations weights flows span
  span_is None None flows listed = refl
  span_is None (Some heights) flows listed = absurd listed
  span_is (Some rows) None flows listed = absurd listed
  span_is (Some rows) (Some heights) flows listed = not_slack_is rows heights flows listed

  cost_is : (rows : HeightRows) (heights : List ℤ) → AreStated names rows heights → cost_at (map (weight_by weights) observations) (zip observations ends) heights ≡ cost observations weights (stated_height rows)
  cost_is rows heights stated =
      ap (λ (rs : List ℤ). sum_by (λ pair. pair.0 * unsigned_abs pair.1) (zip (map (weight_by weights) observations) rs)) (residuals_are rows heights stated)
      ∙ cost_by_places weights (stated_height rows) observations

  -- the verdict over listed heights
  pub slack_is : (certificate : Certified) (maps : Maps) (ws : List ℕ) → ws ≡ map (weight_by weights) observations → AreMaps names certificate maps
      → slack_verdict_at ws (zip observations ends) certificate maps.heights.items (listed_in maps.low) (listed_in maps.high) ≡ slack_verdict observations weights certificate
  slack_is certificate maps ws same maps_are =
      let flows = certificate.flows in
      let found = λ (a : Option ℕ) (n : ℕ) (b d : Option ℕ). if_found a NotSlack (unless (certificate.cost == n) WrongCost (if_found b LowNotSlack (if_found d HighNotSlack Yes))) in
      let all = zip observations ends in
      let by_weights = map (weight_by weights) observations in
      ap (λ (ws : List ℕ). slack_verdict_at ws all certificate maps.heights.items (listed_in maps.low) (listed_in maps.high)) same
      ∙ ap (λ (a : Option ℕ). found a (cost_at by_weights all maps.heights.items) (span_not_slack_at by_weights all flows (listed_in maps.low)) (span_not_slack_at by_weights all flows (listed_in maps.high)))
      (not_slack_is certificate.heights maps.heights.items flows maps_are.heights)
      ∙ ap (λ n. found (first_not_slack observations weights flows (stated_height certificate.heights)) n (span_not_slack_at by_weights all flows (listed_in maps.low)) (span_not_slack_at by_weights all flows (listed_in maps.high)))
      (cost_is certificate.heights maps.heights.items maps_are.heights)
      ∙ ap (λ (b : Option ℕ). found (first_not_slack observations weights flows (stated_height certificate.heights)) (cost observations weights (stated_height certificate.heights)) b (span_not_slack_at by_weights all flows (listed_in maps.high)))
      (span_is certificate.low (listed_in maps.low) flows maps_are.low)
      ∙ ap (λ (d : Option ℕ). found (first_not_slack observations weights flows (stated_height certificate.heights)) (cost observations weights (stated_height certificate.heights)) (not_slack_in observations weights flows certificate.low) d)
      (span_is certificate.high (listed_in maps.high) flows maps_are.high)

-- the verdict where no flow is too large and no point out of balance
pub flow_is : (observations : List Observed) (benchmarks : BenchmarkRows) (weights : WeightRows) (certificate : Certified) → None ≡ first_too_large observations weights certificate.flows → None ≡ first_unbalanced observations benchmarks certificate.flows
    → slack_verdict observations weights certificate ≡ flow_verdict observations benchmarks weights certificate
flow_is observations benchmarks weights certificate none balanced =
    ap (λ (f : Option (List ℕ)). if_found f Unbalanced (slack_verdict observations weights certificate)) balanced
    ∙ ap (λ (f : Option ℕ). if_found f FlowTooLarge (if_found (first_unbalanced observations benchmarks certificate.flows) Unbalanced (slack_verdict observations weights certificate))) none
