-- The tests of observations, using the places of their ends among the points.
use Rattle.std.specs.Prelude.{◌≡◌, ◌<◌, ◌≤◌, ◌==◌, ◌&&◌, ℕ, ℤ, ◌*◌, pos, ◌-ℤ◌, ◌*ℤ◌, not, Bool, List, [], ◌∷◌, All, IfSome, Option, Some, None, ⊤, map, nat_lt, sum_by, length, get_or, if◌then◌else◌, is_none, unsigned_abs}
use Rattle.std.specs.Ordering.{int_eq}
use Rattle.th_observations.specs.Observed.{Observed}
use Rattle.th_tables.specs.Rows.{BenchmarkRows, height_of}
use Rattle.th_points.specs.Ends.{AreBelow}
use Rattle.th_network.specs.Circulation.{total_by}
use Rattle.std.specs.List.{position_from, zip}
use Rattle.th_certificate.specs.Certified.{AreFlows, Certified, HeightRows, stated_height}
use Rattle.th_network.specs.Limits.{height_limit, max_observations}
use Rattle.th_checker.specs.Verdicts.{if_found, unless}
use Rattle.th_checker.specs.declared.maps.Maps.{Maps}
use Rattle.th_checker.specs.declared.maps.SpanHeights.{SpanHeights}
use Rattle.th_checker.specs.declared.maps.SpanHeights.TheVariants.{Absent, Listed}
use Rattle.th_checker.specs.declared.verdicts.Reason.TheVariants.{NotSlack, WrongCost, LowNotSlack, HighNotSlack}
use Rattle.th_checker.specs.declared.verdicts.Verdict.{Verdict}
use Rattle.th_checker.specs.declared.verdicts.Verdict.TheVariants.{Yes}

-- the residual of an observation over listed heights, given the places of its station and its target
abbrev pub residual_at : List ℤ → Observed × (ℕ × ℕ) → ℤ
residual_at heights (o, (station, target)) = o.difference -ℤ (get_or heights target (pos 0) -ℤ get_or heights station (pos 0))

-- whether a flow is the whole weight with the sign of the residual, or the residual is zero
abbrev pub is_slack_at : ℕ × (ℤ × ℤ) → Bool
is_slack_at (weight, (residual, flow)) = int_eq (flow *ℤ residual) (pos (weight * unsigned_abs residual))

-- what one flow adds to the balance of a place: it leaves its station and arrives at its target
abbrev pub added_at : ℕ → (ℕ × ℕ) × ℤ → ℤ
added_at place pair = (if pair.0.1 == place then pair.1 else pos 0) -ℤ (if pair.0.0 == place then pair.1 else pos 0)

-- the balance of each place: the sum of what the flows add there
pub record AreBalances (points : ℕ) (pairs : List ((ℕ × ℕ) × ℤ)) (balances : List ℤ) : Type 0 where
  pub each : length balances ≡ points
  pub sums : (place : ℕ) → place < points → get_or balances place (pos 0) ≡ total_by (added_at place) pairs

-- the first name that is no benchmark and whose balance is not zero
abbrev pub first_place : BenchmarkRows → List (List ℕ) → List ℤ → Option (List ℕ)
first_place benchmarks [] balances = None
first_place benchmarks (name ∷ names) [] = None
first_place benchmarks (name ∷ names) (balance ∷ balances) =
    if not (int_eq balance (pos 0)) && is_none (height_of benchmarks name) then Some name else first_place benchmarks names balances

-- observations, at most as many as a network takes, with ends among this many points, and with a weight, and a flow below 10^9 in size, for each
pub record AreTested (points : ℕ) (observations : List Observed) (ends : List (ℕ × ℕ)) (weights : List ℕ) (flows : List ℤ) : Type 0 where
  pub few : length observations ≤ max_observations
  pub ended : length ends ≡ length observations
  pub within : All (AreBelow points) ends
  pub weighed : length weights ≡ length observations
  pub flowing : length flows ≡ length observations
  pub in_range : AreFlows flows

-- a height for each of this many points, in its range
pub record AreHeightsAt (points : ℕ) (heights : List ℤ) : Type 0 where
  pub each : length heights ≡ points
  pub in_range : All (λ height. unsigned_abs height < height_limit) heights

-- the heights that rows state for these names, in order, and each in its range
pub record AreStated (names : List (List ℕ)) (rows : HeightRows) (heights : List ℤ) : Type 0 where
  pub value : heights ≡ map (stated_height rows) names
  pub in_range : All (λ height. unsigned_abs height < height_limit) heights

-- the same if there are rows, and nothing if there are none
abbrev pub AreListed : List (List ℕ) → Option HeightRows → Option (List ℤ) → Type 0
AreListed names None None = ⊤
AreListed names None (Some heights) = ⊥
AreListed names (Some rows) None = ⊥
AreListed names (Some rows) (Some heights) = AreStated names rows heights

-- the list of the heights of a span, if there is one
abbrev pub listed_in : SpanHeights → Option (List ℤ)
listed_in Absent = None
listed_in (Listed heights) = Some heights.items

-- the heights of a certificate at the points
pub record AreMaps (names : List (List ℕ)) (certificate : Certified) (maps : Maps) : Type 0 where
  pub heights : AreStated names certificate.heights maps.heights.items
  pub low : AreListed names certificate.low (listed_in maps.low)
  pub high : AreListed names certificate.high (listed_in maps.high)

-- each map has a height for each of this many points
pub record AreMapsAt (points : ℕ) (maps : Maps) : Type 0 where
  pub heights : AreHeightsAt points maps.heights.items
  pub low : IfSome (listed_in maps.low) (AreHeightsAt points)
  pub high : IfSome (listed_in maps.high) (AreHeightsAt points)

-- the number, counted from 1, of the first observation whose flow is above its weight in size
abbrev pub too_large_at : List ℕ → List ℤ → Option ℕ
too_large_at weights flows = position_from (λ pair. nat_lt pair.0 (unsigned_abs pair.1)) 1 (zip weights flows)

-- the residual of each observation over listed heights
abbrev pub residuals_at : List (Observed × (ℕ × ℕ)) → List ℤ → List ℤ
residuals_at ended heights = map (residual_at heights) ended

-- the number, counted from 1, of the first observation that is not slack over listed heights
abbrev pub not_slack_at : List ℕ → List (Observed × (ℕ × ℕ)) → List ℤ → List ℤ → Option ℕ
not_slack_at weights ended flows heights = position_from (λ it. not (is_slack_at it)) 1 (zip weights (zip (residuals_at ended heights) flows))

-- the same for an optional map
abbrev pub span_not_slack_at : List ℕ → List (Observed × (ℕ × ℕ)) → List ℤ → Option (List ℤ) → Option ℕ
span_not_slack_at weights ended flows (Some heights) = not_slack_at weights ended flows heights
span_not_slack_at weights ended flows None = None

-- the cost of listed heights
abbrev pub cost_at : List ℕ → List (Observed × (ℕ × ℕ)) → List ℤ → ℕ
cost_at weights ended heights = sum_by (λ pair. pair.0 * unsigned_abs pair.1) (zip weights (residuals_at ended heights))

-- the verdict on slackness and cost, over listed heights
abbrev pub slack_verdict_at : List ℕ → List (Observed × (ℕ × ℕ)) → Certified → List ℤ → Option (List ℤ) → Option (List ℤ) → Verdict
slack_verdict_at weights ended certificate heights low high =
    if_found (not_slack_at weights ended certificate.flows heights) NotSlack
    (unless (certificate.cost == cost_at weights ended heights) WrongCost
    (if_found (span_not_slack_at weights ended certificate.flows low) LowNotSlack
    (if_found (span_not_slack_at weights ended certificate.flows high) HighNotSlack
    Yes)))
