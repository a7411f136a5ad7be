-- The verdict on a certificate.
use Rattle.std.specs.Prelude.{ℕ, ℤ, ◌*◌, ◌*ℤ◌, pos, ◌&&◌, ◌==◌, not, Bool, true, List, length, Option, Some, None, find, if◌then◌else◌, bytes_eq, is_none, nat_lt, unsigned_abs}
use Rattle.std.specs.List.{list_all, list_any, position_from, zip}
use Rattle.std.specs.Map.{keys_of}
use Rattle.std.specs.Ordering.{int_eq}
use Rattle.th_observations.specs.Observed.{Observed}
use Rattle.th_tables.specs.Rows.{BenchmarkRows, WeightRows, height_of, weight_of}
use Rattle.th_network.specs.Circulation.{arriving, leaving}
use Rattle.th_network.specs.Heights.{cost, residual}
use Rattle.th_points.specs.Points.{points}
use Rattle.th_certificate.specs.Certified.{Certified, HeightRows, stated_height}
use Rattle.th_checker.specs.declared.verdicts.Reason.{Reason}
use Rattle.th_checker.specs.declared.verdicts.Reason.TheVariants.{PointsDiffer, BenchmarkMoved, FlowCount, FlowTooLarge, Unbalanced, NotSlack, WrongCost, LowNotSlack, HighNotSlack}
use Rattle.th_checker.specs.declared.verdicts.Verdict.{Verdict}
use Rattle.th_checker.specs.declared.verdicts.Verdict.TheVariants.{Yes, No}

-- whether the names of some rows are exactly these points
abbrev pub names_are : List (List ℕ) → HeightRows → Bool
names_are names rows = list_all (λ name. list_any (bytes_eq name) (keys_of rows)) names && list_all (λ row. list_any (bytes_eq row.0) names) rows

-- whether rows keep the height of each benchmark
abbrev pub keeps : BenchmarkRows → HeightRows → Bool
keeps benchmarks rows = list_all (λ benchmark. int_eq (stated_height rows benchmark.0) benchmark.1) benchmarks

-- a test of optional rows, which passes if there are none
abbrev pub if_there : (HeightRows → Bool) → Option HeightRows → Bool
if_there test (Some rows) = test rows
if_there test None = true

-- a test of all maps of a certificate
abbrev pub of_all_maps : (HeightRows → Bool) → Certified → Bool
of_all_maps test certificate = test certificate.heights && (if_there test certificate.low && if_there test certificate.high)

-- the number, from 1, of the first observation whose flow is above its weight in size
abbrev pub first_too_large : List Observed → WeightRows → List ℤ → Option ℕ
first_too_large observations weights flows = position_from (λ pair. nat_lt (weight_of weights pair.0.station pair.0.target) (unsigned_abs pair.1)) 1 (zip observations flows)

-- the first point that is no benchmark where arriving and leaving flows differ
abbrev pub first_unbalanced : List Observed → BenchmarkRows → List ℤ → Option (List ℕ)
first_unbalanced observations benchmarks flows =
    find (λ point. is_none (height_of benchmarks point) && not (int_eq (arriving observations flows point) (leaving observations flows point))) (points observations benchmarks)

-- whether a flow is the whole weight of its observation, with the sign of the residual, or the residual is zero
abbrev pub is_slack : WeightRows → (List ℕ → ℤ) → Observed → ℤ → Bool
is_slack weights heights o flow = int_eq (flow *ℤ residual o heights) (pos (weight_of weights o.station o.target * unsigned_abs (residual o heights)))

-- the number, from 1, of the first observation that is not slack at these heights
abbrev pub first_not_slack : List Observed → WeightRows → List ℤ → (List ℕ → ℤ) → Option ℕ
first_not_slack observations weights flows heights = position_from (λ pair. not (is_slack weights heights pair.0 pair.1)) 1 (zip observations flows)

-- the same for optional rows; none if there are no rows
abbrev pub not_slack_in : List Observed → WeightRows → List ℤ → Option HeightRows → Option ℕ
not_slack_in observations weights flows (Some rows) = first_not_slack observations weights flows (stated_height rows)
not_slack_in observations weights flows None = None

-- a reason if the test fails, else the later verdict
abbrev pub unless : Bool → Reason → Verdict → Verdict
unless holds reason later = if holds then later else No reason

-- a reason with what was found, else the later verdict
abbrev pub if_found : {A : Type 0} → Option A → (A → Reason) → Verdict → Verdict
if_found (Some it) make later = No (make it)
if_found None make later = later

-- the verdict on flows that are in balance: slackness of the heights, the cost, and slackness of the lowest and of the highest heights
abbrev pub slack_verdict : List Observed → WeightRows → Certified → Verdict
slack_verdict observations weights certificate =
    if_found (first_not_slack observations weights certificate.flows (stated_height certificate.heights)) NotSlack
    (unless (certificate.cost == cost observations weights (stated_height certificate.heights)) WrongCost
    (if_found (not_slack_in observations weights certificate.flows certificate.low) LowNotSlack
    (if_found (not_slack_in observations weights certificate.flows certificate.high) HighNotSlack
    Yes)))

-- the verdict on flows, one for each observation: their size, their balance, and then slackness
abbrev pub flow_verdict : List Observed → BenchmarkRows → WeightRows → Certified → Verdict
flow_verdict observations benchmarks weights certificate =
    if_found (first_too_large observations weights certificate.flows) FlowTooLarge
    (if_found (first_unbalanced observations benchmarks certificate.flows) Unbalanced
    (slack_verdict observations weights certificate))

-- the verdict on maps whose names are the points: the benchmarks, the count of flows, and then the flows
abbrev pub map_verdict : List Observed → BenchmarkRows → WeightRows → Certified → Verdict
map_verdict observations benchmarks weights certificate =
    unless (of_all_maps (keeps benchmarks) certificate) BenchmarkMoved
    (unless (length certificate.flows == length observations) FlowCount
    (flow_verdict observations benchmarks weights certificate))

-- the verdict on a certificate: the first reason that applies, in this order, else yes
abbrev pub verdict_of : List Observed → BenchmarkRows → WeightRows → Certified → Verdict
verdict_of observations benchmarks weights certificate =
    unless (of_all_maps (names_are (points observations benchmarks)) certificate) PointsDiffer (map_verdict observations benchmarks weights certificate)
