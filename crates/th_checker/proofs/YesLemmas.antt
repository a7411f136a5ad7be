-- What a yes says, and when it is said.
use Rattle.std.proofs.Common.{◌≡◌, ◌≤◌, ◌+◌, ◌*◌, ◌==◌, ◌&&◌, ℕ, ℤ, pos, ◌*ℤ◌, not, Bool, true, false, cond, if◌then◌else◌, List, [], ◌∷◌, length, Option, Some, None, find, bytes_eq, is_none, nat_lt, unsigned_abs, refl, sym, ap, ◌∙◌, arith}
use Rattle.std.specs.List.{AllByRecursion, AllZip, position_from, zip}
use Rattle.std.specs.Ordering.{int_eq}
use Rattle.std.proofs.lemmas.Bool.Decides.{Decides-int_eq, nat_tests}
use Rattle.std.proofs.lemmas.List.Elements.{All-from_recursion}
use Rattle.std.proofs.lemmas.Slice.Eq.{bytes_eq-Decides}
use Rattle.th_observations.specs.Observed.{Observed}
use Rattle.th_tables.specs.Rows.{BenchmarkRows, WeightRows, height_of, weight_of}
use Rattle.th_network.specs.Circulation.{Circulation, Shows, arriving, leaving}
use Rattle.th_network.specs.Heights.{IsHeights, LeastFine, cost, residual}
use Rattle.th_points.specs.Points.{points}
use Rattle.th_network.proofs.Slackness.{slackness}
use Rattle.th_certificate.specs.Certified.{Certified, HeightRows, stated_height}
use Rattle.th_certificate.proofs.NumberLemmas.{first_of, second_of}
use Rattle.th_checker.specs.Accepted.{AreShownRows, IsShown}
use Rattle.std.specs.Prelude.{IfSome}
use Rattle.th_checker.specs.Verdicts.{first_not_slack, first_too_large, first_unbalanced, flow_verdict, if_found, if_there, is_slack, keeps, map_verdict, names_are, not_slack_in, of_all_maps, slack_verdict, unless, verdict_of}
use Rattle.th_checker.specs.declared.verdicts.Reason.{Reason}
use Rattle.th_checker.specs.declared.verdicts.Reason.TheVariants.{PointsDiffer, BenchmarkMoved, FlowCount, FlowTooLarge, Unbalanced, NotSlack, WrongCost, LowNotSlack, HighNotSlack}
use Rattle.th_checker.specs.declared.verdicts.Verdict.{Verdict}
use Rattle.th_checker.specs.declared.verdicts.Verdict.TheVariants.{Yes}

-- a test that has to hold for a yes, and what comes after
unless_yes : (holds : Bool) (reason : Reason) (later : Verdict) → unless holds reason later ≡ Yes → (holds ≡ true) × (later ≡ Yes)
unless_yes true reason later h = (refl, h)
unless_yes false reason later h = cc h

-- what must not be found for a yes, and what comes after
if_found_yes : {A : Type 0} (found : Option A) (make : A → Reason) (later : Verdict) → if_found found make later ≡ Yes → (found ≡ None) × (later ≡ Yes)
if_found_yes None make later h = (refl, h)
if_found_yes (Some it) make later h = cc h

same_number : (m n : ℕ) → (m == n) ≡ true → m ≡ n
same_number m n h = grind (arith, nat_tests)

-- rows that keep each benchmark are heights
keeps_heights : (benchmarks : BenchmarkRows) (rows : HeightRows) → keeps benchmarks rows ≡ true → IsHeights benchmarks (stated_height rows)
keeps_heights [] rows h name height found = cc found
keeps_heights (row ∷ benchmarks) rows h name height found =
    by (bytes_eq name row.0) (bytes_eq-Decides name row.0).0 (keeps_heights benchmarks rows (second_of (int_eq (stated_height rows row.0) row.1) (keeps benchmarks rows) h) name height) found
  where
    kept : stated_height rows row.0 ≡ row.1
    kept = (Decides-int_eq (stated_height rows row.0) row.1).0 (first_of (int_eq (stated_height rows row.0) row.1) (keeps benchmarks rows) h)

    by : (same : Bool) → (same ≡ true → name ≡ row.0) → (height_of benchmarks name ≡ Some height → stated_height rows name ≡ height) → (if same then Some row.1 else height_of benchmarks name) ≡ Some height → stated_height rows name ≡ height
    by true equal more found =
        let value : row.1 ≡ height = cc in
        ap (stated_height rows) (equal refl) ∙ kept ∙ value
    by false equal more found = more found

-- no flow is too large
bounded_of : (weights : WeightRows) (observations : List Observed) (flows : List ℤ) (n : ℕ) → length flows ≡ length observations
    → position_from (λ pair. nat_lt (weight_of weights pair.0.station pair.0.target) (unsigned_abs pair.1)) n (zip observations flows) ≡ None → AllZip (λ o flow. unsigned_abs flow ≤ weight_of weights o.station o.target) observations flows
bounded_of weights [] [] n same none = tt
bounded_of weights [] (flow ∷ flows) n same none = absurd (omega arith)
bounded_of weights (o ∷ observations) [] n same none = absurd (omega arith)
bounded_of weights (o ∷ observations) (flow ∷ flows) n same none =
    by (nat_lt (weight_of weights o.station o.target) (unsigned_abs flow)) refl (bounded_of weights observations flows (n + 1) (omega arith)) none
  where
    by : (large : Bool) → nat_lt (weight_of weights o.station o.target) (unsigned_abs flow) ≡ large
        → (position_from (λ pair. nat_lt (weight_of weights pair.0.station pair.0.target) (unsigned_abs pair.1)) (n + 1) (zip observations flows) ≡ None → AllZip (λ o flow. unsigned_abs flow ≤ weight_of weights o.station o.target) observations flows)
        → cond large (Some n) (position_from (λ pair. nat_lt (weight_of weights pair.0.station pair.0.target) (unsigned_abs pair.1)) (n + 1) (zip observations flows)) ≡ None
        → (unsigned_abs flow ≤ weight_of weights o.station o.target) × AllZip (λ o flow. unsigned_abs flow ≤ weight_of weights o.station o.target) observations flows
    by true is more none = cc none
    by false is more none = (let within : unsigned_abs flow ≤ weight_of weights o.station o.target = grind (arith, nat_tests) in within, more none)

-- each flow is slack
shows_of : (weights : WeightRows) (heights : List ℕ → ℤ) (observations : List Observed) (flows : List ℤ) (n : ℕ) → length flows ≡ length observations
    → position_from (λ pair. not (is_slack weights heights pair.0 pair.1)) n (zip observations flows) ≡ None → Shows observations weights flows heights
shows_of weights heights [] [] n same none = tt
shows_of weights heights [] (flow ∷ flows) n same none = absurd (omega arith)
shows_of weights heights (o ∷ observations) [] n same none = absurd (omega arith)
shows_of weights heights (o ∷ observations) (flow ∷ flows) n same none =
    by (is_slack weights heights o flow) (Decides-int_eq _ _).0 (shows_of weights heights observations flows (n + 1) (omega arith)) none
  where
    by : (slack : Bool) → (slack ≡ true → flow *ℤ residual o heights ≡ pos (weight_of weights o.station o.target * unsigned_abs (residual o heights)))
        → (position_from (λ pair. not (is_slack weights heights pair.0 pair.1)) (n + 1) (zip observations flows) ≡ None → Shows observations weights flows heights)
        → cond (not slack) (Some n) (position_from (λ pair. not (is_slack weights heights pair.0 pair.1)) (n + 1) (zip observations flows)) ≡ None
        → (flow *ℤ residual o heights ≡ pos (weight_of weights o.station o.target * unsigned_abs (residual o heights))) × Shows observations weights flows heights
    by true equal more none = (equal refl, more none)
    by false equal more none = cc none

-- no point is out of balance
balanced_of : (observations : List Observed) (benchmarks : BenchmarkRows) (flows : List ℤ) (names : List (List ℕ))
    → find (λ point. is_none (height_of benchmarks point) && not (int_eq (arriving observations flows point) (leaving observations flows point))) names ≡ None
    → AllByRecursion (λ point. height_of benchmarks point ≡ None → arriving observations flows point ≡ leaving observations flows point) names
balanced_of observations benchmarks flows [] none = tt
balanced_of observations benchmarks flows (name ∷ names) none =
    by (int_eq (arriving observations flows name) (leaving observations flows name)) (Decides-int_eq _ _).0 (height_of benchmarks name) (balanced_of observations benchmarks flows names) none
  where
    by : (same : Bool) → (same ≡ true → arriving observations flows name ≡ leaving observations flows name) → (height : Option ℤ)
        → (find (λ point. is_none (height_of benchmarks point) && not (int_eq (arriving observations flows point) (leaving observations flows point))) names ≡ None
        → AllByRecursion (λ point. height_of benchmarks point ≡ None → arriving observations flows point ≡ leaving observations flows point) names)
        → cond (is_none height && not same) (Some name) (find (λ point. is_none (height_of benchmarks point) && not (int_eq (arriving observations flows point) (leaving observations flows point))) names) ≡ None
        → (height ≡ None → arriving observations flows name ≡ leaving observations flows name) × AllByRecursion (λ point. height_of benchmarks point ≡ None → arriving observations flows point ≡ leaving observations flows point) names
    by true equal None more none = (λ _. equal refl, more none)
    by true equal (Some height) more none = (λ h. equal refl, more none)
    by false equal None more none = cc none
    by false equal (Some height) more none = (λ h. cc h, more none)

-- what a yes says of the flows and of each map
pub record SaysYes (observations : List Observed) (benchmarks : BenchmarkRows) (weights : WeightRows) (certificate : Certified) : Type 0 where
  pub names : of_all_maps (names_are (points observations benchmarks)) certificate ≡ true
  pub kept : of_all_maps (keeps benchmarks) certificate ≡ true
  pub costs : certificate.cost ≡ cost observations weights (stated_height certificate.heights)
  pub count : length certificate.flows ≡ length observations
  pub circulation : Circulation observations benchmarks weights certificate.flows
  pub slack : first_not_slack observations weights certificate.flows (stated_height certificate.heights) ≡ None
  pub low : not_slack_in observations weights certificate.flows certificate.low ≡ None
  pub high : not_slack_in observations weights certificate.flows certificate.high ≡ None

pub says_yes : (observations : List Observed) (benchmarks : BenchmarkRows) (weights : WeightRows) (certificate : Certified) → verdict_of observations benchmarks weights certificate ≡ Yes → SaysYes observations benchmarks weights certificate
says_yes observations benchmarks weights certificate h =
    let flows = certificate.flows in
    let a = unless_yes (of_all_maps (names_are (points observations benchmarks)) certificate) PointsDiffer (map_verdict observations benchmarks weights certificate) h in
    let b = unless_yes (of_all_maps (keeps benchmarks) certificate) BenchmarkMoved _ a.1 in
    let c = unless_yes (length flows == length observations) FlowCount (flow_verdict observations benchmarks weights certificate) b.1 in
    let d = if_found_yes (first_too_large observations weights flows) FlowTooLarge _ c.1 in
    let e = if_found_yes (first_unbalanced observations benchmarks flows) Unbalanced (slack_verdict observations weights certificate) d.1 in
    let f = if_found_yes (first_not_slack observations weights flows (stated_height certificate.heights)) NotSlack _ e.1 in
    let g = unless_yes (certificate.cost == cost observations weights (stated_height certificate.heights)) WrongCost _ f.1 in
    let i = if_found_yes (not_slack_in observations weights flows certificate.low) LowNotSlack _ g.1 in
    let j = if_found_yes (not_slack_in observations weights flows certificate.high) HighNotSlack Yes i.1 in
    let count = same_number (length flows) (length observations) c.0 in
    record {
      names = a.0;
      kept = b.0;
      costs = same_number certificate.cost (cost observations weights (stated_height certificate.heights)) g.0;
      count = count;
      circulation = record {
        bounded = bounded_of weights observations flows 1 count d.0;
        balanced = All-from_recursion (λ point. height_of benchmarks point ≡ None → arriving observations flows point ≡ leaving observations flows point) (points observations benchmarks)
            (balanced_of observations benchmarks flows (points observations benchmarks) e.0);
      };
      slack = f.0;
      low = i.0;
      high = j.0;
    }

-- rows that keep the benchmarks and are slack are least
rows_least : (observations : List Observed) (benchmarks : BenchmarkRows) (weights : WeightRows) (flows : List ℤ) (rows : HeightRows) → length flows ≡ length observations → Circulation observations benchmarks weights flows
    → keeps benchmarks rows ≡ true → first_not_slack observations weights flows (stated_height rows) ≡ None → LeastFine observations benchmarks weights (stated_height rows)
rows_least observations benchmarks weights flows rows count circulation kept slack =
    slackness observations benchmarks weights (stated_height rows) flows (keeps_heights benchmarks rows kept) circulation (shows_of weights (stated_height rows) observations flows 1 count slack)

-- a yes implies that the heights are least
pub yes_least : (observations : List Observed) (benchmarks : BenchmarkRows) (weights : WeightRows) (certificate : Certified) → verdict_of observations benchmarks weights certificate ≡ Yes
    → LeastFine observations benchmarks weights (stated_height certificate.heights)
yes_least observations benchmarks weights certificate h =
    let says = says_yes observations benchmarks weights certificate h in
    rows_least observations benchmarks weights certificate.flows certificate.heights says.count says.circulation
    (first_of (keeps benchmarks certificate.heights) (if_there (keeps benchmarks) certificate.low && if_there (keeps benchmarks) certificate.high) says.kept) says.slack

-- and so are those of a span
span_least : (observations : List Observed) (benchmarks : BenchmarkRows) (weights : WeightRows) (flows : List ℤ) (span : Option HeightRows) (rows : HeightRows) → span ≡ Some rows → length flows ≡ length observations
    → Circulation observations benchmarks weights flows → if_there (keeps benchmarks) span ≡ true → not_slack_in observations weights flows span ≡ None → LeastFine observations benchmarks weights (stated_height rows)
span_least observations benchmarks weights flows span rows is count circulation kept slack =
    rows_least observations benchmarks weights flows rows count circulation (ap (if_there (keeps benchmarks)) (sym is) ∙ kept) (ap (not_slack_in observations weights flows) (sym is) ∙ slack)

pub yes_least_low : (observations : List Observed) (benchmarks : BenchmarkRows) (weights : WeightRows) (certificate : Certified) (rows : HeightRows) → verdict_of observations benchmarks weights certificate ≡ Yes
    → certificate.low ≡ Some rows → LeastFine observations benchmarks weights (stated_height rows)
yes_least_low observations benchmarks weights certificate rows h is =
    let says = says_yes observations benchmarks weights certificate h in
    let spans = second_of (keeps benchmarks certificate.heights) (if_there (keeps benchmarks) certificate.low && if_there (keeps benchmarks) certificate.high) says.kept in
    span_least observations benchmarks weights certificate.flows certificate.low rows is says.count says.circulation (first_of (if_there (keeps benchmarks) certificate.low) (if_there (keeps benchmarks) certificate.high) spans) says.low

pub yes_least_high : (observations : List Observed) (benchmarks : BenchmarkRows) (weights : WeightRows) (certificate : Certified) (rows : HeightRows) → verdict_of observations benchmarks weights certificate ≡ Yes
    → certificate.high ≡ Some rows → LeastFine observations benchmarks weights (stated_height rows)
yes_least_high observations benchmarks weights certificate rows h is =
    let says = says_yes observations benchmarks weights certificate h in
    let spans = second_of (keeps benchmarks certificate.heights) (if_there (keeps benchmarks) certificate.low && if_there (keeps benchmarks) certificate.high) says.kept in
    span_least observations benchmarks weights certificate.flows certificate.high rows is says.count says.circulation (second_of (if_there (keeps benchmarks) certificate.low) (if_there (keeps benchmarks) certificate.high) spans) says.high

-- rows that pass the tests are shown
rows_shown : (observations : List Observed) (benchmarks : BenchmarkRows) (weights : WeightRows) (flows : List ℤ) (rows : HeightRows) → length flows ≡ length observations → names_are (points observations benchmarks) rows ≡ true
    → keeps benchmarks rows ≡ true → first_not_slack observations weights flows (stated_height rows) ≡ None → AreShownRows observations benchmarks weights flows rows
rows_shown observations benchmarks weights flows rows count names kept slack =
    record { names = names; kept = keeps_heights benchmarks rows kept; shows = shows_of weights (stated_height rows) observations flows 1 count slack }

span_shown : (observations : List Observed) (benchmarks : BenchmarkRows) (weights : WeightRows) (flows : List ℤ) (span : Option HeightRows) → length flows ≡ length observations → if_there (names_are (points observations benchmarks)) span ≡ true
    → if_there (keeps benchmarks) span ≡ true → not_slack_in observations weights flows span ≡ None → IfSome span (AreShownRows observations benchmarks weights flows)
span_shown observations benchmarks weights flows None count names kept slack = tt
span_shown observations benchmarks weights flows (Some rows) count names kept slack = rows_shown observations benchmarks weights flows rows count names kept slack

pub yes_shown : (observations : List Observed) (benchmarks : BenchmarkRows) (weights : WeightRows) (certificate : Certified) → verdict_of observations benchmarks weights certificate ≡ Yes → IsShown observations benchmarks weights certificate
yes_shown observations benchmarks weights certificate h =
    let says = says_yes observations benchmarks weights certificate h in
    let names = names_are (points observations benchmarks) in
    let keep = keeps benchmarks in
    let spans_named = second_of (names certificate.heights) (if_there names certificate.low && if_there names certificate.high) says.names in
    let spans_kept = second_of (keep certificate.heights) (if_there keep certificate.low && if_there keep certificate.high) says.kept in
    record {
      circulation = says.circulation;
      heights = rows_shown observations benchmarks weights certificate.flows certificate.heights says.count
          (first_of (names certificate.heights) (if_there names certificate.low && if_there names certificate.high) says.names)
          (first_of (keep certificate.heights) (if_there keep certificate.low && if_there keep certificate.high) says.kept) says.slack;
      low = span_shown observations benchmarks weights certificate.flows certificate.low says.count (first_of (if_there names certificate.low) (if_there names certificate.high) spans_named)
          (first_of (if_there keep certificate.low) (if_there keep certificate.high) spans_kept) says.low;
      high = span_shown observations benchmarks weights certificate.flows certificate.high says.count (second_of (if_there names certificate.low) (if_there names certificate.high) spans_named)
          (second_of (if_there keep certificate.low) (if_there keep certificate.high) spans_kept) says.high;
      costs = says.costs;
    }
