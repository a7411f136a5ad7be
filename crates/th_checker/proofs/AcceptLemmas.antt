-- A certificate of heights that a circulation shows is accepted.
use Rattle.std.proofs.Common.{◌≡◌, ◌≤◌, ◌+◌, ◌*◌, ◌&&◌, ◌||◌, ℕ, ℤ, pos, ◌-ℤ◌, ◌*ℤ◌, not, Bool, true, false, cond, if◌then◌else◌, List, [], ◌∷◌, Option, Some, None, find, bytes_eq, is_none, nat_lt, unsigned_abs, refl, sym, ap, ◌∙◌, arith}
use Rattle.std.specs.Cmp.Lexicographic.{nat_list_eq_equiv}
use Rattle.std.specs.List.{AllByRecursion, AllZip, IsDistinct, list_all, list_any, position_from, zip}
use Rattle.std.specs.Map.{keys_of}
use Rattle.std.specs.Ordering.{int_eq}
use Rattle.std.proofs.lemmas.Bool.Decides.{Decides-int_eq, nat_tests}
use Rattle.std.proofs.lemmas.List.Sums.{sum_by-cons}
use Rattle.std.proofs.lemmas.Map.Keys.{IsDistinct-head, IsDistinct-tail}
use Rattle.std.proofs.lemmas.Slice.Eq.{bytes_eq-Decides}
use Rattle.th_observations.specs.Observed.{Observed}
use Rattle.th_tables.specs.Rows.{BenchmarkRows, WeightRows, height_of, weight_of}
use Rattle.th_network.specs.Circulation.{Shows, arriving, leaving}
use Rattle.th_network.specs.Heights.{IsHeights, cost, residual}
use Rattle.th_points.proofs.PointLemmas.{EndsAmong, bytes_eq_same}
use Rattle.th_certificate.specs.Certified.{HeightRows, rows_at, stated_height}
use Rattle.th_certificate.proofs.PointLemmas.{stated_height-rows_at}
use Rattle.th_checker.specs.Verdicts.{is_slack, keeps, names_are}

either_true : (a b : Bool) → b ≡ true → (a || b) ≡ true
either_true true b h = refl
either_true false b h = h

or_first : (a b : Bool) → a ≡ true → (a || b) ≡ true
or_first a b h = ap (λ t. t || b) h

-- ---- names

keys_of-rows_at : (names : List (List ℕ)) (heights : List ℕ → ℤ) → keys_of (rows_at names heights) ≡ names
keys_of-rows_at [] heights = refl
keys_of-rows_at (name ∷ names) heights = ap (λ rest. name ∷ rest) (keys_of-rows_at names heights)

-- names that are all in a list
all_among : (names all : List (List ℕ)) → ((name : List ℕ) → list_any (bytes_eq name) names ≡ true → list_any (bytes_eq name) all ≡ true) → list_all (λ name. list_any (bytes_eq name) all) names ≡ true
all_among [] all has = refl
all_among (name ∷ names) all has =
    ap (λ b. b && list_all (λ name. list_any (bytes_eq name) all) names) (has name (or_first (bytes_eq name name) (list_any (bytes_eq name) names) (bytes_eq_same name)))
    ∙ all_among names all (λ other among. has other (either_true (bytes_eq other name) (list_any (bytes_eq other) names) among))

rows_among : (names all : List (List ℕ)) (heights : List ℕ → ℤ) → list_all (λ row. list_any (bytes_eq row.0) all) (rows_at names heights) ≡ list_all (λ name. list_any (bytes_eq name) all) names
rows_among [] all heights = refl
rows_among (name ∷ names) all heights = ap (λ b. list_any (bytes_eq name) all && b) (rows_among names all heights)

pub names_are-rows_at : (names : List (List ℕ)) (heights : List ℕ → ℤ) → names_are names (rows_at names heights) ≡ true
names_are-rows_at names heights =
    ap (λ keys. list_all (λ name. list_any (bytes_eq name) keys) names && list_all (λ row. list_any (bytes_eq row.0) names) (rows_at names heights)) (keys_of-rows_at names heights)
    ∙ ap (λ b. b && list_all (λ row. list_any (bytes_eq row.0) names) (rows_at names heights)) (all_among names names (λ name among. among))
    ∙ rows_among names names heights ∙ all_among names names (λ name among. among)

-- ---- benchmarks

-- the height of a benchmark by its row
found_first : (benchmarks : BenchmarkRows) (row : List ℕ × ℤ) → height_of (row ∷ benchmarks) row.0 ≡ Some row.1
found_first benchmarks row = ap (λ same. if same then Some row.1 else height_of benchmarks row.0) (bytes_eq_same row.0)

pub keeps-rows : (benchmarks : BenchmarkRows) (rows : HeightRows) (heights : List ℕ → ℤ) → AllByRecursion (λ row. stated_height rows row.0 ≡ heights row.0) benchmarks → AllByRecursion (λ row. heights row.0 ≡ row.1) benchmarks → keeps benchmarks rows ≡ true
keeps-rows [] rows heights states keeps_each = refl
keeps-rows (row ∷ benchmarks) rows heights states keeps_each =
    ap (λ b. b && keeps benchmarks rows) ((Decides-int_eq (stated_height rows row.0) row.1).1 (states.0 ∙ keeps_each.0)) ∙ keeps-rows benchmarks rows heights states.1 keeps_each.1

-- heights keep each row of benchmarks that have each name once
pub keep_each : (benchmarks : BenchmarkRows) (heights : List ℕ → ℤ) → IsDistinct bytes_eq (keys_of benchmarks) → IsHeights benchmarks heights → AllByRecursion (λ row. heights row.0 ≡ row.1) benchmarks
keep_each [] heights distinct are = tt
keep_each (row ∷ benchmarks) heights distinct are = (
  are row.0 row.1 (found_first benchmarks row),
  keep_each benchmarks heights (IsDistinct-tail bytes_eq row.0 (keys_of benchmarks) distinct) (λ name height found. are name height (further name height found)),
)
  where
    apart : (rows : BenchmarkRows) (name : List ℕ) (height : ℤ) → AllByRecursion (λ other. bytes_eq row.0 other ≡ false) (keys_of rows) → height_of rows name ≡ Some height → bytes_eq row.0 name ≡ false
    apart [] name height each found = cc found
    apart (next ∷ rows) name height each found = by (bytes_eq name next.0) (bytes_eq-Decides name next.0).0 (apart rows name height each.1) found
      where
        by : (same : Bool) → (same ≡ true → name ≡ next.0) → (height_of rows name ≡ Some height → bytes_eq row.0 name ≡ false) → (if same then Some next.1 else height_of rows name) ≡ Some height → bytes_eq row.0 name ≡ false
        by true equal more found = ap (bytes_eq row.0) (equal refl) ∙ each.0
        by false equal more found = more found

    further : (name : List ℕ) (height : ℤ) → height_of benchmarks name ≡ Some height → height_of (row ∷ benchmarks) name ≡ Some height
    further name height found =
        ap (λ same. if same then Some row.1 else height_of benchmarks name) (nat_list_eq_equiv.symm name row.0 ∙ apart benchmarks name height (IsDistinct-head bytes_eq row.0 (keys_of benchmarks) distinct) found) ∙ found

-- ---- flows

pub none_too_large : (weights : WeightRows) (observations : List Observed) (flows : List ℤ) (n : ℕ) → AllZip (λ o flow. unsigned_abs flow ≤ weight_of weights o.station o.target) observations flows
    → position_from (λ pair. nat_lt (weight_of weights pair.0.station pair.0.target) (unsigned_abs pair.1)) n (zip observations flows) ≡ None
none_too_large weights [] [] n each = refl
none_too_large weights [] (flow ∷ flows) n each = absurd each
none_too_large weights (o ∷ observations) [] n each = absurd each
none_too_large weights (o ∷ observations) (flow ∷ flows) n each =
    let within = each.0 in
    let test : nat_lt (weight_of weights o.station o.target) (unsigned_abs flow) ≡ false = grind (arith, nat_tests) in
    ap (λ b. cond b (Some n) (position_from (λ pair. nat_lt (weight_of weights pair.0.station pair.0.target) (unsigned_abs pair.1)) (n + 1) (zip observations flows))) test
    ∙ none_too_large weights observations flows (n + 1) each.1

pub none_unbalanced : (observations : List Observed) (benchmarks : BenchmarkRows) (flows : List ℤ) (names : List (List ℕ))
    → AllByRecursion (λ point. height_of benchmarks point ≡ None → arriving observations flows point ≡ leaving observations flows point) names
    → find (λ point. is_none (height_of benchmarks point) && not (int_eq (arriving observations flows point) (leaving observations flows point))) names ≡ None
none_unbalanced observations benchmarks flows [] each = refl
none_unbalanced observations benchmarks flows (name ∷ names) each =
    by (height_of benchmarks name) each.0 ∙ none_unbalanced observations benchmarks flows names each.1
  where
    by : (height : Option ℤ) → (height ≡ None → arriving observations flows name ≡ leaving observations flows name)
        → cond (is_none height && not (int_eq (arriving observations flows name) (leaving observations flows name))) (Some name) (find (λ point. is_none (height_of benchmarks point) && not (int_eq (arriving observations flows point) (leaving observations flows point))) names)
        ≡ find (λ point. is_none (height_of benchmarks point) && not (int_eq (arriving observations flows point) (leaving observations flows point))) names
    by None equal =
        ap (λ b. cond (not b) (Some name) (find (λ point. is_none (height_of benchmarks point) && not (int_eq (arriving observations flows point) (leaving observations flows point))) names))
        ((Decides-int_eq (arriving observations flows name) (leaving observations flows name)).1 (equal refl))
    by (Some height) equal = refl

-- residuals of maps that agree at the ends
residual_same : (o : Observed) (first second : List ℕ → ℤ) → first o.target ≡ second o.target → first o.station ≡ second o.station → residual o first ≡ residual o second
residual_same o first second a b = ap (λ z. o.difference -ℤ (z -ℤ first o.station)) a ∙ ap (λ z. o.difference -ℤ (second o.target -ℤ z)) b

-- maps that agree at the ends of an observation
abbrev pub AgreeAt : (List ℕ → ℤ) → (List ℕ → ℤ) → Observed → Type 0
AgreeAt first second o = (first o.target ≡ second o.target) × (first o.station ≡ second o.station)

pub none_not_slack : (weights : WeightRows) (stated heights : List ℕ → ℤ) (observations : List Observed) (flows : List ℤ) (n : ℕ) → AllByRecursion (AgreeAt stated heights) observations → Shows observations weights flows heights
    → position_from (λ pair. not (is_slack weights stated pair.0 pair.1)) n (zip observations flows) ≡ None
none_not_slack weights stated heights [] [] n agree shows = refl
none_not_slack weights stated heights [] (flow ∷ flows) n agree shows = absurd shows
none_not_slack weights stated heights (o ∷ observations) [] n agree shows = absurd shows
none_not_slack weights stated heights (o ∷ observations) (flow ∷ flows) n agree shows =
    let same = residual_same o stated heights agree.0.0 agree.0.1 in
    let test : is_slack weights stated o flow ≡ true =
    ap (λ r. int_eq (flow *ℤ r) (pos (weight_of weights o.station o.target * unsigned_abs r))) same ∙ (Decides-int_eq (flow *ℤ residual o heights) (pos (weight_of weights o.station o.target * unsigned_abs (residual o heights)))).1 shows.0 in
    ap (λ b. cond (not b) (Some n) (position_from (λ pair. not (is_slack weights stated pair.0 pair.1)) (n + 1) (zip observations flows))) test
    ∙ none_not_slack weights stated heights observations flows (n + 1) agree.1 shows.1

pub cost_agrees : (weights : WeightRows) (stated heights : List ℕ → ℤ) (observations : List Observed) → AllByRecursion (AgreeAt stated heights) observations → cost observations weights stated ≡ cost observations weights heights
cost_agrees weights stated heights [] agree = refl
cost_agrees weights stated heights (o ∷ observations) agree =
    let f : Observed → ℕ = λ o. weight_of weights o.station o.target * unsigned_abs (residual o stated) in
    let g : Observed → ℕ = λ o. weight_of weights o.station o.target * unsigned_abs (residual o heights) in
    sum_by-cons f o observations
    ∙ ap (λ r. weight_of weights o.station o.target * unsigned_abs r + cost observations weights stated) (residual_same o stated heights agree.0.0 agree.0.1)
    ∙ ap (λ n. g o + n) (cost_agrees weights stated heights observations agree.1)
    ∙ sym (sum_by-cons g o observations)

-- rows of points state heights at the ends, which are points
pub rows_agree : (names : List (List ℕ)) (heights : List ℕ → ℤ) (observations : List Observed) → AllByRecursion (EndsAmong names) observations → AllByRecursion (AgreeAt (stated_height (rows_at names heights)) heights) observations
rows_agree names heights [] among = tt
rows_agree names heights (o ∷ observations) among = (
  (stated_height-rows_at names heights o.target among.0.1, stated_height-rows_at names heights o.station among.0.0),
  rows_agree names heights observations among.1,
)
