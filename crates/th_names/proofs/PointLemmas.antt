-- A benchmark's row that is read as that of another point.
use Rattle.std.proofs.Common.{◌≡◌, ◌≢◌, ℕ, Bool, true, false, ◌+◌, ◌*◌, ◌≤◌, ℤ, pos, ◌+ℤ◌, ◌-ℤ◌, ◌*ℤ◌, List, [], ◌∷◌, Some, None, cond, bytes_eq, if◌then◌else◌, map, sum_by, unsigned_abs, refl, ap, ◌∙◌, sym, subst, arith, mul-le-mul_left}
use Rattle.std.specs.Prelude.{◌||◌}
use Rattle.std.proofs.Math.Nat.{add-mul, mul-add}
use Rattle.std.proofs.Math.Path.{fun_ext}
use Rattle.std.proofs.lemmas.Int.{ints}
use Rattle.std.proofs.lemmas.List.Sums.{sum_by-cons}
use Rattle.std.proofs.lemmas.Slice.Eq.{bytes_eq-Decides}
use Rattle.th_observations.specs.Observed.{Observed}
use Rattle.th_tables.specs.Rows.{BenchmarkRows, WeightRows, height_of, weight_of}
use Rattle.th_network.specs.Heights.{residual, cost}
use Rattle.th_network.specs.Networks.{Survey}
use Rattle.th_changes.specs.declared.numbers.Number.{Number}
use Rattle.th_changes.specs.declared.numbers.Number.TheVariants.{Benchmark}
use Rattle.th_changes.specs.Numbers.{changed_observation, changed}
use Rattle.th_changes.specs.Freed.{IsFreed, Keeps, cost_of}
use Rattle.th_changes.proofs.Changes.{lowered, raised, keeps_lowered, keeps_raised}
use Rattle.th_names.specs.Readings.{IsLeft, KeepsRead, renamed_row, of_rows, read_cost}
use Rattle.th_names.specs.Fits.{AreBestFreed, weight_at}

pub differ : (a b : List ℕ) → a ≢ b → bytes_eq a b ≡ false
differ a b other = by (bytes_eq a b) (bytes_eq-Decides a b).0
  where
    by : (c : Bool) → (c ≡ true → a ≡ b) → c ≡ false
    by true e = absurd (other (e refl))
    by false e = refl

pub none_some : (height : ℤ) → None ≡ Some height → ⊥
none_some height e = absurd (grind arith)

pub same_height : (a b : ℤ) → Some a ≡ Some b → a ≡ b
same_height a b e = grind arith

-- ---- the rows, as they are read
pub other_listed : (benchmark point : List ℕ) (rows : BenchmarkRows) (name : List ℕ) → benchmark ≢ name → point ≢ name → height_of (map (renamed_row benchmark point) rows) name ≡ height_of rows name
other_listed benchmark point [] name apart away = refl
other_listed benchmark point (row ∷ rows) name apart away = by (bytes_eq benchmark row.0) (bytes_eq-Decides benchmark row.0).0 (other_listed benchmark point rows name apart away)
  where
    by : (b : Bool) → (b ≡ true → benchmark ≡ row.0) → height_of (map (renamed_row benchmark point) rows) name ≡ height_of rows name → cond (bytes_eq name (if b then point else row.0)) (Some row.1) (height_of (map (renamed_row benchmark point) rows) name) ≡ cond (bytes_eq name row.0) (Some row.1) (height_of rows name)
    by true same rest =
        ap (λ b. cond b (Some row.1) (height_of (map (renamed_row benchmark point) rows) name)) (differ name point (λ e. away (sym e)))
        ∙ rest
        ∙ sym (ap (λ b. cond b (Some row.1) (height_of rows name)) (differ name row.0 (λ e. apart (same refl ∙ sym e))))
    by false same rest = ap (λ h. cond (bytes_eq name row.0) (Some row.1) h) rest

pub point_listed : (benchmark point : List ℕ) (rows : BenchmarkRows) (height : ℤ) → height_of rows benchmark ≡ Some height → height_of rows point ≡ None → height_of (map (renamed_row benchmark point) rows) point ≡ Some height
point_listed benchmark point [] height some none = absurd (none_some height some)
point_listed benchmark point (row ∷ rows) height some none = by (bytes_eq benchmark row.0) (bytes_eq point row.0) refl none some (point_listed benchmark point rows height)
  where
    by : (b c : Bool) → bytes_eq point row.0 ≡ c → cond c (Some row.1) (height_of rows point) ≡ None → cond b (Some row.1) (height_of rows benchmark) ≡ Some height → (height_of rows benchmark ≡ Some height → height_of rows point ≡ None → height_of (map (renamed_row benchmark point) rows) point ≡ Some height) → cond (bytes_eq point (if b then point else row.0)) (Some row.1) (height_of (map (renamed_row benchmark point) rows) point) ≡ Some height
    by true c e none some rest = ap (λ b. cond b (Some row.1) (height_of (map (renamed_row benchmark point) rows) point)) ((bytes_eq-Decides point point).1 refl) ∙ some
    by false true e none some rest = absurd (none_some row.1 (sym none))
    by false false e none some rest = ap (λ b. cond b (Some row.1) (height_of (map (renamed_row benchmark point) rows) point)) e ∙ rest some none

pub benchmark_gone : (benchmark point : List ℕ) (rows : BenchmarkRows) → point ≢ benchmark → height_of (map (renamed_row benchmark point) rows) benchmark ≡ None
benchmark_gone benchmark point [] other = refl
benchmark_gone benchmark point (row ∷ rows) other = by (bytes_eq benchmark row.0) refl (benchmark_gone benchmark point rows other)
  where
    by : (b : Bool) → bytes_eq benchmark row.0 ≡ b → height_of (map (renamed_row benchmark point) rows) benchmark ≡ None → cond (bytes_eq benchmark (if b then point else row.0)) (Some row.1) (height_of (map (renamed_row benchmark point) rows) benchmark) ≡ None
    by true e rest = ap (λ b. cond b (Some row.1) (height_of (map (renamed_row benchmark point) rows) benchmark)) (differ benchmark point (λ e. other (sym e))) ∙ rest
    by false e rest = ap (λ b. cond b (Some row.1) (height_of (map (renamed_row benchmark point) rows) benchmark)) e ∙ rest

-- ---- a changed benchmark changes no observation
pub unshared : (name : List ℕ) (x : ℤ) (observations : List Observed) → map (changed_observation (Benchmark name) x) observations ≡ observations
unshared name x [] = refl
unshared name x (o ∷ observations) = ap (λ d. record o { difference = d } ∷ map (changed_observation (Benchmark name) x) observations) (none o.difference) ∙ ap (λ os. o ∷ os) (unshared name x observations)
  where
    none : (d : ℤ) → d +ℤ x *ℤ pos 0 ≡ d
    none d = omega (arith, ints)

pub benchmark_cost : (survey : Survey) (name : List ℕ) (x : ℤ) (heights : List ℕ → ℤ) → cost_of (changed (Benchmark name) x survey) heights ≡ cost_of survey heights
benchmark_cost survey name x heights = ap (λ os. cost os survey.weights heights) (unshared name x survey.observations)

pub raised_lowered : (number : Number) (x : ℤ) (heights : List ℕ → ℤ) → raised number x (lowered number x heights) ≡ heights
raised_lowered number x heights = fun_ext (λ name. omega (arith, ints))

-- heights that keep the rows as they are read keep those of the survey where the benchmark is changed by as much as it is then off
pub keeps_changed : (survey : Survey) (benchmark point : List ℕ) (height : ℤ) (heights : List ℕ → ℤ) → height_of survey.benchmarks benchmark ≡ Some height → height_of survey.benchmarks point ≡ None → KeepsRead survey (of_rows (renamed_row benchmark point)) heights → Keeps (changed (Benchmark benchmark) (heights benchmark -ℤ height) survey) heights
keeps_changed survey benchmark point height heights some none kept =
    subst (Keeps (changed (Benchmark benchmark) x survey)) (raised_lowered (Benchmark benchmark) x heights) (keeps_raised survey (Benchmark benchmark) x (lowered (Benchmark benchmark) x heights) before)
  where
    x : ℤ
    x = heights benchmark -ℤ height

    before : Keeps survey (lowered (Benchmark benchmark) x heights)
    before name given listed = by (bytes_eq benchmark name) (bytes_eq-Decides benchmark name).0 (bytes_eq-Decides benchmark name).1
      where
        by : (b : Bool) → (b ≡ true → benchmark ≡ name) → (benchmark ≡ name → b ≡ true) → heights name -ℤ x *ℤ (if b then pos 1 else pos 0) ≡ given
        by true same back =
            let at : heights benchmark ≡ heights name = ap heights (same refl) in
            let value = same_height height given (sym some ∙ ap (height_of survey.benchmarks) (same refl) ∙ listed) in
            omega (arith, ints)
        by false same back =
            let at = kept name given (other_listed benchmark point survey.benchmarks name (λ e. clash (back e)) (λ e. none_some given (sym none ∙ ap (height_of survey.benchmarks) e ∙ listed)) ∙ listed) in
            omega (arith, ints)
          where
            clash : false ≡ true → ⊥
            clash e = absurd (grind arith)

-- ---- no more than the number, and as much
pub point_no_more : (survey : Survey) (benchmark point : List ℕ) (height : ℤ) (freed left : ℕ) → height_of survey.benchmarks benchmark ≡ Some height → height_of survey.benchmarks point ≡ None → point ≢ benchmark → IsFreed survey (Benchmark benchmark) freed → IsLeft survey (of_rows (renamed_row benchmark point)) left → freed ≤ left
point_no_more survey benchmark point height freed left some none other is_freed is_left = by is_left.reached
  where
    by : ((heights : List ℕ → ℤ) × KeepsRead survey (of_rows (renamed_row benchmark point)) heights × (read_cost survey (of_rows (renamed_row benchmark point)) heights ≡ left)) → freed ≤ left
    by (heights, kept, same) =
        let least = is_freed.least (heights benchmark -ℤ height) heights (keeps_changed survey benchmark point height heights some none kept) in
        let cost = benchmark_cost survey benchmark (heights benchmark -ℤ height) heights in
        omega arith

pub point_fits : (survey : Survey) (benchmark point : List ℕ) (height : ℤ) (freed : ℕ) → height_of survey.benchmarks benchmark ≡ Some height → height_of survey.benchmarks point ≡ None → point ≢ benchmark → IsFreed survey (Benchmark benchmark) freed → IsLeft survey (of_rows (renamed_row benchmark point)) freed → (heights : List ℕ → ℤ) × AreBestFreed survey (Benchmark benchmark) freed (heights benchmark -ℤ height) heights × (heights point ≡ height)
point_fits survey benchmark point height freed some none other is_freed is_left = by is_left.reached
  where
    by : ((heights : List ℕ → ℤ) × KeepsRead survey (of_rows (renamed_row benchmark point)) heights × (read_cost survey (of_rows (renamed_row benchmark point)) heights ≡ freed)) → (heights : List ℕ → ℤ) × AreBestFreed survey (Benchmark benchmark) freed (heights benchmark -ℤ height) heights × (heights point ≡ height)
    by (heights, kept, same) = (
      heights,
      record {
        is_freed = is_freed;
        kept = keeps_changed survey benchmark point height heights some none kept;
        reached = benchmark_cost survey benchmark (heights benchmark -ℤ height) heights ∙ same;
      },
      kept point height (point_listed benchmark point survey.benchmarks height some none),
    )

-- ---- little more, if it fits
abbrev pub placed : List ℕ → ℤ → (List ℕ → ℤ) → List ℕ → ℤ
placed point height heights name = if bytes_eq point name then height else heights name

one_placed : (a b : Bool) (w : ℕ) (d ht hs hp height : ℤ) → (a ≡ true → hs ≡ hp) → (b ≡ true → ht ≡ hp) → w * unsigned_abs (d -ℤ ((if b then height else ht) -ℤ (if a then height else hs))) ≤ w * unsigned_abs (d -ℤ (ht -ℤ hs)) + (if a || b then w else 0) * unsigned_abs (height -ℤ hp)
one_placed true true w d ht hs hp height from to =
    let s = from refl in
    let t = to refl in
    let near : unsigned_abs (d -ℤ (height -ℤ height)) ≤ unsigned_abs (d -ℤ (ht -ℤ hs)) + unsigned_abs (height -ℤ hp) = omega (arith, ints) in
    let times = mul-le-mul_left w near in
    let parts = mul-add w (unsigned_abs (d -ℤ (ht -ℤ hs))) (unsigned_abs (height -ℤ hp)) in
    omega arith
one_placed true false w d ht hs hp height from to =
    let s = from refl in
    let near : unsigned_abs (d -ℤ (ht -ℤ height)) ≤ unsigned_abs (d -ℤ (ht -ℤ hs)) + unsigned_abs (height -ℤ hp) = omega (arith, ints) in
    let times = mul-le-mul_left w near in
    let parts = mul-add w (unsigned_abs (d -ℤ (ht -ℤ hs))) (unsigned_abs (height -ℤ hp)) in
    omega arith
one_placed false true w d ht hs hp height from to =
    let t = to refl in
    let near : unsigned_abs (d -ℤ (height -ℤ hs)) ≤ unsigned_abs (d -ℤ (ht -ℤ hs)) + unsigned_abs (height -ℤ hp) = omega (arith, ints) in
    let times = mul-le-mul_left w near in
    let parts = mul-add w (unsigned_abs (d -ℤ (ht -ℤ hs))) (unsigned_abs (height -ℤ hp)) in
    omega arith
one_placed false false w d ht hs hp height from to = omega arith

placed_cost : (point : List ℕ) (height : ℤ) (weights : WeightRows) (heights : List ℕ → ℤ) (observations : List Observed) → cost observations weights (placed point height heights) ≤ cost observations weights heights + sum_by (λ o. if bytes_eq point o.station || bytes_eq point o.target then weight_of weights o.station o.target else 0) observations * unsigned_abs (height -ℤ heights point)
placed_cost point height weights heights [] = omega arith
placed_cost point height weights heights (o ∷ observations) =
    let w = weight_of weights o.station o.target in
    let a = sum_by-cons (λ o. weight_of weights o.station o.target * unsigned_abs (residual o (placed point height heights))) o observations in
    let b = sum_by-cons (λ o. weight_of weights o.station o.target * unsigned_abs (residual o heights)) o observations in
    let c = sum_by-cons (λ o. if bytes_eq point o.station || bytes_eq point o.target then weight_of weights o.station o.target else 0) o observations in
    let d = ap (λ n. n * unsigned_abs (height -ℤ heights point)) c in
    let e = add-mul (if bytes_eq point o.station || bytes_eq point o.target then w else 0) (sum_by (λ o. if bytes_eq point o.station || bytes_eq point o.target then weight_of weights o.station o.target else 0) observations) (unsigned_abs (height -ℤ heights point)) in
    let one = one_placed (bytes_eq point o.station) (bytes_eq point o.target) w o.difference (heights o.target) (heights o.station) (heights point) height (λ e. sym (ap heights ((bytes_eq-Decides point o.station).0 e))) (λ e. sym (ap heights ((bytes_eq-Decides point o.target).0 e))) in
    let rest = placed_cost point height weights heights observations in
    omega arith

keeps_placed : (survey : Survey) (benchmark point : List ℕ) (height x : ℤ) (heights : List ℕ → ℤ) → height_of survey.benchmarks benchmark ≡ Some height → height_of survey.benchmarks point ≡ None → point ≢ benchmark → Keeps (changed (Benchmark benchmark) x survey) heights → KeepsRead survey (of_rows (renamed_row benchmark point)) (placed point height heights)
keeps_placed survey benchmark point height x heights some none other kept name given listed = by (bytes_eq point name) (bytes_eq-Decides point name).0 (bytes_eq-Decides point name).1 (bytes_eq benchmark name) (bytes_eq-Decides benchmark name).0 (bytes_eq-Decides benchmark name).1 (keeps_lowered survey (Benchmark benchmark) x heights kept name given)
  where
    clash : false ≡ true → ⊥
    clash e = absurd (grind arith)

    by : (b : Bool) → (b ≡ true → point ≡ name) → (point ≡ name → b ≡ true) → (c : Bool) → (c ≡ true → benchmark ≡ name) → (benchmark ≡ name → c ≡ true) → (height_of survey.benchmarks name ≡ Some given → heights name -ℤ x *ℤ (if c then pos 1 else pos 0) ≡ given) → (if b then height else heights name) ≡ given
    by true same back c is isnt at = same_height height given (sym (point_listed benchmark point survey.benchmarks height some none) ∙ ap (height_of (map (renamed_row benchmark point) survey.benchmarks)) (same refl) ∙ listed)
    by false same back true is isnt at = absurd (none_some given (sym (benchmark_gone benchmark point survey.benchmarks other) ∙ ap (height_of (map (renamed_row benchmark point) survey.benchmarks)) (is refl) ∙ listed))
    by false same back false is isnt at =
        let value = at (sym (other_listed benchmark point survey.benchmarks name (λ e. clash (isnt e)) (λ e. clash (back e))) ∙ listed) in
        omega (arith, ints)

pub point_little_more : (survey : Survey) (benchmark point : List ℕ) (height : ℤ) (freed left : ℕ) (x : ℤ) (heights : List ℕ → ℤ) → height_of survey.benchmarks benchmark ≡ Some height → height_of survey.benchmarks point ≡ None → point ≢ benchmark → AreBestFreed survey (Benchmark benchmark) freed x heights → IsLeft survey (of_rows (renamed_row benchmark point)) left → left ≤ freed + weight_at survey point * unsigned_abs (height -ℤ heights point)
point_little_more survey benchmark point height freed left x heights some none other best is_left =
    let least = is_left.least (placed point height heights) (keeps_placed survey benchmark point height x heights some none other best.kept) in
    let near = placed_cost point height survey.weights heights survey.observations in
    let cost = benchmark_cost survey benchmark x heights in
    let reached = best.reached in
    omega arith
