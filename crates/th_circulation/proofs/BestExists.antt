-- Heights that cost least exist, and among them the lowest and the highest: all heights within a range are tried.
use Rattle.std.proofs.Common.{◌≡◌, ℕ, zero, suc, Bool, true, false, ◌&&◌, ◌||◌, ◌==◌, ◌+◌, ◌*◌, ◌<◌, ◌≤◌, ℤ, pos, ◌+ℤ◌, ◌-ℤ◌, List, [], ◌∷◌, Option, Some, None, bytes_eq, if◌then◌else◌, is_none, length, nat_le, nat_lt, sum_by, unsigned_abs, unwrap_or, refl, ap, sym, subst, ◌∙◌, mul-le-mul_right, arith}
use Rattle.std.specs.List.{AllByRecursion}
use Rattle.std.proofs.lemmas.Bool.Decides.{nat_tests}
use Rattle.std.proofs.lemmas.Int.{ints}
use Rattle.std.proofs.lemmas.List.Sums.{sum_by-cons}
use Rattle.std.proofs.lemmas.Slice.Eq.{bytes_eq-Decides}
use Rattle.th_observations.specs.Observed.{Observed}
use Rattle.th_tables.specs.Rows.{BenchmarkRows, WeightRows, height_of, weight_of}
use Rattle.th_points.specs.Points.{points}
use Rattle.th_network.specs.Heights.{IsHeights, cost, residual}
use Rattle.th_network.specs.Vertices.{is_free}
use Rattle.th_points.proofs.PointLemmas.{EndsAmong, ends_are_points, is_among}

abbrev pub Map : Type 0
Map = List ℕ → ℤ

-- so near zero
abbrev pub IsNear : ℕ → ℤ → Type 0
IsNear k a = unsigned_abs a ≤ k

-- ---- the least of so many
record IsFirst (F : Map → ℕ) (P : Map → Type 0) (make : ℕ → Map) (n : ℕ) (best : Map) : Type 0 where
  has : P best
  least : (i : ℕ) → i ≤ n → F best ≤ F (make i)

choose : (F : Map → ℕ) (P : Map → Type 0) (make : ℕ → Map) (n : ℕ) → ((i : ℕ) → P (make i)) → (best : Map) × IsFirst F P make n best
choose F P make zero each = (
  make 0,
  record {
    has = each 0;
    least = λ i few. (let none : 0 ≡ i = omega arith in subst (λ (j : ℕ). F (make 0) ≤ F (make j)) none (omega arith));
  },
)
choose F P make (suc n) each = by (choose F P make n each)
  where
    last : (best : Map) → IsFirst F P make n best → F best ≤ F (make (suc n)) → (i : ℕ) (same : Bool) → (i == suc n) ≡ same → i ≤ suc n → F best ≤ F (make i)
    last best first low i true e few =
        let here : suc n ≡ i = grind (arith, nat_tests) in
        subst (λ (j : ℕ). F best ≤ F (make j)) here low
    last best first low i false e few = first.least i (grind (arith, nat_tests))

    pick : (best : Map) → IsFirst F P make n best → (less : Bool) → nat_lt (F (make (suc n))) (F best) ≡ less → (best : Map) × IsFirst F P make (suc n) best
    pick best first true e =
        let less : F (make (suc n)) < F best = grind (arith, nat_tests) in (
          make (suc n),
          record {
            has = each (suc n);
            least = λ i few. lower less i (i == suc n) refl few;
          },
        )
      where
        lower : F (make (suc n)) < F best → (i : ℕ) (same : Bool) → (i == suc n) ≡ same → i ≤ suc n → F (make (suc n)) ≤ F (make i)
        lower less i true e few =
            let here : suc n ≡ i = grind (arith, nat_tests) in
            subst (λ (j : ℕ). F (make (suc n)) ≤ F (make j)) here (omega arith)
        lower less i false e few =
            let few' : i ≤ n = grind (arith, nat_tests) in
            let more = first.least i few' in
            omega arith
    pick best first false e =
        let low : F best ≤ F (make (suc n)) = grind (arith, nat_tests) in
        (best, record { has = first.has; least = λ i few. last best first low i (i == suc n) refl few })

    by : (best : Map) × IsFirst F P make n best → (best : Map) × IsFirst F P make (suc n) best
    by found = pick found.0 found.1 (nat_lt (F (make (suc n))) (F found.0)) refl

-- ---- the least of all within a range
-- the heights of a range, one after another
abbrev level : ℕ → ℕ → ℤ
level k i = if nat_le i (2 * k) then pos i -ℤ pos k else pos 0

-- each height within the range is one of them
level_of : (k : ℕ) (a : ℤ) → IsNear k a → (i : ℕ) × (i ≤ 2 * k) × (level k i ≡ a)
level_of k a near = (unsigned_abs (a +ℤ pos k), few, by (nat_le (unsigned_abs (a +ℤ pos k)) (2 * k)) refl)
  where
    few : unsigned_abs (a +ℤ pos k) ≤ 2 * k
    few = omega (arith, ints)

    by : (b : Bool) → nat_le (unsigned_abs (a +ℤ pos k)) (2 * k) ≡ b → (if b then pos (unsigned_abs (a +ℤ pos k)) -ℤ pos k else pos 0) ≡ a
    by true e = omega (arith, ints)
    by false e =
        let most = few in
        absurd (grind (arith, nat_tests))

-- heights with another height at one name
abbrev put : Map → List ℕ → ℤ → Map
put x point height name = if bytes_eq name point then height else x name

-- heights that are those of a base at all names but free ones that are left, and within the range
record IsAmong (all left : List (List ℕ)) (free : List ℕ → Bool) (k : ℕ) (base x : Map) : Type 0 where
  kept : (name : List ℕ) → is_among all name ≡ true → (is_among left name && free name) ≡ false → x name ≡ base name
  near : (name : List ℕ) → is_among all name ≡ true → IsNear k (x name)

-- heights that are those of a base at names that are not free
record IsTaken (free : List ℕ → Bool) (base best : Map) : Type 0 where
  fixed : (name : List ℕ) → free name ≡ false → best name ≡ base name

abbrev Found : (Map → ℕ) → List (List ℕ) → (List ℕ → Bool) → ℕ → List (List ℕ) → Map → Type 0
Found F all free k left base = (best : Map) × IsTaken free base best × ((x : Map) → IsAmong all left free k base x → F best ≤ F x)

skipped : (b c f : Bool) → (b ≡ true → f ≡ false) → (c && f) ≡ false → ((b || c) && f) ≡ false
skipped true c f fixed e = fixed refl
skipped false c f fixed e = e

module _ (F : Map → ℕ) (all : List (List ℕ)) (free : List ℕ → Bool) (k : ℕ) (same : (x y : Map) → ((name : List ℕ) → is_among all name ≡ true → x name ≡ y name) → F x ≡ F y) where
  -- a name that is not free is passed over
  pass : (point : List ℕ) (left : List (List ℕ)) (base : Map) → free point ≡ false → Found F all free k left base → Found F all free k (point ∷ left) base
  pass point left base fixed found = (
    found.0,
    found.1,
    λ x among. found.2 x (record {
      kept = λ name there e. among.kept name there (skipped (bytes_eq name point) (is_among left name) (free name) (λ is. (ap free ((bytes_eq-Decides name point).0 is) ∙ fixed)) e);
      near = among.near;
    }),
  )

  -- at a free one each height of the range is tried
  try : (point : List ℕ) (left : List (List ℕ)) (base : Map) → is_among all point ≡ true → free point ≡ true → ((i : ℕ) → Found F all free k left (put base point (level k i))) → Found F all free k (point ∷ left) base
  try point left base inside is_free each = by (choose F (IsTaken free base) (λ i. (each i).0) (2 * k) taken)
    where
      put_kept : (i : ℕ) (name : List ℕ) (b : Bool) → (b ≡ true → name ≡ point) → free name ≡ false → (if b then level k i else base name) ≡ base name
      put_kept i name true is fixed =
          let other : true ≡ false = sym is_free ∙ sym (ap free (is refl)) ∙ fixed in
          absurd (cc other)
      put_kept i name false is fixed = refl

      taken : (i : ℕ) → IsTaken free base (each i).0
      taken i = record { fixed = λ name fixed. ((each i).1.fixed name fixed ∙ put_kept i name (bytes_eq name point) (bytes_eq-Decides name point).0 fixed) }

      moved : (x : Map) → IsAmong all (point ∷ left) free k base x → (i : ℕ) → level k i ≡ x point → IsAmong all left free k (put base point (level k i)) x
      moved x among i at = record { kept = λ name there e. at_name name there (bytes_eq name point) (bytes_eq-Decides name point).0 refl e; near = among.near }
        where
          at_name : (name : List ℕ) → is_among all name ≡ true → (b : Bool) → (b ≡ true → name ≡ point) → bytes_eq name point ≡ b → (is_among left name && free name) ≡ false → x name ≡ (if b then level k i else base name)
          at_name name there true is e none = ap x (is refl) ∙ sym at
          at_name name there false is e none = among.kept name there (ap (λ t. (t || is_among left name) && free name) e ∙ none)

      by : (best : Map) × IsFirst F (IsTaken free base) (λ i. (each i).0) (2 * k) best → Found F all free k (point ∷ left) base
      by found = (
        found.0,
        found.1.has,
        λ x among. (
            let one = level_of k (x point) (among.near point inside) in
            let low = found.1.least one.0 one.1 in
            let lower = (each one.0).2 x (moved x among one.0 one.2) in
            omega arith),
      )

  find_least : (left : List (List ℕ)) (base : Map) → AllByRecursion (λ name. is_among all name ≡ true) left → Found F all free k left base
  find_least [] base inside = (base, record { fixed = λ name fixed. refl }, λ x among. (let e = same base x (λ name there. sym (among.kept name there refl)) in omega arith))
  find_least (point ∷ left) base inside = by (free point) refl (find_least left base inside.1) (λ i. find_least left (put base point (level k i)) inside.1)
    where
      by : (is_free : Bool) → free point ≡ is_free → Found F all free k left base → ((i : ℕ) → Found F all free k left (put base point (level k i))) → Found F all free k (point ∷ left) base
      by true e found each = try point left base inside.0 e each
      by false e found each = pass point left base e found

-- ---- what the heights of the points settle
cost_same : (weights : WeightRows) (names : List (List ℕ)) (x y : Map) → ((name : List ℕ) → is_among names name ≡ true → x name ≡ y name) → (observations : List Observed) → AllByRecursion (EndsAmong names) observations → cost observations weights x ≡ cost observations weights y
cost_same weights names x y same [] ends = refl
cost_same weights names x y same (o ∷ observations) ends =
    let a = sum_by-cons (λ o. weight_of weights o.station o.target * unsigned_abs (residual o x)) o observations in
    let b = sum_by-cons (λ o. weight_of weights o.station o.target * unsigned_abs (residual o y)) o observations in
    let rest = cost_same weights names x y same observations ends.1 in
    let here : residual o x ≡ residual o y = ap (λ t. o.difference -ℤ (t -ℤ x o.station)) (same o.target ends.0.1) ∙ ap (λ s. o.difference -ℤ (y o.target -ℤ s)) (same o.station ends.0.0) in
    let one = ap (λ r. weight_of weights o.station o.target * unsigned_abs r) here in
    omega arith

-- a number for each height, and their sum over names
abbrev pub ranked : (ℤ → ℕ) → List (List ℕ) → Map → ℕ
ranked rank names x = sum_by (λ name. rank (x name)) names

ranked_same : (rank : ℤ → ℕ) (names : List (List ℕ)) (x y : Map) → AllByRecursion (λ name. x name ≡ y name) names → ranked rank names x ≡ ranked rank names y
ranked_same rank [] x y same = refl
ranked_same rank (name ∷ names) x y same =
    let a = sum_by-cons (λ name. rank (x name)) name names in
    let b = sum_by-cons (λ name. rank (y name)) name names in
    let rest = ranked_same rank names x y same.1 in
    let here = ap rank same.0 in
    omega arith

ranked_small : (rank : ℤ → ℕ) (most : ℕ) (names : List (List ℕ)) (x : Map) → AllByRecursion (λ name. rank (x name) ≤ most) names → ranked rank names x ≤ length names * most
ranked_small rank most [] x small = omega arith
ranked_small rank most (name ∷ names) x small =
    let a = sum_by-cons (λ name. rank (x name)) name names in
    let rest = ranked_small rank most names x small.1 in
    let here = small.0 in
    omega arith

-- what holds of each name that is among a list holds of the names of a list inside it
pub each_inside : (P : List ℕ → Type 0) (all names : List (List ℕ)) → AllByRecursion (λ name. is_among all name ≡ true) names → ((name : List ℕ) → is_among all name ≡ true → P name) → AllByRecursion P names
each_inside P all [] inside each = tt
each_inside P all (name ∷ names) inside each = (each name inside.0, each_inside P all names inside.1 each)

-- where no number is more and the sums are not less, the numbers are the same
pub none_less : (f g : List ℕ → ℕ) (names : List (List ℕ)) → AllByRecursion (λ name. f name ≤ g name) names → sum_by g names ≤ sum_by f names → AllByRecursion (λ name. f name ≡ g name) names
none_less f g [] low sums = tt
none_less f g (name ∷ names) low sums =
    let a = sum_by-cons f name names in
    let b = sum_by-cons g name names in
    let rest = sums_low names low.1 in
    let here = low.0 in
    (omega arith, none_less f g names low.1 (omega arith))
  where
    sums_low : (names : List (List ℕ)) → AllByRecursion (λ name. f name ≤ g name) names → sum_by f names ≤ sum_by g names
    sums_low [] low = omega arith
    sums_low (name ∷ names) low =
        let a = sum_by-cons f name names in
        let b = sum_by-cons g name names in
        let rest = sums_low names low.1 in
        let here = low.0 in
        omega arith

-- two numbers as one: the first decides, and then the second
first_decides : (a c s t room : ℕ) → t < room → a * room + s ≤ c * room + t → a ≤ c
first_decides a c s t room small less = by (nat_le a c) refl
  where
    by : (b : Bool) → nat_le a c ≡ b → a ≤ c
    by true e = grind (arith, nat_tests)
    by false e =
        let more : c + 1 ≤ a = grind (arith, nat_tests) in
        let much = mul-le-mul_right room more in
        absurd (omega arith)

-- ---- best heights, the first by rank
-- heights that keep the benchmarks and cost least, and of those that do the first by rank
pub record IsRanked (observations : List Observed) (benchmarks : BenchmarkRows) (weights : WeightRows) (rank : ℤ → ℕ) (best : Map) : Type 0 where
  pub kept : IsHeights benchmarks best
  pub least : (others : Map) → IsHeights benchmarks others → cost observations weights best ≤ cost observations weights others
  pub first : (others : Map) → IsHeights benchmarks others → cost observations weights others ≤ cost observations weights best → ranked rank (points observations benchmarks) best ≤ ranked rank (points observations benchmarks) others

-- heights that keep the benchmarks, and are zero elsewhere
abbrev pub benchmarks_alone : BenchmarkRows → Map
benchmarks_alone benchmarks name = unwrap_or (height_of benchmarks name) (pos 0)

pub alone_kept : (benchmarks : BenchmarkRows) → IsHeights benchmarks (benchmarks_alone benchmarks)
alone_kept benchmarks name height e = ap (λ found. unwrap_or found (pos 0)) e

module _ (observations : List Observed) (benchmarks : BenchmarkRows) (weights : WeightRows) (k : ℕ)
    (inside : AllByRecursion (λ name. is_among (points observations benchmarks) name ≡ true) (points observations benchmarks))
    (near : (x : Map) → IsHeights benchmarks x → cost observations weights x ≤ cost observations weights (benchmarks_alone benchmarks) → (name : List ℕ) → is_among (points observations benchmarks) name ≡ true → IsNear k (x name)) where
  abbrev names : List (List ℕ)
  names = points observations benchmarks

  abbrev costs : Map → ℕ
  costs = cost observations weights

  abbrev alone : Map
  alone = benchmarks_alone benchmarks

  abbrev room : ℕ
  room = length names * (2 * k) + 1

  -- the cost decides, and then the rank
  abbrev value : (ℤ → ℕ) → Map → ℕ
  value rank x = costs x * room + ranked rank names x

  value_same : (rank : ℤ → ℕ) (x y : Map) → ((name : List ℕ) → is_among names name ≡ true → x name ≡ y name) → value rank x ≡ value rank y
  value_same rank x y same =
      let one = cost_same weights names x y same observations (ends_are_points observations benchmarks) in
      let two = ranked_same rank names x y (each_inside (λ name. x name ≡ y name) names names inside same) in
      ap (λ c. c * room + ranked rank names x) one ∙ ap (λ r. costs y * room + r) two

  fixed_known : (x y : Map) → IsHeights benchmarks x → IsHeights benchmarks y → (name : List ℕ) → is_free benchmarks name ≡ false → x name ≡ y name
  fixed_known x y x_kept y_kept name = by (height_of benchmarks name) refl
    where
      by : (found : Option ℤ) → height_of benchmarks name ≡ found → is_none found ≡ false → x name ≡ y name
      by None e fixed = absurd (cc fixed)
      by (Some height) e fixed = x_kept name height e ∙ sym (y_kept name height e)

  kept_of_fixed : (best : Map) → ((name : List ℕ) → is_free benchmarks name ≡ false → best name ≡ alone name) → IsHeights benchmarks best
  kept_of_fixed best fixed name height e = fixed name (ap is_none e) ∙ alone_kept benchmarks name height e

  -- heights that cost no more than the benchmarks alone are among those that are tried
  tried : (x : Map) → IsHeights benchmarks x → costs x ≤ costs alone → IsAmong names names (is_free benchmarks) k alone x
  tried x kept low = record {
    kept = λ name there e. fixed_known x alone kept (alone_kept benchmarks) name (ap (λ t. t && is_free benchmarks name) (sym there) ∙ e);
    near = near x kept low;
  }

  pub best_exists : (rank : ℤ → ℕ) → ((a : ℤ) → IsNear k a → rank a ≤ 2 * k) → (best : Map) × IsRanked observations benchmarks weights rank best
  best_exists rank small = by (find_least (value rank) names (is_free benchmarks) k (value_same rank) names alone inside)
    where
      rank_small : (x : Map) → IsHeights benchmarks x → costs x ≤ costs alone → ranked rank names x < room
      rank_small x kept low =
          let most = ranked_small rank (2 * k) names x (each_inside (λ name. rank (x name) ≤ 2 * k) names names inside (λ name there. small (x name) (near x kept low name there))) in
          omega arith

      by : Found (value rank) names (is_free benchmarks) k names alone → (best : Map) × IsRanked observations benchmarks weights rank best
      by found = (best, record { kept = kept; least = λ others others_kept. least others others_kept (nat_le (costs others) (costs alone)) refl; first = first })
        where
          best : Map
          best = found.0

          kept : IsHeights benchmarks best
          kept = kept_of_fixed best found.1.fixed

          low : (x : Map) → IsHeights benchmarks x → costs x ≤ costs alone → costs best ≤ costs x
          low x x_kept x_low = first_decides (costs best) (costs x) (ranked rank names best) (ranked rank names x) room (rank_small x x_kept x_low) (found.2 x (tried x x_kept x_low))

          least : (others : Map) → IsHeights benchmarks others → (b : Bool) → nat_le (costs others) (costs alone) ≡ b → costs best ≤ costs others
          least others others_kept true e = low others others_kept (grind (arith, nat_tests))
          least others others_kept false e =
              let base = low alone (alone_kept benchmarks) (omega arith) in
              let more : costs alone < costs others = grind (arith, nat_tests) in
              omega arith

          first : (others : Map) → IsHeights benchmarks others → costs others ≤ costs best → ranked rank names best ≤ ranked rank names others
          first others others_kept no_more =
              let base = low alone (alone_kept benchmarks) (omega arith) in
              let fits : costs others ≤ costs alone = omega arith in
              let here = low others others_kept fits in
              let same : costs best ≡ costs others = omega arith in
              let all = found.2 others (tried others others_kept fits) in
              let room_same = ap (λ c. c * room) same in
              omega arith
