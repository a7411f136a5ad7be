-- Numbers of vertices from heights of names.
use Rattle.std.proofs.Common.{◌≡◌, ℕ, zero, suc, Bool, true, false, ◌||◌, ◌+◌, ◌<◌, ℤ, pos, ◌-ℤ◌, List, [], ◌∷◌, Option, Some, None, bytes_eq, cond, eqb, if◌then◌else◌, slice_get, take, unwrap_or, refl, ap, sym, ◌∙◌, subst, arith}
use Rattle.std.proofs.lemmas.Bool.{eq-eqb, eqb-true}
use Rattle.std.proofs.lemmas.Int.{ints}
use Rattle.std.proofs.lemmas.List.Sums.{sum_by-cons}
use Rattle.std.proofs.lemmas.Slice.Eq.{bytes_eq-Decides}
use Rattle.std.specs.List.{AllByRecursion, count_by}
use Rattle.th_observations.specs.Observed.{Observed}
use Rattle.th_tables.specs.Rows.{BenchmarkRows, height_of}
use Rattle.th_network.specs.Heights.{IsHeights}
use Rattle.th_network.specs.Links.{base}
use Rattle.th_points.specs.Places.{place_of}
use Rattle.th_points.specs.Points.{points}
use Rattle.th_network.specs.Vertices.{free_before, is_free, vertex_count, vertex_of}
use Rattle.th_network.proofs.NetworkLemmas.{free_vertex_at}
use Rattle.th_points.proofs.PointLemmas.{is_among}
use Rattle.th_points.proofs.PlaceLemmas.{at_place_of}
use Rattle.th_circulation.proofs.ExtremeLemmas.{all_among}
use Rattle.th_network.proofs.FreePoints.{fixed_vertex, free_vertex}
use Rattle.th_circulation.proofs.NameLemmas.{same_name}
use Rattle.th_circulation.proofs.ResidualLemmas.{AreMatched}

-- ---- the number of a vertex: how far the first of these names that has it is below the benchmark's part
abbrev number_in : List Observed → BenchmarkRows → (List ℕ → ℤ) → List (List ℕ) → ℕ → ℤ
number_in all benchmarks heights [] v = pos 0
number_in all benchmarks heights (name ∷ names) v = if eqb (vertex_of all benchmarks name) v then base benchmarks name -ℤ heights name else number_in all benchmarks heights names v

abbrev pub numbers_of : List Observed → BenchmarkRows → (List ℕ → ℤ) → ℕ → ℤ
numbers_of all benchmarks heights v = number_in all benchmarks heights (points all benchmarks) v

fixed_is_base : (benchmarks : BenchmarkRows) (heights : List ℕ → ℤ) (name : List ℕ) (height : ℤ) → IsHeights benchmarks heights → height_of benchmarks name ≡ Some height → base benchmarks name -ℤ heights name ≡ pos 0
fixed_is_base benchmarks heights name height kept e =
    let own = kept name height e in
    let part = ap (λ (found : Option ℤ). unwrap_or found (pos 0)) e in
    omega (arith, ints)

same_number : (all : List Observed) (benchmarks : BenchmarkRows) (heights : List ℕ → ℤ) (name point : List ℕ) → IsHeights benchmarks heights → is_among (points all benchmarks) name ≡ true → is_among (points all benchmarks) point ≡ true → vertex_of all benchmarks name ≡ vertex_of all benchmarks point → base benchmarks name -ℤ heights name ≡ base benchmarks point -ℤ heights point
same_number all benchmarks heights name point kept name_among point_among same = by (height_of benchmarks point) (height_of benchmarks name) refl refl
  where
    by : (found other : Option ℤ) → height_of benchmarks point ≡ found → height_of benchmarks name ≡ other → base benchmarks name -ℤ heights name ≡ base benchmarks point -ℤ heights point
    by None other e f = ap (λ n. base benchmarks n -ℤ heights n) (same_name all benchmarks name point name_among (place_of (points all benchmarks) point) (at_place_of (points all benchmarks) point point_among) e same)
    by (Some height) None e f =
        let low = fixed_vertex all benchmarks point height e in
        let high = free_vertex all benchmarks name f in
        absurd (omega arith)
    by (Some height) (Some another) e f = fixed_is_base benchmarks heights name another kept f ∙ sym (fixed_is_base benchmarks heights point height kept e)

number_at : (all : List Observed) (benchmarks : BenchmarkRows) (heights : List ℕ → ℤ) → IsHeights benchmarks heights → (names : List (List ℕ)) → AllByRecursion (λ name. is_among (points all benchmarks) name ≡ true) names → (name : List ℕ) → is_among (points all benchmarks) name ≡ true → is_among names name ≡ true → number_in all benchmarks heights names (vertex_of all benchmarks name) ≡ base benchmarks name -ℤ heights name
number_at all benchmarks heights kept [] are name point among = absurd (grind arith)
number_at all benchmarks heights kept (first ∷ names) are name point among = by (eqb (vertex_of all benchmarks first) (vertex_of all benchmarks name)) (bytes_eq name first) refl (bytes_eq-Decides name first).0 among (number_at all benchmarks heights kept names are.1 name point)
  where
    by : (b c : Bool) → eqb (vertex_of all benchmarks first) (vertex_of all benchmarks name) ≡ b → (c ≡ true → name ≡ first) → (c || is_among names name) ≡ true → (is_among names name ≡ true → number_in all benchmarks heights names (vertex_of all benchmarks name) ≡ base benchmarks name -ℤ heights name) → (if b then base benchmarks first -ℤ heights first else number_in all benchmarks heights names (vertex_of all benchmarks name)) ≡ base benchmarks name -ℤ heights name
    by true c e is there rest = same_number all benchmarks heights first name kept are.0 point (eqb-true (vertex_of all benchmarks first) (vertex_of all benchmarks name) e)
    by false true e is there rest =
        let same = eq-eqb (vertex_of all benchmarks first) (vertex_of all benchmarks name) (ap (vertex_of all benchmarks) (sym (is refl))) in
        absurd (grind arith)
    by false false e is there rest = rest there

number_zero : (all : List Observed) (benchmarks : BenchmarkRows) (heights : List ℕ → ℤ) → IsHeights benchmarks heights → (names : List (List ℕ)) → number_in all benchmarks heights names 0 ≡ pos 0
number_zero all benchmarks heights kept [] = refl
number_zero all benchmarks heights kept (first ∷ names) = by (eqb (vertex_of all benchmarks first) 0) (height_of benchmarks first) refl refl (number_zero all benchmarks heights kept names)
  where
    by : (b : Bool) (found : Option ℤ) → eqb (vertex_of all benchmarks first) 0 ≡ b → height_of benchmarks first ≡ found → number_in all benchmarks heights names 0 ≡ pos 0 → (if b then base benchmarks first -ℤ heights first else number_in all benchmarks heights names 0) ≡ pos 0
    by true None e f rest =
        let none = eqb-true (vertex_of all benchmarks first) 0 e in
        let some = free_vertex all benchmarks first f in
        absurd (omega arith)
    by true (Some height) e f rest = fixed_is_base benchmarks heights first height kept f
    by false found e f rest = rest

pub numbers_start : (all : List Observed) (benchmarks : BenchmarkRows) (heights : List ℕ → ℤ) → IsHeights benchmarks heights → numbers_of all benchmarks heights 0 ≡ pos 0
numbers_start all benchmarks heights kept = number_zero all benchmarks heights kept (points all benchmarks)

-- heights that keep the benchmarks match their numbers
pub matched_numbers : (all : List Observed) (benchmarks : BenchmarkRows) (heights : List ℕ → ℤ) → IsHeights benchmarks heights → AreMatched all benchmarks heights (numbers_of all benchmarks heights)
matched_numbers all benchmarks heights kept name among =
    let names = points all benchmarks in
    let is = number_at all benchmarks heights kept names (all_among names names (λ n e. e)) name among among in
    omega (arith, ints)

-- ---- each vertex but 0 is that of a point that is no benchmark
pub record IsNamed (all : List Observed) (benchmarks : BenchmarkRows) (v : ℕ) : Type 0 where
  pub place : ℕ
  pub name : List ℕ
  pub at : slice_get (points all benchmarks) place ≡ Some name
  pub vertex : vertex_of all benchmarks name ≡ v

record IsFound (benchmarks : BenchmarkRows) (names : List (List ℕ)) (count : ℕ) : Type 0 where
  place : ℕ
  name : List ℕ
  at : slice_get names place ≡ Some name
  free : is_free benchmarks name ≡ true
  before : free_before benchmarks names place ≡ count

find_free : (benchmarks : BenchmarkRows) (names : List (List ℕ)) (count : ℕ) → count < count_by (is_free benchmarks) names → IsFound benchmarks names count
find_free benchmarks [] count less = absurd (omega arith)
find_free benchmarks (first ∷ names) count less = by count (is_free benchmarks first) refl (subst (λ n. count < n) (sum_by-cons (λ name. cond (is_free benchmarks name) 1 0) first names) less) (find_free benchmarks names)
  where
    later : (m count : ℕ) → cond (is_free benchmarks first) 1 0 + m ≡ count → IsFound benchmarks names m → IsFound benchmarks (first ∷ names) count
    later m count e found = record {
      place = suc found.place;
      name = found.name;
      at = found.at;
      free = found.free;
      before = let more = sum_by-cons (λ name. cond (is_free benchmarks name) 1 0) first (take found.place names) in let rest = found.before in omega arith;
    }

    by : (count : ℕ) (b : Bool) → is_free benchmarks first ≡ b → count < cond b 1 0 + count_by (is_free benchmarks) names → ((m : ℕ) → m < count_by (is_free benchmarks) names → IsFound benchmarks names m) → IsFound benchmarks (first ∷ names) count
    by zero true e less rest = record { place = 0; name = first; at = refl; free = e; before = refl }
    by (suc m) true e less rest = later m (suc m) (let one = ap (λ (t : Bool). cond {A = ℕ} t 1 0) e in omega arith) (rest m (omega arith))
    by count false e less rest = later count count (let one = ap (λ (t : Bool). cond {A = ℕ} t 1 0) e in omega arith) (rest count (omega arith))

pub named : (all : List Observed) (benchmarks : BenchmarkRows) (v : ℕ) → 0 < v → v < vertex_count all benchmarks → IsNamed all benchmarks v
named all benchmarks zero some within = absurd (omega arith)
named all benchmarks (suc v) some within =
    let names = points all benchmarks in
    let found = find_free benchmarks names v (omega arith) in
    let before = found.before in
    let vertex = free_vertex_at all benchmarks found.place found.name found.at found.free in
    record { place = found.place; name = found.name; at = found.at; vertex = omega arith }
