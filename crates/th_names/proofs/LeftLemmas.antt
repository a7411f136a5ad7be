-- What a name leaves that fits.
use Rattle.std.proofs.Common.{◌≡◌, ℕ, ◌≤◌, ◌+◌, ◌*◌, ℤ, pos, ◌+ℤ◌, ◌-ℤ◌, List, Option, Some, None, IsSome, unsigned_abs, unwrap_or, refl, ap, arith}
use Rattle.std.proofs.lemmas.Int.{ints}
use Rattle.th_tables.specs.Rows.{height_of}
use Rattle.th_network.specs.Links.{base}
use Rattle.th_network.specs.Networks.{Survey}
use Rattle.th_changes.specs.declared.numbers.Number.TheVariants.{Added, Benchmark}
use Rattle.th_changes.specs.Freed.{IsFreed}
use Rattle.th_names.specs.Fits.{weight_at, weight_in}
use Rattle.th_names.specs.Readings.{IsLeft}
use Rattle.th_names.proofs.GrowthLemmas.{station_little_more, target_little_more}
use Rattle.th_names.proofs.PointLemmas.{point_little_more}
use Rattle.th_names.specs.Gaps.{IsNaming, LiesBy, MayBeRead, number_in, reading_with, weight_with}
use Rattle.th_names.specs.declared.namings.Naming.{Naming}
use Rattle.th_names.specs.declared.namings.Naming.TheVariants.{Row, Station, Target}
use Rattle.th_names.proofs.TiltedLemmas.{freed_same}

-- the same size, whichever side it is on
little : (left one freed w : ℕ) (size own : ℤ) → one ≡ freed → unsigned_abs size ≡ unsigned_abs own → left ≤ one + w * unsigned_abs size → left ≤ freed + w * unsigned_abs own
little left one freed w size own same sizes less =
    let times = ap (λ n. w * n) sizes in
    omega arith

pub little_more : (survey : Survey) (naming : Naming) (point : List ℕ) (freed left : ℕ) (own : ℤ) → IsNaming survey naming → MayBeRead survey naming point → IsFreed survey (number_in naming) freed → LiesBy survey naming point own → IsLeft survey (reading_with naming point) left → left ≤ freed + weight_with survey naming point * unsigned_abs own
little_more survey (Target sights target) point freed left own all may is_freed (one, x, heights, best, is) is_left =
    little left one freed (weight_in survey sights) ((heights target -ℤ heights point) -ℤ x) own (freed_same survey (Added sights) one freed best.is_freed is_freed) (turned (heights target) (heights point) x own is) (target_little_more survey sights target point one left x heights all best is_left)
  where
    turned : (t p x own : ℤ) → p -ℤ (t -ℤ x) ≡ own → unsigned_abs ((t -ℤ p) -ℤ x) ≡ unsigned_abs own
    turned t p x own e = omega (arith, ints)
little_more survey (Station sights station) point freed left own all may is_freed (one, x, heights, best, is) is_left =
    little left one freed (weight_in survey sights) ((heights point -ℤ heights station) -ℤ x) own (freed_same survey (Added sights) one freed best.is_freed is_freed) (turned (heights station) (heights point) x own is) (station_little_more survey sights station point one left x heights all best is_left)
  where
    turned : (s p x own : ℤ) → p -ℤ (s +ℤ x) ≡ own → unsigned_abs ((p -ℤ s) -ℤ x) ≡ unsigned_abs own
    turned s p x own e = omega (arith, ints)
little_more survey (Row benchmark) point freed left own some may is_freed (one, x, heights, best, is) is_left = by (height_of survey.benchmarks benchmark) some refl
  where
    turned : (h p u own : ℤ) → u ≡ h → p -ℤ u ≡ own → unsigned_abs (h -ℤ p) ≡ unsigned_abs own
    turned h p u own e f = omega (arith, ints)

    by : (found : Option ℤ) → IsSome found → height_of survey.benchmarks benchmark ≡ found → left ≤ freed + weight_at survey point * unsigned_abs own
    by None none e = absurd (grind arith)
    by (Some height) given e =
        little left one freed (weight_at survey point) (height -ℤ heights point) own (freed_same survey (Benchmark benchmark) one freed best.is_freed is_freed) (turned height (heights point) (base survey.benchmarks benchmark) own (ap (λ h. unwrap_or h (pos 0)) e) is) (point_little_more survey benchmark point height one left x heights e may.0 may.1 best is_left)
