-- The ends of how high a point is above what is read are heights above the name's point in two tilted surveys.
use Rattle.std.proofs.Common.{◌≡◌, ◌≢◌, ℕ, Bool, true, false, ℤ, pos, ◌+ℤ◌, ◌-ℤ◌, ◌*ℤ◌, ◌≤ℤ◌, List, Option, Some, None, IsSome, bytes_eq, if◌then◌else◌, unwrap_or, refl, ap, ◌∙◌, sym, arith}
use Rattle.std.proofs.lemmas.Int.{ints}
use Rattle.std.proofs.lemmas.Slice.Eq.{bytes_eq-Decides}
use Rattle.th_tables.specs.Rows.{height_of}
use Rattle.th_network.specs.Links.{base}
use Rattle.th_network.specs.Networks.{Survey}
use Rattle.th_changes.specs.declared.numbers.Number.TheVariants.{Benchmark}
use Rattle.th_changes.specs.Freed.{IsFreed, IsProposed, Keeps}
use Rattle.th_changes.specs.Tilted.{tilted}
use Rattle.th_changes.proofs.Changes.{keeps_lowered, lowered, raised}
use Rattle.th_reliability.specs.declared.sights.Sights.{Sights}
use Rattle.th_names.specs.Fits.{AreBestFreed}
use Rattle.th_names.proofs.PointLemmas.{raised_lowered}
use Rattle.th_names.proofs.RowMeets.{point_higher, point_lower}
use Rattle.th_names.proofs.SightMeets.{station_higher, station_lower, target_higher, target_lower}
use Rattle.th_explain.specs.Explained.{IsExact}
use Rattle.th_explain.specs.declared.freed.Freed.{Freed}
use Rattle.th_names.specs.Rises.{AreExtremes, RisesBy}
use Rattle.th_names.specs.Gaps.{IsBetween, IsNaming, LiesBy, gap, name_in, number_in}
use Rattle.th_names.specs.declared.namings.Naming.{Naming}
use Rattle.th_names.specs.declared.namings.Naming.TheVariants.{Row, Station, Target}
use Rattle.th_names.proofs.TiltedLemmas.{best_of_tilted, proposed_best, tilted_of_best}

is_proposed : (survey : Survey) (naming : Naming) (freed : ℕ) (x : ℤ) (heights : List ℕ → ℤ) → AreBestFreed survey (number_in naming) freed x heights → IsProposed survey (number_in naming) x
is_proposed survey naming freed x heights best = record { freed = freed; is_freed = best.is_freed; reached = (heights, best.kept, best.reached) }

-- whatever is best, some best heights with this change are no higher above what is read; or no lower
abbrev MeetsBelow : Survey → Naming → ℤ → Type 0
MeetsBelow survey naming change = (freed : ℕ) (x : ℤ) (heights : List ℕ → ℤ) → AreBestFreed survey (number_in naming) freed x heights → (lower : List ℕ → ℤ) × AreBestFreed survey (number_in naming) freed change lower × ((point : List ℕ) → gap survey naming change lower point ≤ℤ gap survey naming x heights point)

abbrev MeetsAbove : Survey → Naming → ℤ → Type 0
MeetsAbove survey naming change = (freed : ℕ) (x : ℤ) (heights : List ℕ → ℤ) → AreBestFreed survey (number_in naming) freed x heights → (higher : List ℕ → ℤ) × AreBestFreed survey (number_in naming) freed change higher × ((point : List ℕ) → gap survey naming x heights point ≤ℤ gap survey naming change higher point)

-- what is read at a change is so far above the name's point in the tilted survey
abbrev IsOffset : Survey → Naming → List ℕ → ℤ → ℤ → Type 0
IsOffset survey naming point change offset = (heights : List ℕ → ℤ) → Keeps survey heights → gap survey naming change (raised (number_in naming) change heights) point ≡ (heights point -ℤ heights (name_in naming)) +ℤ offset

-- what is best with a change, in the tilted survey
lies_by : (survey : Survey) (naming : Naming) (point : List ℕ) (freed : ℕ) (change offset rise : ℤ) → IsFreed survey (number_in naming) freed → IsProposed survey (number_in naming) change → IsOffset survey naming point change offset → RisesBy (tilted (number_in naming) change survey) (name_in naming) point rise → LiesBy survey naming point (rise +ℤ offset)
lies_by survey naming point freed change offset rise is_freed proposed offsets (heights, least, is) =
    (freed, change, raised (number_in naming) change heights, best_of_tilted survey (number_in naming) freed change heights is_freed proposed least, offsets heights least.kept ∙ ap (λ z. z +ℤ offset) is)

rises_by : (survey : Survey) (naming : Naming) (point : List ℕ) (freed : ℕ) (change offset : ℤ) (heights : List ℕ → ℤ) → IsOffset survey naming point change offset → AreBestFreed survey (number_in naming) freed change heights → RisesBy (tilted (number_in naming) change survey) (name_in naming) point (gap survey naming change heights point -ℤ offset)
rises_by survey naming point freed change offset heights offsets best =
    let low = lowered (number_in naming) change heights in
    let is = ap (λ h. gap survey naming change h point) (sym (raised_lowered (number_in naming) change heights)) ∙ offsets low (keeps_lowered survey (number_in naming) change heights best.kept) in
    (low, tilted_of_best survey (number_in naming) freed change heights best, shifted (low point -ℤ low (name_in naming)) offset (gap survey naming change heights point) is)
  where
    shifted : (r o g : ℤ) → g ≡ r +ℤ o → r ≡ g -ℤ o
    shifted r o g e = omega (arith, ints)

between_at : (survey : Survey) (naming : Naming) (point : List ℕ) (freed : ℕ) (at_low at_high low_offset high_offset low low_most high_least high : ℤ) → IsFreed survey (number_in naming) freed → IsProposed survey (number_in naming) at_low → IsProposed survey (number_in naming) at_high → MeetsBelow survey naming at_low → MeetsAbove survey naming at_high → IsOffset survey naming point at_low low_offset → IsOffset survey naming point at_high high_offset → AreExtremes (tilted (number_in naming) at_low survey) (name_in naming) point low low_most → AreExtremes (tilted (number_in naming) at_high survey) (name_in naming) point high_least high → IsBetween survey naming point (low +ℤ low_offset) (high +ℤ high_offset)
between_at survey naming point freed at_low at_high low_offset high_offset low low_most high_least high is_freed low_proposed high_proposed below above low_offsets high_offsets lows highs = record {
  low_reached = lies_by survey naming point freed at_low low_offset low is_freed low_proposed low_offsets lows.low_reached;
  high_reached = lies_by survey naming point freed at_high high_offset high is_freed high_proposed high_offsets highs.high_reached;
  least = λ own lies. under own lies;
  greatest = λ own lies. over own lies;
}
  where
    under : (own : ℤ) → LiesBy survey naming point own → (low +ℤ low_offset) ≤ℤ own
    under own (other, x, heights, best, is) =
        let met = below other x heights best in
        let less = met.2 point in
        let least = lows.least (gap survey naming at_low met.0 point -ℤ low_offset) (rises_by survey naming point other at_low low_offset met.0 low_offsets met.1) in
        onwards low low_offset own (gap survey naming at_low met.0 point) (gap survey naming x heights point) less least is
      where
        onwards : (l o own g h : ℤ) → g ≤ℤ h → l ≤ℤ (g -ℤ o) → h ≡ own → (l +ℤ o) ≤ℤ own
        onwards l o own g h less least is = omega (arith, ints)

    over : (own : ℤ) → LiesBy survey naming point own → own ≤ℤ (high +ℤ high_offset)
    over own (other, x, heights, best, is) =
        let met = above other x heights best in
        let less = met.2 point in
        let most = highs.greatest (gap survey naming at_high met.0 point -ℤ high_offset) (rises_by survey naming point other at_high high_offset met.0 high_offsets met.1) in
        onwards high high_offset own (gap survey naming at_high met.0 point) (gap survey naming x heights point) less most is
      where
        onwards : (t o own g h : ℤ) → h ≤ℤ g → (g -ℤ o) ≤ℤ t → h ≡ own → own ≤ℤ (t +ℤ o)
        onwards t o own g h less most is = omega (arith, ints)

-- ---- sights to a target
pub between_target : (survey : Survey) (sights : Sights) (target point : List ℕ) (freed : Freed) (a b c d : ℤ) → IsNaming survey (Target sights target) → IsExact survey (number_in (Target sights target)) freed → AreExtremes (tilted (number_in (Target sights target)) freed.low survey) target point a b → AreExtremes (tilted (number_in (Target sights target)) freed.high survey) target point c d → IsBetween survey (Target sights target) point (a +ℤ freed.low) (d +ℤ freed.high)
between_target survey sights target point freed a b c d all ends lows highs =
    between_at survey naming point freed.left freed.low freed.high freed.low freed.high a b c d ends.left ends.low ends.high below above (λ heights kept. shifted freed.low (heights point) (heights target)) (λ heights kept. shifted freed.high (heights point) (heights target)) lows highs
  where
    naming : Naming
    naming = Target sights target

    shifted : (x p t : ℤ) → (p +ℤ x *ℤ pos 0) -ℤ ((t +ℤ x *ℤ pos 0) -ℤ x) ≡ (p -ℤ t) +ℤ x
    shifted x p t = omega (arith, ints)

    below : MeetsBelow survey (Target sights target) freed.low
    below other x heights best =
        let own = proposed_best survey (number_in (Target sights target)) other freed.low best.is_freed ends.low in
        target_lower survey sights target other freed.low x own.0 heights all own.1 best (ends.least x (is_proposed survey (Target sights target) other x heights best))

    above : MeetsAbove survey (Target sights target) freed.high
    above other x heights best =
        let own = proposed_best survey (number_in (Target sights target)) other freed.high best.is_freed ends.high in
        target_higher survey sights target other freed.high x own.0 heights all own.1 best (ends.greatest x (is_proposed survey (Target sights target) other x heights best))

-- ---- sights from a station: it is the other way round
pub between_station : (survey : Survey) (sights : Sights) (station point : List ℕ) (freed : Freed) (a b c d : ℤ) → IsNaming survey (Station sights station) → IsExact survey (number_in (Station sights station)) freed → AreExtremes (tilted (number_in (Station sights station)) freed.low survey) station point a b → AreExtremes (tilted (number_in (Station sights station)) freed.high survey) station point c d → IsBetween survey (Station sights station) point (c +ℤ (pos 0 -ℤ freed.high)) (b +ℤ (pos 0 -ℤ freed.low))
between_station survey sights station point freed a b c d all ends lows highs =
    between_at survey naming point freed.left freed.high freed.low (pos 0 -ℤ freed.high) (pos 0 -ℤ freed.low) c d a b ends.left ends.high ends.low below above (λ heights kept. shifted freed.high (heights point) (heights station)) (λ heights kept. shifted freed.low (heights point) (heights station)) highs lows
  where
    naming : Naming
    naming = Station sights station

    shifted : (x p s : ℤ) → (p +ℤ x *ℤ pos 0) -ℤ ((s +ℤ x *ℤ pos 0) +ℤ x) ≡ (p -ℤ s) +ℤ (pos 0 -ℤ x)
    shifted x p s = omega (arith, ints)

    below : MeetsBelow survey (Station sights station) freed.high
    below other x heights best =
        let own = proposed_best survey (number_in (Station sights station)) other freed.high best.is_freed ends.high in
        station_lower survey sights station other freed.high x own.0 heights all own.1 best (ends.greatest x (is_proposed survey (Station sights station) other x heights best))

    above : MeetsAbove survey (Station sights station) freed.low
    above other x heights best =
        let own = proposed_best survey (number_in (Station sights station)) other freed.low best.is_freed ends.low in
        station_higher survey sights station other freed.low x own.0 heights all own.1 best (ends.least x (is_proposed survey (Station sights station) other x heights best))

-- ---- the row of a benchmark
pub between_row : (survey : Survey) (benchmark point : List ℕ) (freed : Freed) (a b c d : ℤ) → IsNaming survey (Row benchmark) → benchmark ≢ point → IsExact survey (number_in (Row benchmark)) freed → AreExtremes (tilted (number_in (Row benchmark)) freed.low survey) benchmark point a b → AreExtremes (tilted (number_in (Row benchmark)) freed.high survey) benchmark point c d → IsBetween survey (Row benchmark) point (a +ℤ pos 0) (d +ℤ pos 0)
between_row survey benchmark point freed a b c d some other ends lows highs =
    between_at survey naming point freed.left freed.low freed.high (pos 0) (pos 0) a b c d ends.left ends.low ends.high below above (offset freed.low) (offset freed.high) lows highs
  where
    naming : Naming
    naming = Row benchmark

    given : (heights : List ℕ → ℤ) → Keeps survey heights → heights benchmark ≡ base survey.benchmarks benchmark
    given heights kept = by (height_of survey.benchmarks benchmark) some refl
      where
        by : (found : Option ℤ) → IsSome found → height_of survey.benchmarks benchmark ≡ found → heights benchmark ≡ base survey.benchmarks benchmark
        by None none e = absurd (grind arith)
        by (Some height) is e = kept benchmark height e ∙ sym (ap (λ h. unwrap_or h (pos 0)) e)

    apart : bytes_eq benchmark point ≡ false
    apart = by (bytes_eq benchmark point) (bytes_eq-Decides benchmark point).0
      where
        by : (b : Bool) → (b ≡ true → benchmark ≡ point) → b ≡ false
        by true same = absurd (other (same refl))
        by false same = refl

    shifted : (x p t u l : ℤ) → l ≡ pos 0 → t ≡ u → (p +ℤ x *ℤ l) -ℤ u ≡ (p -ℤ t) +ℤ pos 0
    shifted x p t u l e f = ap (λ l. (p +ℤ x *ℤ l) -ℤ u) e ∙ none x p t u f
      where
        none : (x p t u : ℤ) → t ≡ u → (p +ℤ x *ℤ pos 0) -ℤ u ≡ (p -ℤ t) +ℤ pos 0
        none x p t u f = omega (arith, ints)

    offset : (x : ℤ) (heights : List ℕ → ℤ) → Keeps survey heights → gap survey (Row benchmark) x (raised (Benchmark benchmark) x heights) point ≡ (heights point -ℤ heights benchmark) +ℤ pos 0
    offset x heights kept = shifted x (heights point) (heights benchmark) (base survey.benchmarks benchmark) (if bytes_eq benchmark point then pos 1 else pos 0) (ap (λ b. if b then pos 1 else pos 0) apart) (given heights kept)

    below : MeetsBelow survey (Row benchmark) freed.low
    below freed_there x heights best =
        let own = proposed_best survey (number_in (Row benchmark)) freed_there freed.low best.is_freed ends.low in
        let met = point_lower survey benchmark freed_there freed.low x own.0 heights own.1 best (ends.least x (is_proposed survey (Row benchmark) freed_there x heights best)) in
        (met.0, met.1, λ at. under (met.0 at) (heights at) (base survey.benchmarks benchmark) (met.2 at))
      where
        under : (p q u : ℤ) → p ≤ℤ q → (p -ℤ u) ≤ℤ (q -ℤ u)
        under p q u less = omega (arith, ints)

    above : MeetsAbove survey (Row benchmark) freed.high
    above freed_there x heights best =
        let own = proposed_best survey (number_in (Row benchmark)) freed_there freed.high best.is_freed ends.high in
        let met = point_higher survey benchmark freed_there freed.high x own.0 heights own.1 best (ends.greatest x (is_proposed survey (Row benchmark) freed_there x heights best)) in
        (met.0, met.1, λ at. under (heights at) (met.0 at) (base survey.benchmarks benchmark) (met.2 at))
      where
        under : (p q u : ℤ) → p ≤ℤ q → (p -ℤ u) ≤ℤ (q -ℤ u)
        under p q u less = omega (arith, ints)
