-- The distance of a point by two adjustments.
use Rattle.std.proofs.Common.{◌≡◌, ◌<◌, ℕ, ℤ, pos, ◌+ℤ◌, ◌-ℤ◌, true, List, [], Some, get_or, length, slice_get, refl, subst, sym, ap, ◌∙◌}
use Rattle.std.proofs.lemmas.List.{get_or_default}
use Rattle.std.proofs.lemmas.Option.{slice_get_read}
use Rattle.th_changes.proofs.TiltLemmas.{points_tilted}
use Rattle.th_changes.specs.Tilted.{tilted}
use Rattle.th_explain.specs.Explained.{IsExact}
use Rattle.th_explain.specs.declared.freed.Freed.{Freed}
use Rattle.th_network.specs.Networks.{Survey, points_of}
use Rattle.th_names.specs.Rises.{AreExtremes, AreRises}
use Rattle.th_names.specs.Gaps.{IsNaming, name_in, number_in}
use Rattle.th_names.specs.Nears.{IsDistance, IsLocated, may_be_read}
use Rattle.th_names.specs.Inside.Ends.{distance_by, ends_at}
use Rattle.th_names.specs.declared.distances.Ends.{Ends}
use Rattle.th_names.specs.declared.namings.Naming.{Naming}
use Rattle.th_names.specs.declared.namings.Naming.TheVariants.{Row, Station, Target}
use Rattle.th_names.proofs.GapLemmas.{between_row, between_station, between_target}
use Rattle.th_names.proofs.NamingLemmas.{another_point}

distance_is : (survey : Survey) (naming : Naming) (freed : Freed) (point : List ℕ) (ends : Ends) → IsNaming survey naming → may_be_read survey naming point ≡ true → IsExact survey (number_in naming) freed
    → AreExtremes (tilted (number_in naming) freed.low survey) (name_in naming) point ends.least ends.greatest_before → AreExtremes (tilted (number_in naming) freed.high survey) (name_in naming) point ends.least_after ends.greatest
    → IsDistance survey naming point (distance_by naming freed ends)
distance_is survey (Target sights name) freed point ends is may exact lows highs = record {
  low = ends.least +ℤ freed.low;
  high = ends.greatest +ℤ freed.high;
  between = between_target survey sights name point freed ends.least ends.greatest_before ends.least_after ends.greatest is exact lows highs;
  is = refl;
}
distance_is survey (Station sights name) freed point ends is may exact lows highs = record {
  low = ends.least_after +ℤ (pos 0 -ℤ freed.high);
  high = ends.greatest_before +ℤ (pos 0 -ℤ freed.low);
  between = between_station survey sights name point freed ends.least ends.greatest_before ends.least_after ends.greatest is exact lows highs;
  is = refl;
}
distance_is survey (Row name) freed point ends is may exact lows highs = record {
  low = ends.least +ℤ pos 0;
  high = ends.greatest +ℤ pos 0;
  between = between_row survey name point freed ends.least ends.greatest_before ends.least_after ends.greatest is (another_point survey name point may) exact lows highs;
  is = refl;
}

-- where a point is in the survey, it is in a tilted one
at_tilted : (survey : Survey) (naming : Naming) (x : ℤ) (k : ℕ) (point : List ℕ) → slice_get (points_of survey) k ≡ Some point → slice_get (points_of (tilted (number_in naming) x survey)) k ≡ Some point
at_tilted survey naming x k point at =
    ap (λ (points : List (List ℕ)). slice_get points k) (points_tilted (number_in naming) x survey.observations survey.benchmarks) ∙ at

pub located_here : (survey : Survey) (naming : Naming) (freed : Freed) (point : List ℕ) (k : ℕ) (before_low before_high after_low after_high : List ℤ) → IsNaming survey naming → IsExact survey (number_in naming) freed
    → AreRises (tilted (number_in naming) freed.low survey) (name_in naming) before_low before_high → AreRises (tilted (number_in naming) freed.high survey) (name_in naming) after_low after_high
    → slice_get (points_of survey) k ≡ Some point → IsLocated survey naming point (record { point = point; distance = distance_by naming freed (ends_at before_low before_high after_low after_high k) })
located_here survey naming freed point k before_low before_high after_low after_high is exact before after at = record {
  point_is = refl;
  far = λ may. distance_is survey naming freed point (ends_at before_low before_high after_low after_high k) is may exact
      (before.extremes k point (at_tilted survey naming freed.low k point at)) (after.extremes k point (at_tilted survey naming freed.high k point at));
}

-- there is a point at each place
abbrev IsOf : Survey → ℕ → List ℤ → List ℤ → Type 0
IsOf own place low high = (from : List ℕ) → slice_get (points_of own) place ≡ Some from → AreRises own from low high

some_at : (own survey : Survey) (place : ℕ) → points_of own ≡ points_of survey → place < length (points_of survey) → slice_get (points_of own) place ≡ Some (get_or (points_of own) place [])
some_at own survey place same within =
    let there : place < length (points_of own) = subst (λ (points : List (List ℕ)). place < length points) (sym same) within in
    slice_get_read (points_of own) (length (points_of own)) place (get_or (points_of own) place []) refl there (get_or_default (points_of own) place [] (get_or (points_of own) place []) there)

pub each_low : (own survey : Survey) (place : ℕ) (low high : List ℤ) → points_of own ≡ points_of survey → place < length (points_of survey) → IsOf own place low high → length low ≡ length (points_of survey)
each_low own survey place low high same within are = (are (get_or (points_of own) place []) (some_at own survey place same within)).each_low ∙ ap length same

pub each_high : (own survey : Survey) (place : ℕ) (low high : List ℤ) → points_of own ≡ points_of survey → place < length (points_of survey) → IsOf own place low high → length high ≡ length (points_of survey)
each_high own survey place low high same within are = (are (get_or (points_of own) place []) (some_at own survey place same within)).each_high ∙ ap length same
