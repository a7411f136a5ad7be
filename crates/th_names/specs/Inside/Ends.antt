-- How high a point is above a name's point in two surveys: with the least and with the greatest change that is proposed.
use Rattle.std.specs.Prelude.{ℕ, ℤ, pos, ◌+ℤ◌, ◌-ℤ◌, List, slice_index_or}
use Rattle.th_explain.specs.Explained.{mildest}
use Rattle.th_explain.specs.declared.freed.Freed.{Freed}
use Rattle.th_names.specs.declared.distances.Ends.{Ends}
use Rattle.th_names.specs.declared.namings.Naming.{Naming}
use Rattle.th_names.specs.declared.namings.Naming.TheVariants.{Row, Station, Target}

-- how far the point is from what is read
abbrev pub distance_by : Naming → Freed → Ends → ℕ
distance_by (Target sights name) freed ends = mildest (ends.least +ℤ freed.low) (ends.greatest +ℤ freed.high)
distance_by (Station sights name) freed ends = mildest (ends.least_after +ℤ (pos 0 -ℤ freed.high)) (ends.greatest_before +ℤ (pos 0 -ℤ freed.low))
distance_by (Row name) freed ends = mildest (ends.least +ℤ pos 0) (ends.greatest +ℤ pos 0)

-- how high the point at a place is
abbrev pub ends_at : List ℤ → List ℤ → List ℤ → List ℤ → ℕ → Ends
ends_at before_low before_high after_low after_high k = record {
  least = slice_index_or before_low k (pos 0);
  greatest_before = slice_index_or before_high k (pos 0);
  least_after = slice_index_or after_low k (pos 0);
  greatest = slice_index_or after_high k (pos 0);
}
