-- How points are sighted, in sets.
use Rattle.std.specs.Prelude.{◌≡◌, ℕ, List}
use Rattle.th_observations.specs.Observed.{Observed}
use Rattle.th_notes.specs.Inside.Sets.{has_name, has_pair}
use Rattle.th_notes.specs.Seen.{is_station, was_observed}
use Rattle.th_notes.specs.Uses.{AreUsed, uses_of}
use Rattle.th_notes.specs.declared.sightings.Sightings.{Sightings}

-- the sets have what observations say
pub record AreSightings (observations : List Observed) (sightings : Sightings) : Type 0 where
  pub uses : AreUsed (uses_of observations) sightings.uses
  pub stations : (name : List ℕ) → has_name sightings.stations name ≡ is_station observations name
  pub pairs : (ends : List ℕ × List ℕ) → has_pair sightings.pairs ends ≡ was_observed observations ends
