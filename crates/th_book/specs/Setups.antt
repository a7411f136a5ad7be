-- The setup that runs at a place of a book.
use Rattle.std.specs.Prelude.{◌≡◌, ◌<◌, ℕ, ℤ, List, Option, Some, None, is_some, option_and_then}
use Rattle.gsi_word.specs.Indexes.{reflector_height, instrument_height}
use Rattle.th_book.specs.Lines.{ParsedLine, length_in, point_name}
use Rattle.th_book.specs.Places.{holds_from, last_below, words_at}
use Rattle.th_book.specs.declared.setups.Setup.{Setup}

-- a running height: that of the last line that holds the index, from the setup's line on and below a bound; it is present exactly where such a line is
pub record IsHeight (index : ℕ) (parsed : List ParsedLine) (from bound : ℕ) (height : Option ℤ) : Type 0 where
  pub length : height ≡ option_and_then (λ k. length_in index (words_at parsed k)) (last_below (holds_from parsed index from) bound)
  pub there : is_some height ≡ is_some (last_below (holds_from parsed index from) bound)

-- a setup begins at a place before a bound: it has the name of the point there, and the last heights since
pub record StandsAt (parsed : List ParsedLine) (from bound : ℕ) (setup : Setup) : Type 0 where
  pub before : from < bound
  pub name : point_name (words_at parsed from) ≡ Some setup.station
  pub instrument : IsHeight instrument_height parsed from bound setup.instrument
  pub reflector : IsHeight reflector_height parsed from bound setup.reflector

-- a running setup is the one that begins at a place, if there is one
abbrev pub IsRunning : List ParsedLine → ℕ → Option ℕ → Option Setup → Type 0
IsRunning parsed bound None None = Unit {0}
IsRunning parsed bound None (Some setup) = ⊥
IsRunning parsed bound (Some from) None = ⊥
IsRunning parsed bound (Some from) (Some setup) = StandsAt parsed from bound setup
