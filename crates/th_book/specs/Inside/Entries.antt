-- The running setup after what a block enters.
use Rattle.std.specs.Prelude.{ℕ, List, Option, None, option_map}
use Rattle.std.specs.Option.{option_or}
use Rattle.th_book.specs.declared.entries.Entered.{Entered}
use Rattle.th_book.specs.declared.setups.Setup.{Setup}

-- a setup, updated with the heights of an entry
abbrev pub with_entry : Entered → Setup → Setup
with_entry entry setup = record setup {
  instrument = option_or entry.instrument setup.instrument;
  reflector = option_or entry.reflector setup.reflector;
}

-- a setup that begins at a station
abbrev pub setup_at : List ℕ → Setup
setup_at station = record { station = station; instrument = None; reflector = None }

-- the running setup after an entry: the one that it begins, or else the previous one, updated with its heights
abbrev pub setup_by : Entered → Option Setup → Option Setup
setup_by entry running = option_map (with_entry entry) (option_or (option_map setup_at entry.station) running)
