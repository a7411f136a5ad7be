-- What looks odd in a block, given what it enters.
use Rattle.std.specs.Prelude.{ℕ, ◌&&◌, Bool, false, List, [], ◌∷◌, Option, Some, None, if◌then◌else◌, is_some}
use Rattle.std.specs.List.{list_any}
use Rattle.gsi_word.specs.Words.{Parts}
use Rattle.th_book.specs.declared.entries.Entered.{Entered}
use Rattle.th_book.specs.declared.setups.Setup.{Setup}
use Rattle.th_entries.specs.Oddities.{differ, is_no_distance, is_zero}

-- a block points in a direction alone
abbrev pub points : Entered → List Parts → Bool
points entered words = is_zero entered.sighted && list_any is_no_distance words

-- a sight enters another instrument height than the running setup has
abbrev pub changes : Option Setup → Entered → Bool
changes None entered = false
changes (Some setup) entered = is_some entered.target && differ setup.instrument entered.instrument

-- a line's number if it is odd, else nothing
abbrev pub line_if : Bool → ℕ → List ℕ
line_if odd line = if odd then line ∷ [] else []
