-- What is known of a line that was printed, and of one that was not.
use Rattle.std.specs.Prelude.{◌≡◌, ◌++◌, ℕ, List, Option, Result, Ok, Err}
use Rattle.std.specs.List.{flat_map}
use Rattle.th_book.specs.declared.faults.BookKind.TheVariants as kind
use Rattle.th_conversions.specs.declared.height_faults.HeightFault.{HeightFault}
use Rattle.th_conversions.specs.declared.height_faults.HeightKind.{HeightKind}
use Rattle.th_conversions.specs.declared.height_faults.HeightKind.TheVariants.{Book}
use Rattle.th_conversions.specs.Printed.{Lines, Step, ended}
use Rattle.th_conversions.specs.declared.lines.Stop.{Stop}
use Rattle.th_conversions.specs.declared.lines.Stop.TheVariants as stop
use Rattle.th_conversions.specs.declared.running.Running.{Running}

-- a line was printed as it has to be, behind a text, and this runs now
pub record IsPrinted (owed : Result Step HeightKind) (running : Option Running) (before after : List ℕ) : Type 0 where
  pub step : Step
  pub is : owed ≡ Ok step
  pub runs : running ≡ step.1
  pub text : after ≡ before ++ ended step.0

-- the line was not printed for its fault, and the text is as before; or memory ran out
abbrev pub IsStopOf : Result Step HeightKind → List ℕ → List ℕ → Stop → Type 0
IsStopOf owed before after (stop.Fault own) = (owed ≡ Err own) × (after ≡ before)
IsStopOf owed before after stop.NoMemory = Unit {0}

-- the kind of the fault to report
abbrev pub stop_kind : Stop → HeightKind
stop_kind (stop.Fault own) = own
stop_kind stop.NoMemory = Book kind.NoMemory

-- lines were printed behind a text, and this came behind them
pub record ArePrinted (owed : Lines) (fault : Option HeightFault) (before after : List ℕ) : Type 0 where
  pub text : after ≡ before ++ flat_map ended owed.0
  pub ends : owed.1 ≡ fault
