-- The text of a book as it is printed line by line.
use Rattle.std.proofs.Common.{◌≡◌, ◌≢◌, ◌+◌, ◌++◌, ◌∷◌, [], ℕ, List, Option, Some, Err, refl, sym, ap, ◌∙◌}
use Rattle.std.specs.List.{flat_map}
use Rattle.std.specs.Prelude.{Result}
use Rattle.std.proofs.lemmas.List.{append-nil}
use Rattle.th_book.specs.declared.faults.BookKind.TheVariants as kind
use Rattle.th_conversions.specs.HeightFaults.{fault_in}
use Rattle.th_conversions.specs.Inside.Stops.{IsStopOf, stop_kind}
use Rattle.th_conversions.specs.declared.height_faults.HeightFault.{HeightFault}
use Rattle.th_conversions.specs.declared.height_faults.HeightKind.{HeightKind}
use Rattle.th_conversions.specs.declared.height_faults.HeightKind.TheVariants.{Book}
use Rattle.th_conversions.specs.Printed.{Lines, Step, ended, printed_from, printed_line, then_lines}
use Rattle.th_conversions.specs.declared.lines.Stop.{Stop}
use Rattle.th_conversions.specs.declared.lines.Stop.TheVariants as stop
use Rattle.th_conversions.specs.declared.running.Running.{Running}

-- what is still to print makes these texts and this end
pub record Makes (text : List ℕ) (rest : Lines) (all : List ℕ) (end : Option HeightFault) : Type 0 where
  pub whole : text ++ flat_map ended rest.0 ≡ all
  pub ends : rest.1 ≡ end

-- why a line was not printed, unless memory ran out
pub stop_end : (owed : Result Step HeightKind) (before after : List ℕ) (own : Stop) → IsStopOf owed before after own → stop_kind own ≢ Book kind.NoMemory
    → (owed ≡ Err (stop_kind own)) × (after ≡ before)
stop_end owed before after (stop.Fault own) is real = is
stop_end owed before after stop.NoMemory is real = absurd (real refl)

first_step : (running : Option Running) (count : ℕ) (line : List ℕ) (left rest : List (List ℕ)) (step : Result Step HeightKind) → left ≡ line ∷ rest → printed_line running line ≡ step
    → printed_from running count left ≡ then_lines count step (λ next. printed_from next (count + 1) rest)
first_step running count line left rest step first is =
    ap (printed_from running count) first ∙ ap (λ (own : Result Step HeightKind). then_lines count own (λ next. printed_from next (count + 1) rest)) is

-- a line was not printed
pub no_more : (text all : List ℕ) (end : Option HeightFault) (running : Option Running) (count : ℕ) (line : List ℕ) (left rest : List (List ℕ)) (kind : HeightKind) → left ≡ line ∷ rest
    → printed_line running line ≡ Err kind → Makes text (printed_from running count left) all end → (text ≡ all) × (end ≡ Some (fault_in count kind))
no_more text all end running count line left rest kind first is makes =
    let step = first_step running count line left rest (Err kind) first is in (
      sym (append-nil text) ∙ sym (ap (λ (own : Lines). text ++ flat_map ended own.0) step) ∙ makes.whole,
      sym makes.ends ∙ ap (λ (own : Lines). own.1) step,
    )
