-- What a command has read when it makes its texts.
use Rattle.std.specs.Prelude.{◌≡◌, ◌≤◌, ℕ, List, [], Option, length, map}
use Rattle.th_inputs.specs.declared.sums.Sum.{Sum}
use Rattle.th_limits.specs.Limits.{max_books}
use Rattle.th_observations.specs.Observed.{Observed}
use Rattle.th_run_parts.specs.Readers.{HasReadBooks}
use Rattle.th_run_parts.specs.Reads.{Run}
use Rattle.th_run_parts.specs.Summed.{AreTablesSummed, Tolds}
use Rattle.th_run_parts.specs.Writes.{Texts}

-- A reader that was new has read the books of sources that told this: their observations are these. And these are the sums of the tables.
pub record HasRead {R : Type 0} (has_read : ℕ → Option (List ℕ) → List Observed → R → R → Type 0) (is_new : R → Type 0) (tolds : Tolds) (observations : List Observed) (reader : R)
    (of_tables : List Sum) : Type 0 where
  pub first : R
  pub new : is_new first
  pub few : length tolds.books ≤ max_books
  pub read : HasReadBooks has_read 1 tolds.books [] observations first reader
  pub tables : AreTablesSummed tolds.benchmarks tolds.weights [] of_tables

-- texts are for the outputs of a run, in their order
abbrev pub AreFor : Run → Texts → Type 0
AreFor run texts = map (λ own. own.0) texts ≡ run.outputs
