-- What a run over a folder must return, given what is in the folder.
use Rattle.std.specs.Prelude.{◌≡◌, ◌+◌, ◌++◌, ℕ, List, [], ◌∷◌, Option, Some, map, option_map, option_to_list, slice_get}
use Rattle.th_observations.specs.Observed.{Observed}
use Rattle.th_run_parts.specs.Booked.{converted, input_of}
use Rattle.th_run_parts.specs.Mended.{owed_for_mended}
use Rattle.th_run_parts.specs.declared.conversions.Conversion.{Conversion}
use Rattle.th_devices.specs.Spots.{Spot, file}
use Rattle.th_network.specs.Networks.{Survey}
use Rattle.th_commands.specs.Asked.{Files}
use Rattle.th_run_parts.specs.Inputs.{Claim, Given, Owed, given_at, owed_for_book, owed_for_claim, owed_for_survey}
use Rattle.th_run_parts.specs.Reads.{failed_reads_of}
use Rattle.th_run_parts.specs.Summed.{Tolds}
use Rattle.th_inputs.specs.declared.inputs.Input.{Input}
use Rattle.th_inputs.specs.declared.inputs.Input.TheVariants as input
use Rattle.th_run_parts.specs.declared.refusals.Refusal.{Refusal}

-- what a folder reports: the bytes at each spot, or none
abbrev pub Told : Type 0
Told = Spot → Option (List ℕ)

-- the names of all files, in the order in which they are read
abbrev pub all_names : Files → List (List ℕ)
all_names from = from.books ++ from.benchmarks ∷ option_to_list from.weights

-- and with the certificate that a check reads last
abbrev pub claim_names : Files → List ℕ → List (List ℕ)
claim_names from certificate = all_names from ++ certificate ∷ []

-- what the named files told before a run
abbrev pub tolds_in : Told → Files → Tolds
tolds_in told from = record {
  books = map (λ name. told (file name)) from.books;
  benchmarks = told (file from.benchmarks);
  weights = option_map (λ name. told (file name)) from.weights;
}

-- what a spot gave to a run that ended with this refusal, or with none: what was there, with the failed reads that the refusal reports
abbrev pub given_from : Told → Option Refusal → Input → Spot → Given
given_from told answer which spot = given_at 0 (failed_reads_of which answer) (told spot)

-- what the file of this name gave
abbrev pub given_by : Told → Option Refusal → Input → List ℕ → Given
given_by told answer which name = given_from told answer which (file name)

-- the book with this number has this name; books count from 1
abbrev pub IsBook : List (List ℕ) → ℕ → List ℕ → Type 0
IsBook names number name = (place : ℕ) × (number ≡ place + 1) × (slice_get names place ≡ Some name)

-- the files have this name for an input of a run; neither the certificate nor a table of differences or of changes is among them
abbrev pub HasName : Files → Input → List ℕ → Type 0
HasName from (input.Book number) name = IsBook from.books number name
HasName from input.Benchmarks name = name ≡ from.benchmarks
HasName from input.Weights name = from.weights ≡ Some name
HasName from input.Certificate name = ⊥
HasName from input.Differences name = ⊥
HasName from input.Changes name = ⊥

-- what the files of books gave, the first of them having this number
abbrev pub given_by_books : Told → Option Refusal → ℕ → List (List ℕ) → List Given
given_by_books told answer number (name ∷ names) = given_by told answer (input.Book number) name ∷ given_by_books told answer (number + 1) names
given_by_books told answer number [] = []

-- what a list of the book at this spot must return: its observations, or its first fault
abbrev pub book_owed : Told → Option Refusal → Spot → Owed (List Observed)
book_owed told answer spot = owed_for_book 1 (given_from told answer (input.Book 1) spot)

-- what must be returned for the file of this name that becomes a book: that book, or its first fault
abbrev pub converted_owed : Told → Option Refusal → Conversion → List ℕ → Owed (List ℕ)
converted_owed told answer conversion name = converted conversion (given_by told answer (input_of conversion) name)

-- what must be returned for the files of these names that have a table of changes and a book: the mended book, or the first fault
abbrev pub mended_owed : Told → Option Refusal → List ℕ → List ℕ → Owed (List ℕ)
mended_owed told answer changes book = owed_for_mended (given_by told answer input.Changes changes) (given_by told answer (input.Book 1) book)

-- what a run that reads these files must return: their survey, or their first fault
abbrev pub survey_owed : Told → Option Refusal → Files → Owed Survey
survey_owed told answer files =
    owed_for_survey (given_by_books told answer 1 files.books) (given_by told answer input.Benchmarks files.benchmarks)
    (option_map (given_by told answer input.Weights) files.weights)

-- what a run that reads these files and a certificate must return: their claim, or their first fault
abbrev pub claim_owed : Told → Option Refusal → Files → List ℕ → Owed Claim
claim_owed told answer files certificate =
    owed_for_claim (given_by_books told answer 1 files.books) (given_by told answer input.Benchmarks files.benchmarks)
    (option_map (given_by told answer input.Weights) files.weights) (given_by told answer input.Certificate certificate)
