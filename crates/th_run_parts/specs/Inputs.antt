-- What a run is owed by its inputs: the first fault in the order of its sources, or what they say.
use Rattle.std.specs.Prelude.{◌≡◌, ◌≢◌, ◌+◌, ℕ, List, [], ◌∷◌, ◌++◌, Option, Some, None, IfSome, Result, Ok, Err, if◌then◌else◌, map, nat_lt, option_map}
use Rattle.std.specs.List.{AllZip}
use Rattle.th_book.specs.Books.{book_answer}
use Rattle.th_book.specs.Limits.{max_book}
use Rattle.th_observations.specs.Observed.{Observed}
use Rattle.th_devices.specs.Devices.{SourceState}
use Rattle.th_tables.specs.Limits.{max_table}
use Rattle.th_tables.specs.Rows.{BenchmarkRows, WeightRows}
use Rattle.th_tables.specs.Tables.{benchmarks_of, weights_of}
use Rattle.th_certificate.specs.Certified.{Certified}
use Rattle.th_certificate.specs.Reading.{certificate_of}
use Rattle.th_certificate.specs.Limits.{max_certificate}
use Rattle.th_conversions.specs.Limits.{max_differences}
use Rattle.th_mend.specs.Limits.{max_changes}
use Rattle.th_network.specs.Faults.{HasFault, IsNetwork}
use Rattle.th_network.specs.Networks.{Survey, surveyed}
use Rattle.th_network.specs.declared.faults.NetFault.{NetFault}
use Rattle.th_inputs.specs.declared.inputs.Input.{Input}
use Rattle.th_inputs.specs.declared.inputs.Input.TheVariants as input
use Rattle.th_run_parts.specs.declared.refusals.Refusal.{Refusal}
use Rattle.th_run_parts.specs.declared.refusals.Refusal.TheVariants as refusal

-- the most bytes that an input has
abbrev pub limit_of : Input → ℕ
limit_of (input.Book number) = max_book
limit_of input.Benchmarks = max_table
limit_of input.Weights = max_table
limit_of input.Certificate = max_certificate
limit_of input.Differences = max_differences
limit_of input.Changes = max_changes

-- what a source gave to a run: a failed read, the text that it reported, or a text that it did not report
pub data Given : Type 0 where
  Failed : Given
  Text : List ℕ → Given
  Untold : Given

-- what a source gave, if no read failed: the text that it reported before, if it did
abbrev pub of_told : Option (List ℕ) → Given
of_told None = Untold
of_told (Some text) = Text text

-- what a source gave, from its counts of failures before and after, and from what it reported before
abbrev pub given_at : ℕ → ℕ → Option (List ℕ) → Given
given_at before after told = if nat_lt before after then Failed else of_told told

-- what a source gave, from how it was before and after
abbrev pub given : {S : Type 0} → (S → SourceState) → S → S → Given
given state_of old new = given_at (state_of old).counts.failures (state_of new).counts.failures (state_of old).left

-- what sources gave, in their order
abbrev pub givens : {S : Type 0} → (S → SourceState) → List S → List S → List Given
givens state_of (old ∷ olds) (new ∷ news) = given state_of old new ∷ givens state_of olds news
givens state_of olds news = []

-- what sources told before a run
abbrev pub told_by : {S : Type 0} → (S → SourceState) → List S → List (Option (List ℕ))
told_by state_of sources = map (λ source. (state_of source).left) sources

-- what a source told before a run that may be absent
abbrev pub told_if_any : {S : Type 0} → (S → SourceState) → Option S → Option (Option (List ℕ))
told_if_any state_of source = option_map (λ own. (state_of own).left) source

-- for each source the text that it gave: the one that it reported, if it reported one
abbrev pub AreTold : List (Option (List ℕ)) → List (List ℕ) → Type 0
AreTold tolds texts = AllZip (λ told text. IfSome told (λ own. own ≡ text)) tolds texts

-- what a source gave that may be absent
abbrev pub given_if_any : {S : Type 0} → (S → SourceState) → Option S → Option S → Option Given
given_if_any state_of (Some old) (Some new) = Some (given state_of old new)
given_if_any state_of old new = None

-- the result that a run must return, if it is known
abbrev pub Owed : Type 0 → Type 0
Owed X = Option (Result X Refusal)

-- a result whose fault becomes a refusal
abbrev pub or_refused : {X F : Type 0} → (F → Refusal) → Result X F → Result X Refusal
or_refused refuse (Ok x) = Ok x
or_refused refuse (Err fault) = Err (refuse fault)

-- what must be returned for a source of this input, given the result of its text
abbrev pub owed_for : {X : Type 0} → Input → (List ℕ → Result X Refusal) → Given → Owed X
owed_for which answer Failed = Some (Err (refusal.Read which))
owed_for which answer (Text text) = Some (answer text)
owed_for which answer Untold = None

-- the first refusal decides; if it is not known whether there is one, the result is not known
abbrev pub and_then : {X Y : Type 0} → Owed X → (X → Owed Y) → Owed Y
and_then None next = None
and_then (Some (Err own)) next = Some (Err own)
and_then (Some (Ok x)) next = next x

-- what must be returned for the book with this number: its observations, or its fault
abbrev pub owed_for_book : ℕ → Given → Owed (List Observed)
owed_for_book number = owed_for (input.Book number) (λ text. or_refused (refusal.Book number) (book_answer number text))

-- what must be returned for books from this number on, after the observations of the books before
abbrev pub owed_for_books : ℕ → List Observed → List Given → Owed (List Observed)
owed_for_books number before [] = Some (Ok before)
owed_for_books number before (book ∷ books) =
    and_then (owed_for_book number book) (λ observations. owed_for_books (number + 1) (before ++ observations) books)

-- what must be returned for the table of benchmarks, and for that of weights, which is optional
abbrev pub owed_for_benchmarks : Given → Owed BenchmarkRows
owed_for_benchmarks = owed_for input.Benchmarks (λ text. or_refused refusal.Benchmarks (benchmarks_of text))

abbrev pub owed_for_weights : Option Given → Owed WeightRows
owed_for_weights None = Some (Ok [])
owed_for_weights (Some weights) = owed_for input.Weights (λ text. or_refused refusal.Weights (weights_of text)) weights

-- what must be returned for a certificate
abbrev pub owed_for_certificate : Given → Owed Certified
owed_for_certificate = owed_for input.Certificate (λ text. or_refused refusal.Certificate (certificate_of text))

-- the rows of both tables
pub record TableRows : Type 0 where
  pub benchmarks : BenchmarkRows
  pub weights : WeightRows

abbrev pub owed_for_tables : Given → Option Given → Owed TableRows
owed_for_tables benchmarks weights =
    and_then (owed_for_benchmarks benchmarks)
    (λ heights. and_then (owed_for_weights weights)
    (λ factors. Some (Ok (record { benchmarks = heights; weights = factors }))))

-- what must be returned for books and tables: the first fault of books, benchmarks and weights in this order, or their survey
abbrev pub owed_for_survey : List Given → Given → Option Given → Owed Survey
owed_for_survey books benchmarks weights =
    and_then (owed_for_books 1 [] books)
    (λ observations. and_then (owed_for_tables benchmarks weights)
    (λ tables. Some (Ok (surveyed observations tables.benchmarks tables.weights))))

-- what a run is owed by the sources of its books, benchmarks and weights
abbrev pub owed_by_sources : {B T W : Type 0} → (B → SourceState) → (T → SourceState) → (W → SourceState) → List B → List B → T → T → Option W → Option W → Owed Survey
owed_by_sources of_book of_table of_weights books books' benchmarks benchmarks' weights weights' =
    owed_for_survey (givens of_book books books') (given of_table benchmarks benchmarks') (given_if_any of_weights weights weights')

-- a survey, and a certificate for it
pub record Claim : Type 0 where
  pub survey : Survey
  pub certificate : Certified

-- what must be returned for a check; the certificate comes after the tables
abbrev pub owed_for_claim : List Given → Given → Option Given → Given → Owed Claim
owed_for_claim books benchmarks weights certificate =
    and_then (owed_for_survey books benchmarks weights)
    (λ survey. and_then (owed_for_certificate certificate)
    (λ stated. Some (Ok (record { survey = survey; certificate = stated }))))

-- what a check is owed by the sources of its books, benchmarks, weights and certificate
abbrev pub claim_owed_by_sources : {B T W C : Type 0} → (B → SourceState) → (T → SourceState) → (W → SourceState) → (C → SourceState) → List B → List B → T → T
    → Option W → Option W → C → C → Owed Claim
claim_owed_by_sources of_book of_table of_weights of_certificate books books' benchmarks benchmarks' weights weights' certificate certificate' =
    owed_for_claim (givens of_book books books') (given of_table benchmarks benchmarks') (given_if_any of_weights weights weights') (given of_certificate certificate certificate')

-- a result is the one that must be returned, if that is known
abbrev pub Meets : {X : Type 0} → Owed X → Result X Refusal → Type 0
Meets owed answer = IfSome owed (λ known. known ≡ answer)

-- a refusal is the one that must be returned, if that is known, or it is out of memory
abbrev pub MeetsRefusal : {X : Type 0} → Owed X → Refusal → Type 0
MeetsRefusal owed own = own ≢ refusal.NoMemory → Meets owed (Err own)

-- a result is the one that must be returned, if that is known, or it is out of memory
abbrev pub AnswersOwed : {X : Type 0} → Owed X → Result X Refusal → Type 0
AnswersOwed owed (Ok x) = Meets owed (Ok x)
AnswersOwed owed (Err own) = MeetsRefusal owed own

-- a survey makes a network, or its network has this fault
abbrev pub MakesNetwork : Survey → Type 0
MakesNetwork survey = IsNetwork survey.observations survey.benchmarks

abbrev pub HasNetFault : Survey → NetFault → Type 0
HasNetFault survey fault = HasFault survey.observations survey.benchmarks fault

-- what must be returned has a survey whose network has this fault, if it is known
abbrev pub OwesNetFault : {X : Type 0} → (X → Survey) → Owed X → NetFault → Type 0
OwesNetFault survey_of None fault = Unit {0}
OwesNetFault survey_of (Some (Err own)) fault = ⊥
OwesNetFault survey_of (Some (Ok x)) fault = HasNetFault (survey_of x) fault

-- The refusal of a run before it has its answer. A fault of the network comes after those of all inputs, and out of memory may come in place of any.
abbrev pub IsOwed : {X : Type 0} → (X → Survey) → Owed X → Refusal → Type 0
IsOwed survey_of owed (refusal.Network fault) = OwesNetFault survey_of owed fault
IsOwed survey_of owed refusal.NoMemory = Unit {0}
IsOwed survey_of owed own = Meets owed (Err own)
