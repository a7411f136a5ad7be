use Rattle.std.specs.Prelude.{◌≡◌, ◌≢◌, ◌≤◌, ℕ, ℤ, ◌+◌, ◌||◌, true, false, List, [], ◌∷◌, ◌++◌, Option, Some, None, Result, Ok, Err, IfErr, OnOk, if◌then◌else◌, is_none, is_some, length, map, option_and_then, option_map, option_to_list}
use Rattle.gsi_word.specs.Indexes.{height_difference, reflector_height, instrument_height}
use Rattle.gsi_word.specs.Words.{Parts}
use Rattle.gsi_block.specs.Blocks.{block_at}
use Rattle.th_observations.specs.Observed.{Observed}
use Rattle.th_book.specs.Lines.{ParsedLine, holds, is_setup, is_sight, length_in, point_name, words_in}
use Rattle.th_book.specs.Faults.{Standing, fault_in, kind_of}
use Rattle.th_book.specs.Books.{answer, difference, known_name}
use Rattle.th_book.specs.declared.setups.Setup.{Setup}
use Rattle.th_book.specs.declared.faults.BookKind.{BookKind}
use Rattle.th_book.specs.declared.faults.BookKind.TheVariants.{NoMemory}
use Rattle.th_book.specs.declared.faults.BookFault.{BookFault}

-- The state of a `Book`: its number, how many lines it has taken, the running setup, the observations so far, how many
-- observations it has capacity for, and the fault if one was found. What is due does not depend on the capacity.
pub record BookState : Type 0 where
  pub book : ℕ
  pub lines : ℕ
  pub setup : Option Setup
  pub observations : List Observed
  pub room : ℕ
  pub fault : Option BookFault

-- the state of a new book
abbrev pub empty : ℕ → BookState
empty book = record { book = book; lines = 0; setup = None; observations = []; room = 0; fault = None }

-- what a sight with these words has in the running setup; heights may be in the words themselves or before them
abbrev pub standing_in : Option Setup → List Parts → Standing
standing_in None words = record { setup = false; instrument = false; reflector = false; station = None }
standing_in (Some setup) words = record {
  setup = true;
  instrument = holds instrument_height words || is_some setup.instrument;
  reflector = holds reflector_height words || is_some setup.reflector;
  station = Some setup.station;
}

-- a height after some words: the one that they hold, or else the previous one
abbrev pub latest : ℕ → List Parts → Option ℤ → Option ℤ
latest index words before = if holds index words then length_in index words else before

-- a setup, updated with the heights of some words
abbrev pub with_heights : List Parts → Setup → Setup
with_heights words setup = record {
  station = setup.station;
  instrument = latest instrument_height words setup.instrument;
  reflector = latest reflector_height words setup.reflector;
}

-- the setup that some words begin, without heights
abbrev pub begun : List Parts → Setup
begun words = record { station = known_name (point_name words); instrument = None; reflector = None }

-- the running setup after some words: the setup that they begin, or else the previous one, updated with their heights
abbrev pub setup_after : Option Setup → List Parts → Option Setup
setup_after setup words = option_map (with_heights words) (if is_setup words then Some (begun words) else setup)

-- the observation that a sight gives in a setup
abbrev pub observed_in : ℕ → ℕ → Option Setup → List Parts → Observed
observed_in book line setup words = record {
  station = known_name (option_map (λ own. own.station) setup);
  target = known_name (point_name words);
  difference = difference (length_in height_difference words) (option_and_then (λ own. own.instrument) setup) (option_and_then (λ own. own.reflector) setup);
  book = book;
  line = line;
}

-- the observation that some words give in a running setup, if they are a sight
abbrev pub observation_in : ℕ → ℕ → Option Setup → List Parts → Option Observed
observation_in book line setup words =
    if is_sight words then Some (observed_in book line (setup_after setup words) words) else None

-- the state after a line with these words, given the kind of its fault: the fault is recorded, or else what the words say
abbrev pub after_words : BookState → List Parts → Option BookKind → BookState
after_words state words (Some kind) = record state { lines = state.lines + 1; fault = Some (fault_in state.lines kind) }
after_words state words None = record state {
  lines = state.lines + 1;
  setup = setup_after state.setup words;
  observations = state.observations ++ option_to_list (observation_in state.book (state.lines + 1) state.setup words);
  fault = None;
}

-- the state after one more line, given the fault found before: after a fault nothing changes
abbrev pub after_unless : Option BookFault → BookState → ParsedLine → BookState
after_unless (Some fault) state parsed = state
after_unless None state parsed = after_words state (words_in parsed) (kind_of (standing_in state.setup (words_in parsed)) parsed)

-- the state after one more line, given as parsed
abbrev pub after_parsed : BookState → ParsedLine → BookState
after_parsed state parsed = after_unless state.fault state parsed

-- the state after one more line
abbrev pub after : BookState → List ℕ → BookState
after state line = after_parsed state (block_at line)

-- what is still to come if these parsed lines follow
abbrev pub due_parsed : BookState → List ParsedLine → Result (List Observed) BookFault
due_parsed state [] = answer state.fault state.observations
due_parsed state (parsed ∷ rest) = due_parsed (after_parsed state parsed) rest

-- what is still to come from a book in this state, if these lines follow: the observations of the whole book, or its fault
abbrev pub due : BookState → List (List ℕ) → Result (List Observed) BookFault
due state lines = due_parsed state (map block_at lines)

-- a line was taken: what was due with this line in front is due now, no line so far has a fault, and the capacity has not shrunk
pub record IsTaken (old new : BookState) (line : List ℕ) : Type 0 where
  pub keeps : (rest : List (List ℕ)) → due new rest ≡ due old (line ∷ rest)
  pub faultless : new.fault ≡ None
  pub lines : new.lines ≡ old.lines + 1
  pub room : old.room ≤ new.room

-- a fault was returned: it was due with this line, and it stays due whatever follows; the line is counted only if the fault was found in it
pub record IsRefused (old new : BookState) (line : List ℕ) (fault : BookFault) : Type 0 where
  pub was : (rest : List (List ℕ)) → due old (line ∷ rest) ≡ Err fault
  pub stays : (rest : List (List ℕ)) → due new rest ≡ Err fault
  pub lines : new.lines ≡ (if is_none old.fault then old.lines + 1 else old.lines)

-- the result has no fault, and its last observation is from this line
abbrev pub EndsWithSight : Result (List Observed) BookFault → ℕ → Type 0
EndsWithSight answer line = (before : List Observed) × (last : Observed) × (answer ≡ Ok (before ++ last ∷ [])) × (last.line ≡ line)

-- an allocation failed for the observation of this line, for which there was no capacity: the book is unchanged
pub record IsWanting (old new : BookState) (line : List ℕ) (fault : BookFault) : Type 0 where
  pub unchanged : new ≡ old
  pub at_line : fault.line ≡ old.lines + 1
  pub observes : EndsWithSight (due old (line ∷ [])) fault.line
  pub full : old.room ≤ length old.observations

-- the result of a book for a line: the line was taken, or its fault was returned, or an allocation failed for its observation
pub record IsAnswered {A : Type 0} (old new : BookState) (line : List ℕ) (result : Result A BookFault) : Type 0 where
  pub taken : OnOk result (IsTaken old new line)
  pub refused : IfErr result (λ fault. fault.kind ≢ NoMemory → IsRefused old new line fault)
  pub wanting : IfErr result (λ fault. fault.kind ≡ NoMemory → IsWanting old new line fault)

-- a recorded fault is never `NoMemory`
abbrev pub IsLasting : Option BookFault → Type 0
IsLasting None = Unit {0}
IsLasting (Some fault) = fault.kind ≢ NoMemory
