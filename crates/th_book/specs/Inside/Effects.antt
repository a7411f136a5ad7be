-- The effect of a block on its book.
use Rattle.std.specs.Prelude.{◌≡◌, ◌≤◌, ℕ, ℤ, ◌+◌, ◌++◌, ◌&&◌, Bool, false, true, List, Option, Some, None, Ok, if◌then◌else◌, is_some, length, option_and_then, option_map, option_to_list}
use Rattle.gsi_word.specs.Words.{Parts}
use Rattle.gsi_word.specs.declared.words.Width.{Width}
use Rattle.gsi_word.specs.declared.words.Word.{Word}
use Rattle.gsi_block.specs.Blocks.{block_at, block_with}
use Rattle.th_observations.specs.Observed.{Observed}
use Rattle.th_book.specs.Lines.{ParsedLine, words_in}
use Rattle.th_book.specs.Faults.{Standing, block_faults, fault_in, first_applying, kind_of, sight_faults}
use Rattle.th_book.specs.Books.{difference, known, known_name}
use Rattle.th_book.specs.Due.{BookState, observation_in, setup_after, standing_in}
use Rattle.th_book.specs.Inside.Entries.{setup_by}
use Rattle.th_book.specs.declared.entries.Entered.{Entered}
use Rattle.th_book.specs.declared.setups.Setup.{Setup}
use Rattle.th_book.specs.declared.setups.Sight.{Sight}
use Rattle.th_book.specs.declared.faults.BookFault.{BookFault}
use Rattle.th_book.specs.declared.faults.BookKind.{BookKind}
use Rattle.th_book.specs.declared.faults.BookKind.TheVariants.{NoMemory}

-- what a sight has in a setup that already includes the sight's own heights
abbrev pub standing_of : Option Setup → Standing
standing_of None = record { setup = false; instrument = false; reflector = false; station = None }
standing_of (Some setup) = record {
  setup = true;
  instrument = is_some setup.instrument;
  reflector = is_some setup.reflector;
  station = Some setup.station;
}

-- the observation of a target in a setup that already includes the sight's own heights
abbrev pub observed_from : Option Setup → List ℕ → ℤ → ℕ → ℕ → Observed
observed_from setup target sighted book line = record {
  station = known_name (option_map (λ own. own.station) setup);
  target = target;
  difference = difference (Some sighted) (option_and_then (λ own. own.instrument) setup) (option_and_then (λ own. own.reflector) setup);
  book = book;
  line = line;
}

-- a sight as the observation of a line in a book
abbrev pub stamped : ℕ → ℕ → Sight → Observed
stamped book line sight = record {
  station = sight.station;
  target = sight.target;
  difference = sight.difference;
  book = book;
  line = line;
}

-- the first kind of fault of a sight to a target
abbrev pub sight_fault : Option Setup → List ℕ → Option BookKind
sight_fault setup target = first_applying (sight_faults (standing_of setup) (Some target))

-- `sight` gives the observation of this target, whatever the book and the line
pub record IsSeen (running : Option Setup) (target : List ℕ) (sighted : ℤ) (sight : Sight) : Type 0 where
  pub seen : (book line : ℕ) → stamped book line sight ≡ observed_from running target sighted book line

-- an entry has a target and a height difference
abbrev pub is_seen : Entered → Bool
is_seen entry = is_some entry.target && is_some entry.sighted

-- the first kind of fault of an entry's sight, in a setup that already includes the entry's heights; none if it has no sight
abbrev pub entry_fault : Option Setup → Entered → Option BookKind
entry_fault setup entry = if is_seen entry then sight_fault setup (known_name entry.target) else None

-- the observation of an entry in a book and a line, in a setup that already includes the entry's heights; none if it has no sight
abbrev pub observation_by : Option Setup → Entered → ℕ → ℕ → Option Observed
observation_by setup entry book line =
    if is_seen entry then Some (observed_from setup (known_name entry.target) (known entry.sighted) book line) else None

-- the first kind of fault of a block in a running setup
abbrev pub block_fault : Option Setup → List Parts → Option BookKind
block_fault running words = first_applying (block_faults (standing_in running words) words)

-- the first kind of fault of a line in a running setup
abbrev pub line_fault : Option Setup → ParsedLine → Option BookKind
line_fault running parsed = kind_of (standing_in running (words_in parsed)) parsed

-- the entry of words without a fault: it leads to the running setup after them, and to their observation if they are a sight
pub record IsLeft (running : Option Setup) (words : List Parts) (entry : Entered) : Type 0 where
  pub setup : setup_by entry running ≡ setup_after running words
  pub observation : (book line : ℕ) → observation_by (setup_by entry running) entry book line ≡ observation_in book line running words

-- a line is a block of these words
abbrev pub IsBlockLine : List Word → List ℕ → Type 0
IsBlockLine words line = (width : Width) × (block_at line ≡ Ok (Some (block_with words width)))

-- the state of a book with one more observation, if there is one, with a given capacity
abbrev pub state_observing : BookState → Option Observed → ℕ → BookState
state_observing state observed room = record state { observations = state.observations ++ option_to_list observed; room = room }

-- the state of a book after a line without a fault, with a given capacity
abbrev pub state_with : BookState → Entered → ℕ → BookState
state_with state entry room =
    let setup = setup_by entry state.setup in
    record (state_observing state (observation_by setup entry state.book (state.lines + 1)) room) { lines = state.lines + 1; setup = setup }

-- the state of a book after a line with a fault
abbrev pub state_refusing : BookState → BookKind → BookState
state_refusing state kind = record state { lines = state.lines + 1; fault = Some (fault_in state.lines kind) }

-- an entry's sight, if it has one, has no fault in a setup that already includes the entry's heights, and its observation was added
pub record IsObserved (setup : Option Setup) (old new : BookState) (entry : Entered) : Type 0 where
  pub fine : entry_fault setup entry ≡ None
  pub state : new ≡ state_observing old (observation_by setup entry old.book (old.lines + 1)) new.room
  pub room : old.room ≤ new.room

-- an entry whose sight has no fault was taken
pub record IsTakenIn (old new : BookState) (entry : Entered) : Type 0 where
  pub fine : entry_fault (setup_by entry old.setup) entry ≡ None
  pub state : new ≡ state_with old entry new.room
  pub room : old.room ≤ new.room

-- an entry's sight has a fault in such a setup, which the book keeps
pub record IsKept (setup : Option Setup) (old new : BookState) (entry : Entered) (fault : BookFault) : Type 0 where
  pub found : entry_fault setup entry ≡ Some fault.kind
  pub state : new ≡ state_refusing old fault.kind
  pub given : fault ≡ fault_in old.lines fault.kind

-- an entry's sight has none, but memory is wanting for its observation, and the book is unchanged
pub record IsWantingFor (setup : Option Setup) (old new : BookState) (entry : Entered) (fault : BookFault) : Type 0 where
  pub fine : entry_fault setup entry ≡ None
  pub state : new ≡ old
  pub given : fault ≡ fault_in old.lines NoMemory
  pub seen : is_seen entry ≡ true
  pub full : old.room ≤ length old.observations
