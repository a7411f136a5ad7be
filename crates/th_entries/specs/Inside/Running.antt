-- How the entries of a book are found line by line.
use Rattle.std.specs.Prelude.{ℕ, ℤ, ◌+◌, ◌-◌, ◌^◌, ◌++◌, min, Bool, false, List, Option, Some, None, if◌then◌else◌, is_some, length, option_to_list, slice_get, slice_set}
use Rattle.std.specs.Ordering.{int_eq}
use Rattle.gsi_word.specs.Indexes.{reflector_height, instrument_height}
use Rattle.gsi_word.specs.Words.{Parts}
use Rattle.th_units.specs.declared.units.Unit.{Unit}
use Rattle.th_book.specs.declared.entries.Entered.{Entered}
use Rattle.th_book.specs.declared.setups.Setup.{Setup}
use Rattle.th_entries.specs.Entries.{unit_in}
use Rattle.th_entries.specs.declared.entries.Entry.{Entry}
use Rattle.th_entries.specs.declared.entries.HeightKind.{HeightKind}
use Rattle.th_entries.specs.declared.entries.HeightKind.TheVariants.{Reflector, Instrument}
use Rattle.th_entries.specs.declared.running.Latest.{Latest}

-- where the latest entries are after what a line enters: a new setup has none yet
abbrev pub begun_by : Entered → Latest → Latest
begun_by entered latest = if is_some entered.station then record { reflector = None; instrument = None } else latest

-- the setup of a line, before its heights: the one that it begins at a station, or else the running one
abbrev pub setup_on : Option Setup → Option (List ℕ) → Option Setup
setup_on running None = running
setup_on running (Some station) = Some (record { station = station; instrument = None; reflector = None })

-- the last height of a kind in a setup
abbrev pub height_of : HeightKind → Setup → Option ℤ
height_of Reflector setup = setup.reflector
height_of Instrument setup = setup.instrument

-- a length is that of the last height, if there is one
abbrev pub is_same : Option ℤ → ℤ → Bool
is_same None length = false
is_same (Some last) length = int_eq last length

abbrev pub is_repeated : HeightKind → ℤ → Setup → Bool
is_repeated kind length setup = is_same (height_of kind setup) length

-- the entry that a length in a unit begins in a setup, which no sight uses yet; none without a setup or a length, or if the length
-- repeats the last one
abbrev pub entry_in : Option Setup → ℕ → ℕ → HeightKind → Unit → Option ℤ → Option Entry
entry_in None book line kind unit length = None
entry_in (Some setup) book line kind unit None = None
entry_in (Some setup) book line kind unit (Some length) = if is_repeated kind length setup then None else Some (record {
  book = book;
  line = line;
  kind = kind;
  station = setup.station;
  length = length;
  unit = unit;
  repeated = line;
  sights = 0;
  last = 0;
})

-- the place of an entry appended to these, or the previous place if there is no entry
abbrev pub place_of : Option Entry → List Entry → Option ℕ → Option ℕ
place_of entry entries before = if is_some entry then Some (length entries) else before

-- an entry that one more sight uses, on this line; the count stops at 2^32 - 1
abbrev pub with_sight : ℕ → Entry → Entry
with_sight line entry = record entry { sights = min (entry.sights + 1) (2 ^ 32 - 1); last = line }

-- an entry whose height this line writes
abbrev pub with_word : ℕ → Entry → Entry
with_word line entry = record entry { repeated = line }

-- the entries with a change of the one at a place, if it is there
abbrev pub amended_there : (Entry → Entry) → Option Entry → ℕ → List Entry → List Entry
amended_there change None place entries = entries
amended_there change (Some entry) place entries = slice_set entries place (change entry)

abbrev pub amended : (Entry → Entry) → Option ℕ → List Entry → List Entry
amended change None entries = entries
amended change (Some place) entries = amended_there change (slice_get entries place) place entries

-- the entries after one more sight on a line has used the one at a place
abbrev pub served : Option ℕ → ℕ → List Entry → List Entry
served place line entries = amended (with_sight line) place entries

-- the entries after a line has written the one at a place, if it writes a length
abbrev pub written : Option ℤ → Option ℕ → ℕ → List Entry → List Entry
written None place line entries = entries
written (Some length) place line entries = amended (with_word line) place entries

-- where the latest entries are, and the entries so far
pub record Entering : Type 0 where
  pub latest : Latest
  pub entries : List Entry

-- the state after the reflector height that a line enters in a setup, if it enters one
abbrev pub with_reflector : ℕ → ℕ → Option Setup → Unit → Option ℤ → Entering → Entering
with_reflector book line setup unit length state =
    let entry = entry_in setup book line Reflector unit length in
    record {
      latest = record state.latest { reflector = place_of entry state.entries state.latest.reflector };
      entries = state.entries ++ option_to_list entry;
    }

-- the state after the instrument height that a line enters in a setup, if it enters one
abbrev pub with_instrument : ℕ → ℕ → Option Setup → Unit → Option ℤ → Entering → Entering
with_instrument book line setup unit length state =
    let entry = entry_in setup book line Instrument unit length in
    record {
      latest = record state.latest { instrument = place_of entry state.entries state.latest.instrument };
      entries = state.entries ++ option_to_list entry;
    }

-- the state after both heights, in the setup that the line begins or else in the running one
abbrev pub with_heights : ℕ → ℕ → Option Setup → List Parts → Entered → Entering → Entering
with_heights book line running words entered state =
    let setup = setup_on running entered.station in
    with_instrument book line setup (unit_in instrument_height words) entered.instrument
    (with_reflector book line setup (unit_in reflector_height words) entered.reflector (record state { latest = begun_by entered state.latest }))

-- the state after the words of both heights, which begin the latest entries or repeat them
abbrev pub with_words : ℕ → Entered → Entering → Entering
with_words line entered state = record state {
  entries = written entered.instrument state.latest.instrument line (written entered.reflector state.latest.reflector line state.entries);
}

-- the state after a sight, which uses the latest reflector and instrument heights
abbrev pub sighted : ℕ → Entering → Entering
sighted line state = record state { entries = served state.latest.instrument line (served state.latest.reflector line state.entries) }

-- the state after everything that a line enters
abbrev pub entering_after : ℕ → ℕ → Option Setup → List Parts → Entered → Entering → Entering
entering_after book line running words entered state =
    let after = with_words line entered (with_heights book line running words entered state) in
    if is_some entered.target then sighted line after else after
