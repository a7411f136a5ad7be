-- What is known of a book after some of its lines.
use Rattle.std.specs.Prelude.{◌≡◌, ℕ, suc, ◌+◌, ◌++◌, ◌&&◌, not, Bool, List, [], ◌∷◌, Option, None, if◌then◌else◌, is_some, length, option_and_then, option_map}
use Rattle.std.specs.List.{list_any}
use Rattle.std.specs.Option.{option_map_or}
use Rattle.gsi_word.specs.Indexes.{reflector_height, instrument_height}
use Rattle.gsi_word.specs.Words.{Parts}
use Rattle.th_book.specs.Lines.{ParsedLine, point_name}
use Rattle.th_book.specs.Places.{last_below, setup_of, station_at, words_at}
use Rattle.th_book.specs.Faults.{are_one, begins_with_point}
use Rattle.th_book.specs.Books.{known_name}
use Rattle.th_book.specs.Entered.{entered_by}
use Rattle.th_book.specs.declared.entries.Entered.{Entered}
use Rattle.th_book.specs.declared.setups.Setup.{Setup}
use Rattle.th_entries.specs.Below.{all_below, count_below}
use Rattle.th_entries.specs.Counts.{counts_below}
use Rattle.th_entries.specs.Entries.{begins, begins_from, index_of, length_at, repeated_below, unit_in, uses}
use Rattle.th_entries.specs.Listed.{IsListed}
use Rattle.th_entries.specs.Reviews.{is_lookalike, is_measured}
use Rattle.th_entries.specs.Spellings.{Mention, mentions_at}
use Rattle.th_entries.specs.Seen.{AreSeenIn}
use Rattle.th_entries.specs.Watched.{HasWatched}
use Rattle.th_entries.specs.Oddities.{changes_height, is_direction}
use Rattle.th_entries.specs.Inside.Counts.{no_lines}
use Rattle.th_entries.specs.Inside.Oddities.{changes, line_if, points}
use Rattle.th_entries.specs.Inside.Running.{Entering, entering_after}
use Rattle.th_entries.specs.Inside.Seen.{IsSeenNext, mention_by}
use Rattle.th_entries.specs.declared.entries.Entry.{Entry}
use Rattle.th_entries.specs.declared.entries.HeightKind.{HeightKind}
use Rattle.th_entries.specs.declared.entries.HeightKind.TheVariants.{Reflector, Instrument}
use Rattle.th_entries.specs.declared.seen.SeenNames.{SeenNames}
use Rattle.th_entries.specs.declared.tallies.Tally.{Tally}

-- a block looks like a setup, and its point is not the station, if there is one
abbrev pub looks : List Parts → Entered → Option (List ℕ) → Bool
looks words entered station =
    (begins_with_point words && (is_some entered.instrument && (not (is_some entered.target) && (not (is_some entered.station) && not (list_any is_measured words)))))
    && not (are_one station (point_name words))

-- the entries of a tally, and where the latest are
abbrev pub entering : Tally → Entering
entering tally = record { latest = tally.latest; entries = tally.entries.items }

-- a new tally: it holds only the names of earlier books
pub record IsEmpty (names : SeenNames) (number : ℕ) (tally : Tally) : Type 0 where
  pub seen : tally.names ≡ names
  pub book : tally.book ≡ number
  pub counts : tally.counts ≡ no_lines
  pub watch : (parsed : List ParsedLine) → HasWatched parsed 0 tally.watch
  pub entered : entering tally ≡ record { latest = record { reflector = None; instrument = None }; entries = [] }
  pub lookalikes : IsListed [] tally.lookalikes
  pub directions : IsListed [] tally.directions
  pub changes : IsListed [] tally.changes

-- a block without a fault was taken in a running setup, after it was counted
pub record HasBlock (running : Option Setup) (words : List Parts) (old new : Tally) : Type 0 where
  pub seen : IsSeenNext (mention_by old.book old.counts.lines (entered_by words) words) old.names new.names
  pub book : new.book ≡ old.book
  pub counts : new.counts ≡ old.counts
  pub watch : new.watch ≡ old.watch
  pub entered : entering new ≡ entering_after old.book old.counts.lines running words (entered_by words) (entering old)
  pub lookalikes : (before : List ℕ) → IsListed before old.lookalikes
      → IsListed (before ++ line_if (looks words (entered_by words) (option_map (λ own. own.station) running)) old.counts.lines) new.lookalikes
  pub directions : (before : List ℕ) → IsListed before old.directions → IsListed (before ++ line_if (points (entered_by words) words) old.counts.lines) new.directions
  pub changes : (before : List ℕ) → IsListed before old.changes → IsListed (before ++ line_if (changes running (entered_by words)) old.counts.lines) new.changes

-- the place of the last entry of an index that begins before place `n`, in the setup that runs there
abbrev pub open_at : ℕ → List ParsedLine → ℕ → Option ℕ
open_at index parsed n = option_and_then (λ setup. last_below (begins_from parsed index setup) n) (setup_of parsed n)

-- a line begins an entry, and a setup has begun
abbrev pub opens : List ParsedLine → HeightKind → ℕ → Bool
opens parsed kind line = begins (index_of kind) parsed line && is_some (setup_of parsed (suc line))

-- how many lines were seen: for the sights that use an entry, and for the words that repeat it
pub record Bounds : Type 0 where
  pub sights : ℕ
  pub words : ℕ

abbrev pub upto : ℕ → ℕ → Bounds
upto sights words = record { sights = sights; words = words }

-- the entry of a line, with only the sights and words of lines that were seen; `last` is 0 if no sight uses it
abbrev pub candidate : ℕ → List ParsedLine → HeightKind → Bounds → ℕ → Entry
candidate book parsed kind bound line = record {
  book = book;
  line = line + 1;
  kind = kind;
  station = known_name (station_at parsed (suc line));
  length = length_at (index_of kind) parsed line;
  unit = unit_in (index_of kind) (words_at parsed line);
  repeated = repeated_below (index_of kind) parsed bound.words line;
  sights = count_below (uses (index_of kind) parsed line) bound.sights;
  last = option_map_or (λ last. last + 1) (last_below (uses (index_of kind) parsed line) bound.sights) 0;
}

abbrev pub candidate_at : ℕ → List ParsedLine → HeightKind → Bounds → ℕ → List Entry
candidate_at book parsed kind bound line = if opens parsed kind line then candidate book parsed kind bound line ∷ [] else []

-- the entries of a line, each kind with its own bounds
abbrev pub both_at : ℕ → List ParsedLine → Bounds → Bounds → ℕ → List Entry
both_at book parsed reflector instrument line =
    candidate_at book parsed Reflector reflector line ++ candidate_at book parsed Instrument instrument line

-- the entries that come before that of a kind in its line; only their number matters
abbrev pub ahead : List ParsedLine → HeightKind → ℕ → List Entry
ahead parsed Reflector line = []
ahead parsed Instrument line = candidate_at 0 parsed Reflector (upto 0 0) line

abbrev pub place_in : List ParsedLine → HeightKind → ℕ → ℕ
place_in parsed kind line = length (all_below (both_at 0 parsed (upto 0 0) (upto 0 0)) line ++ ahead parsed kind line)

-- the entries are those after the lines before place `n`, and the latest are those of the setup that runs there
pub record IsEntering (book : ℕ) (parsed : List ParsedLine) (n : ℕ) (state : Entering) : Type 0 where
  pub reflector : state.latest.reflector ≡ option_map (place_in parsed Reflector) (open_at reflector_height parsed n)
  pub instrument : state.latest.instrument ≡ option_map (place_in parsed Instrument) (open_at instrument_height parsed n)
  pub entries : state.entries ≡ all_below (both_at book parsed (upto n n) (upto n n)) n

-- the lines before place `n` that look like setups, counted from 1
abbrev pub lookalikes_below : List ParsedLine → ℕ → List ℕ
lookalikes_below parsed n = all_below (λ place. line_if (is_lookalike parsed place) (place + 1)) n

-- the lines before place `n` of directions alone, and of sights that enter another instrument height
abbrev pub directions_below : List ParsedLine → ℕ → List ℕ
directions_below parsed n = all_below (λ place. line_if (is_direction (words_at parsed place)) (place + 1)) n

abbrev pub changes_below : List ParsedLine → ℕ → List ℕ
changes_below parsed n = all_below (λ place. line_if (changes_height parsed place) (place + 1)) n

-- what the lines before place `n` mention was recorded, after anything mentioned before the book
abbrev pub AreSeenBelow : ℕ → List ParsedLine → ℕ → SeenNames → SeenNames → Type 0
AreSeenBelow number parsed n old new =
    (before : List Mention) → AreSeenIn before old → AreSeenIn (before ++ all_below (mentions_at number parsed) n) new

-- the tally holds exactly what the lines before place `n` say, and the names of earlier books
pub record IsTallied (names : SeenNames) (number : ℕ) (parsed : List ParsedLine) (n : ℕ) (tally : Tally) : Type 0 where
  pub seen : AreSeenBelow number parsed n names tally.names
  pub book : tally.book ≡ number
  pub counts : tally.counts ≡ counts_below parsed n
  pub watch : HasWatched parsed n tally.watch
  pub entered : IsEntering number parsed n (entering tally)
  pub lookalikes : IsListed (lookalikes_below parsed n) tally.lookalikes
  pub directions : IsListed (directions_below parsed n) tally.directions
  pub changes : IsListed (changes_below parsed n) tally.changes
