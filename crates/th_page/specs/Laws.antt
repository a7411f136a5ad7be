-- Laws of the page. Its texts from outside are its title, the names of inputs and points, the sentences of the explanations, and notes.
use Rattle.std.specs.Prelude.{◌≡◌, ℕ, ℤ, Bool, true, false, List, Option, map, count_by, length, nat_lt, not, option_map}
use Rattle.std.specs.List.{flat_map, list_all}
use Rattle.th_answer.specs.declared.answers.Group.{Group}
use Rattle.th_answer.specs.declared.answers.Group.TheVariants.{Question, Stays, Cleared, Unlike, Fits}
use Rattle.th_html.specs.Texts.{escaped}
use Rattle.th_observations.specs.Observed.{Observed}
use Rattle.th_inputs.specs.Inputs.{NamedInput}
use Rattle.th_explain_texts.specs.declared.rows.Row.{Row}
use Rattle.th_reliability.specs.declared.blames.Blame.{Blame}
use Rattle.th_review_rows.specs.declared.rows.PointRow.{PointRow}
use Rattle.th_review_rows.specs.declared.rows.ObservationRow.{ObservationRow}
use Rattle.th_review_rows.specs.declared.rows.EntryRow.{EntryRow}
use Rattle.th_review_rows.specs.declared.rows.BenchmarkRow.{BenchmarkRow}
use Rattle.th_page.specs.Contents.{ShownRows, joined_of}
use Rattle.th_page.specs.Counts.{counts_of, is_first, is_marked, tone_of}
use Rattle.th_page.specs.Pages.{page_text}
use Rattle.th_page.specs.declared.verdicts.Tone.TheVariants.{Good}
use Rattle.th_picture.specs.declared.drawn.DrawnSight.{DrawnSight}

-- what is given in the place of each text from outside
abbrev pub Names : Type 0
Names = List ℕ → List ℕ

-- the same, and what is given for what rows have and a page does not show: what is blamed for a mistake, and the strengths of benchmarks
pub record Given : Type 0 where
  pub text : Names
  pub blame : Option Blame → Option Blame
  pub strength : Option ℕ → Option ℕ

-- a piece of a page: a text that is there whatever the texts from outside are, or one of these
pub data Piece : Type 0 where
  fixed : List ℕ → Piece
  outside : List ℕ → Piece

-- the bytes of a piece: what is given for a text from outside is escaped
abbrev pub filled : Names → Piece → List ℕ
filled given (fixed text) = text
filled given (outside text) = escaped (given text)

-- rows with what is given
abbrev pub point_named : Given → PointRow → PointRow
point_named given row = record row { name = given.text row.name }

abbrev pub observed_named : Given → Observed → Observed
observed_named given o = record o { station = given.text o.station; target = given.text o.target }

abbrev pub sight_named : Given → ObservationRow → ObservationRow
sight_named given row = record row { observation = observed_named given row.observation; blame = given.blame row.blame }

abbrev pub entry_named : Given → EntryRow → EntryRow
entry_named given row = record row { entry = record row.entry { station = given.text row.entry.station }; blame = given.blame row.blame }

abbrev pub benchmark_named : Given → BenchmarkRow → BenchmarkRow
benchmark_named given row = record row { name = given.text row.name; strength = given.strength row.strength; blame = given.blame row.blame }

abbrev pub explanation_named : Given → Row → Row
explanation_named given row = record row { from = option_map given.text row.from; to = option_map given.text row.to }

abbrev pub input_named : Given → NamedInput → NamedInput
input_named given input = (given.text input.0, input.1)

-- what a page shows, with what is given
abbrev pub shown_named : Given → ShownRows → ShownRows
shown_named given shown = record {
  title = given.text shown.title;
  inputs = map (input_named given) shown.inputs;
  points = map (point_named given) shown.points;
  sights = map (sight_named given) shown.sights;
  entries = map (entry_named given) shown.entries;
  benchmarks = map (benchmark_named given) shown.benchmarks;
  explanations = map (explanation_named given) shown.explanations;
  says = map given.text shown.says;
  notes = map given.text shown.notes;
  cost = shown.cost;
  limit = shown.limit;
  answer = shown.answer;
}

-- A page is a list of pieces. Whatever texts of the same lengths are given for those from outside, its text has these, escaped, and otherwise the same bytes;
-- and whatever is given for what is blamed and for the strengths of benchmarks.
abbrev pub PagesAreOfPieces : Type 0
PagesAreOfPieces = (shown : ShownRows) → (pieces : List Piece)
    × ((given : Given) → ((text : List ℕ) → length (given.text text) ≡ length text) → page_text (shown_named given shown) ≡ flat_map (filled given.text) pieces)

-- a sight that is drawn in red, or because of one that is: it is in question, or marked
abbrev pub is_accused : Group → Bool
is_accused Question = true
is_accused Stays = true
is_accused Cleared = true
is_accused Unlike = false
is_accused Fits = false

-- a sight is accused for a reason: it is in question only if a row explains most, and else is marked
abbrev pub has_reason : ℤ → ℕ → DrawnSight → Group → Bool
has_reason limit firsts sight Question = nat_lt 0 firsts
has_reason limit firsts sight Stays = is_marked limit sight
has_reason limit firsts sight Cleared = is_marked limit sight
has_reason limit firsts sight Unlike = true
has_reason limit firsts sight Fits = true

abbrev pub are_reasoned : ShownRows → Bool
are_reasoned shown = list_all (λ sight. has_reason shown.limit (count_by is_first shown.explanations) sight sight.group) (joined_of shown).sights

-- whether no sight is accused, and no height is struck out
abbrev pub HasNoRed : ShownRows → Type 0
HasNoRed shown = (list_all (λ sight. not (is_accused sight.group)) (joined_of shown).sights ≡ true) × ((counts_of shown (joined_of shown)).moved ≡ 0)

-- Red means something: where sights are accused for a reason, a page with a good verdict accuses none and strikes out no height.
abbrev pub GoodPagesHaveNoRed : Type 0
GoodPagesHaveNoRed = (shown : ShownRows) → are_reasoned shown ≡ true → tone_of (counts_of shown (joined_of shown)) ≡ Good → HasNoRed shown
