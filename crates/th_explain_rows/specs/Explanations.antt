-- What explains what does not fit.
use Rattle.std.specs.Prelude.{◌≡◌, ◌≤◌, ℕ, ℤ, ◌++◌, List, Option, None, Some, length, option_to_list}
use Rattle.std.specs.List.{AllZip, enumerate_from, flat_map}
use Rattle.th_entries.specs.declared.entries.Entry.{Entry}
use Rattle.th_entries.specs.declared.reviews.BookReview.{BookReview}
use Rattle.th_changes.specs.Freed.{cost_of}
use Rattle.th_circulation.specs.Extremes.{AreLowest}
use Rattle.th_blunders.specs.Blunders.{blunders_at}
use Rattle.th_explain_texts.specs.Ranks.{ranked}
use Rattle.th_explain_texts.specs.Sentences.{most_rows}
use Rattle.th_explain_texts.specs.declared.rows.Row.{Row}
use Rattle.th_explain_texts.specs.declared.rows.Summary.{Summary}
use Rattle.th_network.specs.Networks.{Survey}
use Rattle.th_review_rows.specs.Entries.{entries_of}
use Rattle.th_numbers.specs.Lists.{Listed, books_of, in_order, listed_of}
use Rattle.th_meant.specs.Named.{AreNamedIn}
use Rattle.th_names.specs.Names.{AreReadings}
use Rattle.th_numbers.specs.Readings.{IsBookRowOrNone}
use Rattle.th_explain_rows.specs.Rows.{IsBestBeyond, IsRowOrBehind, sifting}
use Rattle.th_numbers.specs.Ties.{AreTiedRows}
use Rattle.th_numbers.specs.declared.ties.TiedRow.{TiedRow}
use Rattle.th_explain_rows.specs.declared.findings.Explanations.{Explanations}
use Rattle.th_explain_rows.specs.declared.rows.Cutoff.{Cutoff}
use Rattle.th_explain_rows.specs.declared.rows.Filter.{Filter}

-- what was looked at, given the least cost, how many are marked, the numbers by kind, and how many books there are
abbrev pub summary_with : ℕ → ℕ → Listed → ℕ → ℤ → Summary
summary_with cost marked listed books limit = record {
  cost = cost;
  limit = limit;
  marked = marked;
  sights = length listed.sights;
  entries = length listed.entered;
  changes = length listed.changes;
  benchmarks = length listed.benchmarks;
  books = books;
}

-- what was looked at in a survey, at these heights
abbrev pub summary_of : Survey → (List ℕ → ℤ) → Listed → ℕ → ℤ → Summary
summary_of survey heights listed books limit = summary_with (cost_of survey heights) (blunders_at limit survey heights) listed books limit

-- the rows that there are, those of books behind the others
abbrev pub all_rows : List (Option Row) → List (Option Row) → List Row
all_rows own read = flat_map option_to_list own ++ flat_map option_to_list read

-- For each number of a survey its row, if it passes and is not behind the cutoff; and for each book its row, if it is much cheaper to read it from mark to mark.
pub record AreFound (survey : Survey) (entries : List Entry) (reviews : List BookReview) (cost : ℕ) (filter : Filter) (listed : Listed) (cutoff : Option Cutoff) (own read : List (Option Row)) : Type 0 where
  pub numbers : AllZip (IsRowOrBehind survey cost filter cutoff) (enumerate_from 0 (in_order listed)) own
  pub books : AllZip (IsBookRowOrNone survey entries cost filter.limit) (books_of reviews) read

-- if there is a cutoff, at least as many numbers have rows as may be printed
abbrev pub IsEnough : Option Cutoff → ℕ → Type 0
IsEnough None count = Unit {0}
IsEnough (Some cutoff) count = most_rows ≤ count

-- The rows that are printed: of all numbers and books those that leave least. Numbers that pass may be missing only behind a cutoff, and only if as many
-- numbers as may be printed are ahead of it.
pub record ArePrinted (survey : Survey) (entries : List Entry) (reviews : List BookReview) (cost : ℕ) (limit : ℤ) (listed : Listed) (rows : List Row) : Type 0 where
  pub best : Option ℕ
  pub is_best : IsBestBeyond survey limit (in_order listed) best
  pub cutoff : Option Cutoff
  pub own : List (Option Row)
  pub read : List (Option Row)
  pub found : AreFound survey entries reviews cost (sifting limit best) listed cutoff own read
  pub enough : IsEnough cutoff (length (flat_map option_to_list own))
  pub leading : rows ≡ ranked (all_rows own read)

-- What was looked at in a survey whose books have these reviews, the rows of the numbers that explain most, the heights that may have been
-- meant, and the readings that fit. All numbers were looked at; of the rows of those that pass, those that leave least are printed.
pub record AreExplained (survey : Survey) (reviews : List BookReview) (limit : ℤ) (explained : Explanations) : Type 0 where
  pub heights : List ℕ → ℤ
  pub lowest : AreLowest survey heights
  pub tied : List TiedRow
  pub are_tied : AreTiedRows survey tied
  pub summary : explained.summary ≡ summary_of survey heights (listed_of survey (entries_of reviews) tied) (length (books_of reviews)) limit
  pub printed : ArePrinted survey (entries_of reviews) reviews (cost_of survey heights) limit (listed_of survey (entries_of reviews) tied) explained.rows.items
  pub named : AreNamedIn (entries_of reviews) limit explained.rows.items explained.named.items
  pub readings : AreReadings survey (entries_of reviews) limit explained.rows.items explained.readings.items
