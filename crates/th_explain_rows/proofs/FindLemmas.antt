-- What explanations consist of.
use Rattle.std.proofs.Common.{◌≡◌, ◌++◌, ℕ, ℤ, Option, List, ap, length, subst, ◌∙◌}
use Rattle.std.specs.Prelude.{option_to_list}
use Rattle.std.specs.List.{AllZip, enumerate_from, flat_map}
use Rattle.th_entries.specs.declared.entries.Entry.{Entry}
use Rattle.th_entries.specs.declared.reviews.BookReview.{BookReview}
use Rattle.th_changes.specs.Freed.{cost_of}
use Rattle.th_circulation.specs.Extremes.{AreLowest}
use Rattle.th_explain_texts.specs.Ranks.{ranked}
use Rattle.th_explain_texts.specs.declared.rows.Row.{Row}
use Rattle.th_network.specs.Networks.{Survey}
use Rattle.th_review_rows.specs.Entries.{entries_of}
use Rattle.th_explain_rows.specs.Explanations.{AreExplained, IsEnough, summary_of}
use Rattle.th_explain_rows.specs.Inside.Passing.{AreOwnRows}
use Rattle.th_numbers.specs.Lists.{Listed, books_of, in_order, listed_of}
use Rattle.th_meant.specs.Named.{AreNamedIn}
use Rattle.th_names.specs.Names.{AreReadings}
use Rattle.th_numbers.specs.Readings.{IsBookRowOrNone}
use Rattle.th_explain_rows.specs.Rows.{IsBestBeyond, IsRowOrBehind, sifting}
use Rattle.th_numbers.specs.Ties.{AreTiedRows}
use Rattle.th_numbers.specs.declared.books.SightedBook.{SightedBook}
use Rattle.th_numbers.specs.declared.candidates.Candidate.{Candidate}
use Rattle.th_explain_rows.specs.declared.findings.Explanations.{Explanations}
use Rattle.th_explain_rows.specs.declared.rows.Cutoff.{Cutoff}
use Rattle.th_explain_rows.specs.declared.rows.Filter.{Filter}
use Rattle.th_numbers.specs.declared.ties.TiedRow.{TiedRow}

pub explained_of : (survey : Survey) (reviews : List BookReview) (limit : ℤ) (own : Explanations) (heights : List ℕ → ℤ) (tied : List TiedRow) (entries : List Entry) (listed : Listed) (cost : ℕ) (candidates : List Candidate) (books : List SightedBook) (rows : List Row) (read : List (Option Row))
    → AreLowest survey heights → AreTiedRows survey tied → entries ≡ entries_of reviews → listed ≡ listed_of survey entries tied → cost ≡ cost_of survey heights → candidates ≡ in_order listed → books ≡ books_of reviews
    → AreOwnRows survey cost limit candidates rows → AllZip (IsBookRowOrNone survey entries cost limit) books read
    → own.summary ≡ summary_of survey heights listed (length books) limit → own.rows.items ≡ ranked (rows ++ flat_map option_to_list read) → AreNamedIn entries limit own.rows.items own.named.items
    → AreReadings survey entries limit own.rows.items own.readings.items → AreExplained survey reviews limit own
explained_of survey reviews limit own heights tied entries listed cost candidates books rows read low are of_reviews of_entries is_cost all sighted are_rows book_rows summary printed named readings =
    let same : listed ≡ listed_of survey (entries_of reviews) tied = of_entries ∙ ap (λ (own : List Entry). listed_of survey own tied) of_reviews in
    record {
      heights = heights;
      lowest = low;
      tied = tied;
      are_tied = are;
      printed = record {
        best = are_rows.best;
        is_best = subst (λ (candidates : List Candidate). IsBestBeyond survey limit candidates are_rows.best) (all ∙ ap in_order same) are_rows.is_best;
        cutoff = are_rows.cutoff;
        own = are_rows.own;
        read = read;
        found = record {
          numbers = subst (λ (candidates : List Candidate). AllZip (IsRowOrBehind survey (cost_of survey heights) (sifting limit are_rows.best) are_rows.cutoff) (enumerate_from 0 candidates) are_rows.own) (all ∙ ap in_order same)
              (subst (λ (cost : ℕ). AllZip (IsRowOrBehind survey cost (sifting limit are_rows.best) are_rows.cutoff) (enumerate_from 0 candidates) are_rows.own) is_cost are_rows.numbers);
          books = subst (λ (own : List SightedBook). AllZip (IsBookRowOrNone survey (entries_of reviews) (cost_of survey heights) limit) own read) sighted
              (subst (λ (own : List Entry). AllZip (IsBookRowOrNone survey own (cost_of survey heights) limit) books read) of_reviews
              (subst (λ (own : ℕ). AllZip (IsBookRowOrNone survey entries own limit) books read) is_cost book_rows));
        };
        enough = subst (IsEnough are_rows.cutoff) (ap length are_rows.all) are_rows.enough;
        leading = printed ∙ ap (λ (rows : List Row). ranked (rows ++ flat_map option_to_list read)) are_rows.all;
      };
      summary = summary ∙ ap (λ (own : Listed). summary_of survey heights own (length books) limit) same
          ∙ ap (λ (own : List SightedBook). summary_of survey heights (listed_of survey (entries_of reviews) tied) (length own) limit) sighted;
      named = subst (λ (entries : List Entry). AreNamedIn entries limit own.rows.items own.named.items) of_reviews named;
      readings = subst (λ (entries : List Entry). AreReadings survey entries limit own.rows.items own.readings.items) of_reviews readings;
    }

-- the rows of numbers that pass the filter of a limit
pub own_rows : (survey : Survey) (cost : ℕ) (limit : ℤ) (candidates : List Candidate) (rows : List Row) (filter : Filter) (cutoff : Option Cutoff) (own : List (Option Row))
    → filter.limit ≡ limit → IsBestBeyond survey limit candidates filter.best → AllZip (IsRowOrBehind survey cost filter cutoff) (enumerate_from 0 candidates) own → rows ≡ flat_map option_to_list own → IsEnough cutoff (length rows)
    → AreOwnRows survey cost limit candidates rows
own_rows survey cost limit candidates rows filter cutoff own same best numbers all enough = record {
  best = filter.best;
  is_best = best;
  cutoff = cutoff;
  own = own;
  numbers = subst (λ (limit : ℤ). AllZip (IsRowOrBehind survey cost (sifting limit filter.best) cutoff) (enumerate_from 0 candidates) own) same numbers;
  enough = enough;
  all = all;
}
