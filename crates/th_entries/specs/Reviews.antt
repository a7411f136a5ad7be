use Rattle.std.specs.Prelude.{◌≡◌, ℕ, ◌+◌, ◌==◌, ◌&&◌, ◌||◌, not, Bool, List, [], ◌∷◌, if◌then◌else◌, length}
use Rattle.std.specs.List.{list_any}
use Rattle.gsi_word.specs.Indexes.{horizontal_angle, horizontal_distance, instrument_height, slope_distance, vertical_angle}
use Rattle.gsi_word.specs.Words.{Parts}
use Rattle.th_book.specs.Lines.{ParsedLine, holds, is_setup, is_sight, point_name}
use Rattle.th_book.specs.Places.{station_at, words_at}
use Rattle.th_book.specs.Faults.{are_one, begins_with_point}
pub use Rattle.th_book.specs.Books.{IsFaultless, parsed_of}
use Rattle.th_entries.specs.Below.{all_below}
use Rattle.th_entries.specs.Counts.{counts_of}
use Rattle.th_entries.specs.Entries.{entries_of}
use Rattle.th_entries.specs.Listed.{IsListed}
use Rattle.th_entries.specs.Oddities.{changes_of, directions_of}
use Rattle.th_entries.specs.Sights.{no_sight_in}
use Rattle.th_entries.specs.declared.reviews.BookReview.{BookReview}

-- a word that a measurement writes: a horizontal or vertical angle, or a slope or horizontal distance
abbrev pub is_measured : Parts → Bool
is_measured word =
    word.index == horizontal_angle || (word.index == vertical_angle || (word.index == slope_distance || word.index == horizontal_distance))

-- a block looks like a setup if it begins with a point and holds an instrument height, but is neither a sight nor a setup, and measures nothing
abbrev pub resembles_setup : List Parts → Bool
resembles_setup words =
    begins_with_point words && (holds instrument_height words && (not (is_sight words) && (not (is_setup words) && not (list_any is_measured words))))

-- the line at a place looks like a setup, and its point is not the current station, if there is one
abbrev pub is_lookalike : List ParsedLine → ℕ → Bool
is_lookalike parsed place =
    resembles_setup (words_at parsed place) && not (are_one (station_at parsed place) (point_name (words_at parsed place)))

-- the lines, counted from 1, that look like a setup but are none
abbrev pub lookalikes_of : List ParsedLine → List ℕ
lookalikes_of parsed = all_below (λ place. if is_lookalike parsed place then (place + 1) ∷ [] else []) (length parsed)

-- `review` is the review of a book with these parsed lines
pub record Reviews (book : ℕ) (parsed : List ParsedLine) (review : BookReview) : Type 0 where
  pub counts : review.counts ≡ counts_of parsed
  pub no_sight : review.no_sight ≡ no_sight_in book parsed
  pub entries : review.entries.items ≡ entries_of book parsed
  pub lookalikes : IsListed (lookalikes_of parsed) review.lookalikes
  pub directions : IsListed (directions_of parsed) review.directions
  pub changes : IsListed (changes_of parsed) review.changes
