-- The row of a book that is read from mark to mark.
use Rattle.std.proofs.Common.{◌≡◌, ◌∙◌, ℕ, ℤ, true, false, List, ap, subst, sym, arith}
use Rattle.std.specs.List.{count_by}
use Rattle.th_blunders.specs.Blunders.{is_blunder}
use Rattle.th_blunders.specs.Residuals.{residuals}
use Rattle.th_entries.specs.declared.entries.Entry.{Entry}
use Rattle.th_changes.specs.Freed.{cost_of}
use Rattle.th_circulation.specs.Extremes.{AreLowest}
use Rattle.th_blunders.specs.Blunders.{blunders_at}
use Rattle.th_explain_texts.specs.declared.rows.Row.{Row}
use Rattle.th_network.specs.Networks.{Survey, at_points_of}
use Rattle.th_numbers.specs.Readings.{IsBookRow, is_cheaper, reread, row_of_book}
use Rattle.th_numbers.specs.declared.books.SightedBook.{SightedBook}

-- lowest best heights of a survey cost the same
same_cost : (survey : Survey) (first second : List ℕ → ℤ) → AreLowest survey first → AreLowest survey second → cost_of survey first ≡ cost_of survey second
same_cost survey first second one other =
    let less = one.best.least second other.best.kept in
    let more = other.best.least first one.best.kept in
    omega arith

pub no_book_row : (survey : Survey) (entries : List Entry) (cost number : ℕ) (own : Survey) → own ≡ reread entries number survey → (low : List ℤ) → AreLowest own (at_points_of own low) → (left : ℕ) → left ≡ cost_of own (at_points_of own low) → is_cheaper cost left ≡ false
    → {P : Type 0} → P → (heights : List ℕ → ℤ) → AreLowest (reread entries number survey) heights → ¬ (is_cheaper cost (cost_of (reread entries number survey) heights) ≡ true)
no_book_row survey entries cost number own same low lowest left is fails {P} readable heights others holds =
    let there = subst (λ (s : Survey). AreLowest s heights) (sym same) others in
    let equal : left ≡ cost_of (reread entries number survey) heights = is ∙ same_cost own (at_points_of own low) heights lowest there ∙ ap (λ (s : Survey). cost_of s heights) same in
    clash (sym fails ∙ ap (is_cheaper cost) equal ∙ holds)
  where
    clash : false ≡ true → ⊥
    clash e = cc

pub book_row_of : (survey : Survey) (entries : List Entry) (cost : ℕ) (limit : ℤ) (book : SightedBook) (own : Survey) → own ≡ reread entries book.number survey → (low : List ℤ) → AreLowest own (at_points_of own low) → (left : ℕ) → left ≡ cost_of own (at_points_of own low)
    → (leaves : List ℤ) → leaves ≡ residuals own.observations (at_points_of own low) → (count : ℕ) → count ≡ count_by (is_blunder limit) leaves → is_cheaper cost left ≡ true → (row : Row) → row ≡ row_of_book cost book left count → IsBookRow survey entries cost limit book row
book_row_of survey entries cost limit book own same low lowest left is leaves are count counted holds row printed =
    let heights = at_points_of own low in
    let equal : left ≡ cost_of (reread entries book.number survey) heights = is ∙ ap (λ (s : Survey). cost_of s heights) same in
    let marks : count ≡ blunders_at limit (reread entries book.number survey) heights = counted ∙ ap (count_by (is_blunder limit)) are ∙ ap (λ (s : Survey). blunders_at limit s heights) same in
    record {
      heights = heights;
      lowest = subst (λ (s : Survey). AreLowest s heights) same lowest;
      cheaper = ap (is_cheaper cost) (sym equal) ∙ holds;
      printed = printed ∙ ap (λ (n : ℕ). row_of_book cost book n count) equal ∙ ap (row_of_book cost book (cost_of (reread entries book.number survey) heights)) marks;
    }
