-- The law of a book with heights.
use Rattle.std.proofs.Common.{◌≡◌, ◌↔◌, [], ℕ, Bool, true, false, List, Option, Some, None, Ok, Err, if◌then◌else◌, length, map, refl, sym, subst, ◌∙◌}
use Rattle.std.specs.List.{flat_map}
use Rattle.std.specs.Prelude.{Result, nat_lt}
use Rattle.gsi_block.specs.Blocks.{BlockParts, IsBlock, block_at}
use Rattle.gsi_block.specs.Lines.{AreLines, lines_of}
use Rattle.gsi_block.specs.Writing.{block_line}
use Rattle.gsi_block.proofs.WrittenBlocks.{WordHasOneSpelling}
use Rattle.th_book.specs.Books.{book_answer, lines_answer, observations_of, parsed_of, too_long}
use Rattle.th_book.specs.Due.{due, empty}
use Rattle.th_book.specs.Limits.{max_book}
use Rattle.th_observations.specs.Observed.{Observed}
use Rattle.th_book.specs.declared.faults.BookFault.{BookFault}
use Rattle.th_conversions.specs.Printed.{book_of_heights, checked, checked_lines, ended, printed_from}
use Rattle.th_conversions.specs.HeightFaults.{of_book}
use Rattle.th_conversions.specs.declared.height_faults.HeightFault.{HeightFault}
use Rattle.th_conversions.specs.Seen.{AreSeenAs, nowhere, sights_from}
use Rattle.th_conversions.proofs.HeightLaws.{seen_from}
use Rattle.th_conversions.proofs.TextLemmas.{lines_whole, text_answer}
use Rattle.th_conversions.proofs.WholeLemmas.{printed_whole}

pub printed_is_seen : (one : WordHasOneSpelling) → ((line : List ℕ) (block : BlockParts) → IsBlock line block → block_at (block_line block) ≡ Ok (Some block))
    → ((line : List ℕ) (block : BlockParts) → (block_at line ≡ Ok (Some block)) ↔ IsBlock line block)
    → ((text : List ℕ) (lines : List (List ℕ)) → (lines ≡ lines_of text) ↔ AreLines lines text)
    → ((book : ℕ) (lines : List (List ℕ)) → due (empty book) lines ≡ lines_answer book lines)
    → (bytes text : List ℕ) (number : ℕ) → book_of_heights bytes ≡ Ok text → AreSeenAs (book_answer number text) (sights_from nowhere (parsed_of bytes))
printed_is_seen one reads blocks lines owes bytes text number is = by_short (nat_lt max_book (length bytes)) is
  where
    by_fault : (fault : Option HeightFault) → (printed_from None 0 (lines_of bytes)).1 ≡ fault → (answer : Result (List Observed) BookFault)
        → book_answer 1 (flat_map ended (printed_from None 0 (lines_of bytes)).0) ≡ answer → checked answer (flat_map ended (printed_from None 0 (lines_of bytes)).0) fault ≡ Ok text
        → AreSeenAs (book_answer number text) (sights_from nowhere (parsed_of bytes))
    by_fault fault e (Err first) seen is = absurd (cc is)
    by_fault (Some fault) e (Ok observations) seen is = absurd (cc is)
    by_fault None e (Ok observations) seen is =
        let same : flat_map ended (printed_from None 0 (lines_of bytes)).0 ≡ text = cc in
        let whole = printed_whole blocks one (lines_of bytes) None 0 (lines_whole (lines_of bytes) bytes ((lines bytes (lines_of bytes)).0 refl)) in
        let answered = text_answer lines number (printed_from None 0 (lines_of bytes)).0 observations whole seen in
        subst (λ (own : List ℕ). AreSeenAs (book_answer number own) (sights_from nowhere (parsed_of bytes))) same
        (subst (λ (answer : Result (List Observed) BookFault). AreSeenAs answer (sights_from nowhere (parsed_of bytes))) (sym answered.of_text)
        (seen_from reads blocks one (lines_of bytes) number 0 0 0 None None [] (observations_of number (map block_at (printed_from None 0 (lines_of bytes)).0)) nowhere tt e
        (owes number (printed_from None 0 (lines_of bytes)).0 ∙ answered.of_lines)))

    by_short : (long : Bool) → (if long then Err (of_book too_long) else checked_lines (printed_from None 0 (lines_of bytes))) ≡ Ok text
        → AreSeenAs (book_answer number text) (sights_from nowhere (parsed_of bytes))
    by_short true is = absurd (cc is)
    by_short false is =
        by_fault (printed_from None 0 (lines_of bytes)).1 refl (book_answer 1 (flat_map ended (printed_from None 0 (lines_of bytes)).0)) refl is
