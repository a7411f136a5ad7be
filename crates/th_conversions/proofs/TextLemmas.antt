-- The text of printed lines is read as these lines.
use Rattle.std.proofs.Common.{◌≡◌, ◌↔◌, ◌∷◌, [], ℕ, Bool, true, false, IsTrue, List, Option, Some, None, Ok, Err, if◌then◌else◌, inl, length, map, refl, sym, ap, ◌∙◌}
use Rattle.std.specs.List.{AllByRecursion, flat_map, list_all}
use Rattle.std.specs.Prelude.{nat_lt}
use Rattle.gsi_block.specs.Blocks.{block_at}
use Rattle.gsi_block.specs.Lines.{AreLines, is_in_line, lines_of}
use Rattle.th_book.specs.Books.{answer, book_answer, lines_answer, observations_of, too_long}
use Rattle.th_book.specs.Faults.{first_fault}
use Rattle.th_book.specs.Limits.{max_book}
use Rattle.th_observations.specs.Observed.{Observed}
use Rattle.th_book.specs.declared.faults.BookFault.{BookFault}
use Rattle.th_conversions.specs.Printed.{ended}

-- no line has an end in it
abbrev pub AreWhole : List (List ℕ) → Type 0
AreWhole = AllByRecursion (λ line. IsTrue (list_all is_in_line line))

ended_lines : (lines : List (List ℕ)) → AreWhole lines → AreLines lines (flat_map ended lines)
ended_lines [] whole = refl
ended_lines (line ∷ lines) whole =
    (whole.0, (13 ∷ 10 ∷ [], flat_map ended lines, refl, ended_lines lines whole.1, inl (inl refl)))

-- the lines of a text are whole
pub lines_whole : (lines : List (List ℕ)) (text : List ℕ) → AreLines lines text → AreWhole lines
lines_whole [] text are = tt
lines_whole (line ∷ lines) text are = (are.0, lines_whole lines are.1.1 are.1.3)

-- an answer with observations is that of the lines
short_answer : (number : ℕ) (text : List ℕ) (observations : List Observed) → book_answer number text ≡ Ok observations
    → (nat_lt max_book (length text) ≡ false) × (lines_answer number (lines_of text) ≡ Ok observations)
short_answer number text observations is = by (nat_lt max_book (length text)) refl
  where
    by : (long : Bool) → nat_lt max_book (length text) ≡ long → (nat_lt max_book (length text) ≡ false) × (lines_answer number (lines_of text) ≡ Ok observations)
    by true e =
        let bad : Err too_long ≡ Ok observations = sym (ap (λ long. if long then Err too_long else lines_answer number (lines_of text)) e) ∙ is in
        absurd (cc bad)
    by false e = (e, sym (ap (λ long. if long then Err too_long else lines_answer number (lines_of text)) e) ∙ is)

-- lines without a fault give their observations, whatever the number of the book is
any_number : (number : ℕ) (lines : List (List ℕ)) (observations : List Observed) → lines_answer 1 lines ≡ Ok observations
    → lines_answer number lines ≡ Ok (observations_of number (map block_at lines))
any_number number lines observations seen = by (first_fault (map block_at lines)) seen
  where
    by : (fault : Option BookFault) → answer fault (observations_of 1 (map block_at lines)) ≡ Ok observations
        → answer fault (observations_of number (map block_at lines)) ≡ Ok (observations_of number (map block_at lines))
    by None is = refl
    by (Some fault) is = absurd (cc is)

-- what a book of printed lines gives, if it has no fault as book 1
pub record IsAnswer (number : ℕ) (lines : List (List ℕ)) : Type 0 where
  pub of_text : book_answer number (flat_map ended lines) ≡ Ok (observations_of number (map block_at lines))
  pub of_lines : lines_answer number lines ≡ Ok (observations_of number (map block_at lines))

pub text_answer : ((text : List ℕ) (lines : List (List ℕ)) → (lines ≡ lines_of text) ↔ AreLines lines text)
    → (number : ℕ) (lines : List (List ℕ)) (observations : List Observed) → AreWhole lines → book_answer 1 (flat_map ended lines) ≡ Ok observations → IsAnswer number lines
text_answer read number lines observations whole is =
    let same : lines ≡ lines_of (flat_map ended lines) = (read (flat_map ended lines) lines).1 (ended_lines lines whole) in
    let short = short_answer 1 (flat_map ended lines) observations is in
    let given : lines_answer number lines ≡ Ok (observations_of number (map block_at lines)) =
    any_number number lines observations (ap (lines_answer 1) same ∙ short.1) in
    record {
      of_text = ap (λ long. if long then Err too_long else lines_answer number (lines_of (flat_map ended lines))) short.0 ∙ ap (lines_answer number) (sym same) ∙ given;
      of_lines = given;
    }
