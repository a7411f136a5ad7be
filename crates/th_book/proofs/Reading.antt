-- A book that is read to its end gives what its lines give.
use Rattle.std.proofs.Common.{◌≡◌, ◌≢◌, ℕ, suc, ◌+◌, ◌<◌, ◌≤◌, Bool, true, false, cond, List, [], ◌∷◌, ◌++◌, length, take, drop, get_or, Result, Ok, Err, sym, ap, ◌∙◌, subst, arith, append_assoc, length-drop}
use Rattle.std.specs.Prelude.{slice_index, ◌&&◌}
use Rattle.std.specs.Result.{IfErr, IfOk}
use Rattle.gsi_word.specs.Words.{result_map}
use Rattle.th_book.specs.declared.faults.BookKind.TheVariants.{NoMemory}
use Rattle.std.proofs.lemmas.List.{append-nil, drop_more, take-append-drop, take_more}
use Rattle.gsi_block.specs.Lines.{is_carriage_return, is_end_byte, is_line_feed, lines_of, onto_first}
use Rattle.th_observations.specs.Observed.{Observed}
use Rattle.th_book.specs.Books.{lines_answer}
use Rattle.th_book.specs.Due.{EndsWithSight, BookState, IsRefused, IsTaken, IsWanting, due}
use Rattle.th_book.specs.declared.faults.BookFault.{BookFault}

-- a text has no more lines than bytes
pub length-lines_of : (bytes : List ℕ) → length (lines_of bytes) ≤ length bytes
unfolding lines_of
length-lines_of [] = omega arith
length-lines_of (byte ∷ bytes) = go (is_carriage_return byte && is_line_feed (slice_index bytes 0)) (is_end_byte byte) (length-lines_of bytes)
  where
    joined : (lines : List (List ℕ)) → length lines ≤ length bytes → length (onto_first byte lines) ≤ suc (length bytes)
    joined [] h = omega arith
    joined (line ∷ lines) h = omega (arith, h)

    go : (pair end : Bool) → length (lines_of bytes) ≤ length bytes → length (cond pair (lines_of bytes) (cond end ([] ∷ lines_of bytes) (onto_first byte (lines_of bytes)))) ≤ suc (length bytes)
    go true end h = omega (arith, h)
    go false true h = omega (arith, h)
    go false false h = joined (lines_of bytes) h

-- a book is being read: so many lines were taken, what is due from it is what they give with those that follow, and the others are left
pub record IsReading (number : ℕ) (lines : List (List ℕ)) (reader : BookState) (left : List (List ℕ)) : Type 0 where
  pub keeps : (rest : List (List ℕ)) → due reader rest ≡ lines_answer number (take reader.lines lines ++ rest)
  pub remaining : left ≡ drop reader.lines lines

-- while a line is left, not all were taken
pub lines_left : (number : ℕ) (lines : List (List ℕ)) (reader : BookState) (left : List (List ℕ)) (line : List ℕ) (later : List (List ℕ)) → IsReading number lines reader left → left ≡ line ∷ later → reader.lines < length lines
lines_left number lines reader left line later reading next =
    omega (arith, ap length (sym next ∙ reading.remaining), length-drop reader.lines lines)

-- the line that is next is the one after those that were taken
next_line : (number : ℕ) (lines : List (List ℕ)) (reader : BookState) (left : List (List ℕ)) (line : List ℕ) (later : List (List ℕ)) → IsReading number lines reader left → left ≡ line ∷ later → line ∷ later ≡ get_or lines reader.lines [] ∷ drop (reader.lines + 1) lines
next_line number lines reader left line later reading next =
    sym next ∙ reading.remaining ∙ drop_more lines reader.lines [] (lines_left number lines reader left line later reading next)

-- the lines that were taken, and the next one
taken_more : (number : ℕ) (lines : List (List ℕ)) (reader : BookState) (left : List (List ℕ)) (line : List ℕ) (later : List (List ℕ)) → IsReading number lines reader left → left ≡ line ∷ later → take (reader.lines + 1) lines ≡ take reader.lines lines ++ line ∷ []
taken_more number lines reader left line later reading next =
    let same : line ≡ get_or lines reader.lines [] = let e = next_line number lines reader left line later reading next in cc in
    take_more lines reader.lines [] (lines_left number lines reader left line later reading next)
    ∙ ap (λ (last : List ℕ). take reader.lines lines ++ last ∷ []) (sym same)

-- what is due with the next line and others
due_next : (number : ℕ) (lines : List (List ℕ)) (reader : BookState) (left : List (List ℕ)) (line : List ℕ) (later rest : List (List ℕ)) → IsReading number lines reader left → left ≡ line ∷ later → due reader (line ∷ rest) ≡ lines_answer number (take (reader.lines + 1) lines ++ rest)
due_next number lines reader left line later rest reading next =
    reading.keeps (line ∷ rest)
    ∙ ap (lines_answer number) (sym (append_assoc (take reader.lines lines) (line ∷ []) rest))
    ∙ ap (λ (front : List (List ℕ)). lines_answer number (front ++ rest)) (sym (taken_more number lines reader left line later reading next))

-- one more line is taken
pub IsReading-more : (number : ℕ) (lines : List (List ℕ)) (reader new : BookState) (left : List (List ℕ)) (line : List ℕ) (later : List (List ℕ)) → IsReading number lines reader left → left ≡ line ∷ later → IsTaken reader new line → IsReading number lines new later
IsReading-more number lines reader new left line later reading next taken = record {
  keeps = λ rest. taken.keeps rest ∙ due_next number lines reader left line later rest reading next ∙ ap (λ many. lines_answer number (take many lines ++ rest)) (sym taken.lines);
  remaining = (let e = next_line number lines reader left line later reading next in let rest : later ≡ drop (reader.lines + 1) lines = cc in rest) ∙ ap (λ many. drop many lines) (sym taken.lines);
}

-- a fault of the next line is the answer
pub refused_answer : (number : ℕ) (lines : List (List ℕ)) (reader new : BookState) (left : List (List ℕ)) (line : List ℕ) (later : List (List ℕ)) (fault : BookFault) → IsReading number lines reader left → left ≡ line ∷ later → IsRefused reader new line fault → lines_answer number lines ≡ Err fault
refused_answer number lines reader new left line later fault reading next refused =
    ap (lines_answer number) (sym (take-append-drop reader.lines lines) ∙ ap (λ (rest : List (List ℕ)). take reader.lines lines ++ rest) (sym reading.remaining ∙ next))
    ∙ sym (reading.keeps (line ∷ later))
    ∙ refused.was later

-- want of memory at the next line
pub wanting_answer : (number : ℕ) (lines : List (List ℕ)) (reader new : BookState) (left : List (List ℕ)) (line : List ℕ) (later : List (List ℕ)) (fault : BookFault) → IsReading number lines reader left → left ≡ line ∷ later → IsWanting reader new line fault → EndsWithSight (lines_answer number (take fault.line lines)) fault.line
wanting_answer number lines reader new left line later fault reading next wanting =
    subst
    (λ (given : Result (List Observed) BookFault). EndsWithSight given fault.line)
    (due_next number lines reader left line later [] reading next
    ∙ ap (lines_answer number) (append-nil (take (reader.lines + 1) lines))
    ∙ ap (λ many. lines_answer number (take many lines)) (sym wanting.at_line))
    wanting.observes

-- where no line is left, what is due is the answer
pub end_answer : (number : ℕ) (lines : List (List ℕ)) (reader : BookState) (left : List (List ℕ)) → IsReading number lines reader left → left ≡ [] → due reader [] ≡ lines_answer number lines
end_answer number lines reader left reading none =
    reading.keeps []
    ∙ ap (λ (rest : List (List ℕ)). lines_answer number (take reader.lines lines ++ rest)) (sym none ∙ reading.remaining)
    ∙ ap (lines_answer number) (take-append-drop reader.lines lines)

-- what a finished book gives is the answer
pub finished_ok : {A : Type 0} (items : A → List Observed) (given : Result A BookFault) (answer : Result (List Observed) BookFault) → result_map items given ≡ answer → IfOk given (λ observations. answer ≡ Ok (items observations))
finished_ok items (Ok observations) answer e = sym e
finished_ok items (Err fault) answer e = tt

pub finished_err : {A : Type 0} (items : A → List Observed) (given : Result A BookFault) (answer : Result (List Observed) BookFault) → result_map items given ≡ answer → IfErr given (λ fault. fault.kind ≢ NoMemory → answer ≡ Err fault)
finished_err items (Ok observations) answer e = tt
finished_err items (Err fault) answer e = λ kept. sym e
