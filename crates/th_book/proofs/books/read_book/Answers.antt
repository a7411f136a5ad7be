use Rattle.std.proofs.Common.{◌≡◌, ◌≤◌, ℕ, List, length, sym, ◌∙◌, arith}
use Rattle.std.specs.Prelude.{nat_lt}
use Rattle.std.proofs.lemmas.Bool.{cond-false, le-ltb}
use Rattle.std.proofs.lemmas.Result.{err_from_is_err_and}
use Rattle.gsi_block.specs.Lines.{lines_of}
use Rattle.th_book.specs.Books.{book_answer, lines_answer}
use Rattle.th_book.specs.Limits.{max_book}
use Rattle.th_book.proofs.Reading.{IsReading-more, end_answer, finished_err, finished_ok, length-lines_of, lines_left, refused_answer, wanting_answer}
use Rattle.th_book.proofs.books.read_book.Goals as goal

-- a book that is not too long gives what its lines give
within : (book : ℕ) (bytes : List ℕ) → length bytes ≤ max_book → book_answer book bytes ≡ lines_answer book (lines_of bytes)
within book bytes short = cond-false (nat_lt max_book (length bytes)) _ _ (le-ltb max_book (length bytes) short)

pub read-requires : goal.read-requires
read-requires c =
    let taken = lines_left c.args.book (lines_of c.args.bytes.now) c.lines.reader (lines_of c.lines.cursor) c.in-Some.line.now (lines_of c.next.new.self) c.lines.invariant c.in-Some.ensures.gives in
    omega (arith, taken, length-lines_of c.args.bytes.now, c.if-size-gt-MAX_BOOK.false)

pub lines-preserved : goal.lines-preserved
lines-preserved c =
    IsReading-more c.args.book (lines_of c.args.bytes.now) c.lines.reader c.read.new.self (lines_of c.lines.cursor) c.in-Some.line.now (lines_of c.next.new.self) c.lines.invariant c.in-Some.ensures.gives c.in_ok-read.ensures.answered.taken

pub returns-in_err-read-clause-fault : goal.returns-in_err-read-clause-fault
returns-in_err-read-clause-fault c =
    let p = err_from_is_err_and c.from_residual.result c.from_residual.ensures.1 in
    let whole = within c.args.book c.args.bytes.now c.if-size-gt-MAX_BOOK.false in
    rw (p.1, p.2) (λ kept. whole ∙ refused_answer c.args.book (lines_of c.args.bytes.now) c.lines.reader c.read.new.self (lines_of c.lines.cursor) c.in-Some.line.now (lines_of c.next.new.self) c.in_err-read.field-0.0 c.lines.invariant c.in-Some.ensures.gives (c.in_err-read.ensures.answered.refused kept))

pub returns-in_err-read-clause-wanting : goal.returns-in_err-read-clause-wanting
returns-in_err-read-clause-wanting c =
    let p = err_from_is_err_and c.from_residual.result c.from_residual.ensures.1 in
    rw (p.1, p.2) (λ wanting. wanting_answer c.args.book (lines_of c.args.bytes.now) c.lines.reader c.read.new.self (lines_of c.lines.cursor) c.in-Some.line.now (lines_of c.next.new.self) c.in_err-read.field-0.0 c.lines.invariant c.in-Some.ensures.gives (c.in_err-read.ensures.answered.wanting wanting))

pub returns-clause-ok : goal.returns-clause-ok
returns-clause-ok c =
    let whole = within c.args.book c.args.bytes.now c.if-size-gt-MAX_BOOK.false in
    finished_ok _ c.finish.result (book_answer c.args.book c.args.bytes.now) (c.finish.ensures.answer ∙ end_answer c.args.book (lines_of c.args.bytes.now) c.lines.reader (lines_of c.lines.cursor) c.lines.invariant c.in_default.ensures.gives.0 ∙ sym whole)

pub returns-clause-fault : goal.returns-clause-fault
returns-clause-fault c =
    let whole = within c.args.book c.args.bytes.now c.if-size-gt-MAX_BOOK.false in
    finished_err _ c.finish.result (book_answer c.args.book c.args.bytes.now) (c.finish.ensures.answer ∙ end_answer c.args.book (lines_of c.args.bytes.now) c.lines.reader (lines_of c.lines.cursor) c.lines.invariant c.in_default.ensures.gives.0 ∙ sym whole)
