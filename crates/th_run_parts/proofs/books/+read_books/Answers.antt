use Rattle.std.proofs.Common.{◌≡◌, ◌≤◌, Err, rules, arith}
use Rattle.std.proofs.lemmas.Result.{IfErr-weaker}
use Rattle.th_devices.specs.Limits.{calls_before}
use Rattle.th_run_parts.proofs.ReaderLemmas.{on_ok, read_next}
use Rattle.th_run_parts.proofs.SourceLemmas.{all_later, behind_of_books, each_first, each_next, elsewhere_book, if_refused, not_read, read_before}
use Rattle.th_inputs.specs.declared.inputs.Input.TheVariants as input
use Rattle.th_run_parts.proofs.books.+read_books.Goals as goal

pub returns-in_err-read_book-clause-books : goal.returns-in_err-read_book-clause-books
returns-in_err-read_book-clause-books g t c =
    let is : c.from_residual.result ≡ Err c.in_err-read_book.field-0.0 = search rules in
    rw is (each_first _ _ _ _ _ _ c.in-Some.ensures.cases.0 c.in_err-read_book.ensures.book
    (λ own book above. not_read _ (input.Book own) _ book (elsewhere_book c.args.number own _ c.in_err-read_book.ensures.named above)))

pub read_books-requires : goal.read_books-requires
read_books-requires g t c κs within =
    (search rules, (within.0, (within.1, (all_later (λ book. (g.S.Source.state book).counts.calls ≤ calls_before) _ _ _ c.in-Some.ensures.cases.0 c.requires.ready, search rules))))

pub returns-clause-read : goal.returns-clause-read
returns-clause-read g t c =
    let one = c.in_ok-read_book.ensures.read in
    on_ok c.read_books.result (λ rest. read_next _ _ _ _ _ _ _ _ _ one.0 _ _ _ c.in-Some.ensures.cases.0 one.1 one.2 rest) c.read_books.ensures.read

pub returns-clause-books : goal.returns-clause-books
returns-clause-books g t c =
    each_next _ _ _ _ _ _ _ c.in-Some.ensures.cases.0
    (read_before _ (input.Book c.args.number) _ _ _ (if_refused _ c.read_books.result
    (IfErr-weaker c.read_books.result _ _ (λ own is. behind_of_books _ _ c.args.number own is (omega arith)) c.read_books.ensures.named)) c.in_ok-read_book.ensures.book)
    c.read_books.ensures.books
