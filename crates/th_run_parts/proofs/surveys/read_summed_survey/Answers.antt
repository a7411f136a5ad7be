use Rattle.std.proofs.Common.{◌≡◌, Err, rules}
use Rattle.th_inputs.specs.declared.inputs.Input.TheVariants as input
use Rattle.th_run_parts.proofs.SourceLemmas.{behind_of_tables, books_before, elsewhere_tables, none_read, not_read}
use Rattle.th_run_parts.proofs.surveys.read_summed_survey.Goals as goal

pub returns-in_err-read_books-clause-sources : goal.returns-in_err-read_books-clause-sources
returns-in_err-read_books-clause-sources g c =
    let own = c.in_err-read_books.field-0.0 in
    let is : c.from_residual.result ≡ Err own = search rules in
    let elsewhere = elsewhere_tables _ _ own c.in_err-read_books.ensures.named in
    rw is (record {
      books = c.in_err-read_books.ensures.books;
      benchmarks = not_read _ input.Benchmarks _ _ elsewhere.0;
      weights = none_read _ input.Weights _ _ elsewhere.1;
    })

pub returns-in_err-tables-clause-sources : goal.returns-in_err-tables-clause-sources
returns-in_err-tables-clause-sources g c =
    let own = c.in_err-tables.field-0.0 in
    let is : c.from_residual-in_err-tables.result ≡ Err own = search rules in
    rw is (record {
      books = books_before _ _ _ _ _ (λ number. behind_of_tables _ number own c.in_err-tables.ensures.named) c.in_ok-read_books.ensures.books;
      benchmarks = c.in_err-tables.ensures.benchmarks;
      weights = c.in_err-tables.ensures.weights;
    })
