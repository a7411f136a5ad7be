use Rattle.th_run_parts.specs.declared.readers.SumReader.{SumReader}
use Rattle.th_runs.proofs.ClaimLemmas.{books_of}
use Rattle.th_runs.proofs.claims.read_stated.Goals as goal

pub returns-then-summed-clause-books : goal.returns-then-summed-clause-books
returns-then-summed-clause-books g c = books_of _ (λ (own : SumReader). own.sums.items) _ _ _ _ c.read_by.ensures.read
