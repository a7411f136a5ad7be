use Rattle.std.proofs.Common.{◌+◌, Ok, refl, arith}
use Rattle.th_conversions.specs.Books.{book_of_table}
use Rattle.th_conversions.specs.Limits.{max_differences}
use Rattle.th_run_parts.proofs.Givens.{meets_fault, meets_front}
use Rattle.th_inputs.specs.declared.inputs.Input.TheVariants as input
use Rattle.th_run_parts.specs.declared.refusals.Refusal.TheVariants as refusal
use Rattle.th_run_parts.proofs.BookingLemmas.{book_of_table-take, difference_fault}
use Rattle.th_run_parts.proofs.sources.book_of_differences.Goals as goal

pub returns-in-Ok-clause-book : goal.returns-in-Ok-clause-book
returns-in-Ok-clause-book g c =
    meets_front input.Differences refusal.Differences book_of_table (max_differences + 1) _ _ _ c.as_slice.result.now (Ok c.in-Ok.book.items)
    (omega (arith, c.in_ok-text.ensures.source.read.failed)) book_of_table-take (rw c.as_slice.ensures.value c.in_ok-text.ensures.front)
    c.in-Ok.ensures.book

pub returns-clause-refused : goal.returns-clause-refused
returns-clause-refused g c =
    meets_fault input.Differences refusal.Differences book_of_table (max_differences + 1) _ _ _ c.as_slice.result.now c.in-Err.fault (refusal.Differences c.in-Err.fault)
    (omega (arith, c.in_ok-text.ensures.source.read.failed)) book_of_table-take (rw c.as_slice.ensures.value c.in_ok-text.ensures.front)
    (difference_fault refusal.Differences _ _ _ (λ e. absurd (c.in_default.not-NoMemory e)) (λ real. refl) c.in-Err.ensures.fault)
