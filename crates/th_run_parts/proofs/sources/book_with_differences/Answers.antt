use Rattle.std.proofs.Common.{◌+◌, Ok, refl, rules, arith}
use Rattle.th_book.specs.Limits.{max_book}
use Rattle.th_conversions.specs.Printed.{book_of_heights}
use Rattle.th_run_parts.proofs.Givens.{meets_fault, meets_front}
use Rattle.th_inputs.specs.declared.inputs.Input.TheVariants as input
use Rattle.th_run_parts.specs.declared.refusals.Refusal.TheVariants as refusal
use Rattle.th_run_parts.proofs.BookingLemmas.{book_of_heights-take, height_fault}
use Rattle.th_run_parts.proofs.sources.book_with_differences.Goals as goal
use Rattle.th_run_parts.proofs.sources.book_with_differences.Goals.{in_default-via-in-Book+in_default, in_default-via-in_default}

pub returns-in-Ok-clause-book : goal.returns-in-Ok-clause-book
returns-in-Ok-clause-book g c =
    meets_front (input.Book 1) refusal.Heights book_of_heights (max_book + 1) _ _ _ c.as_slice.result.now (Ok c.in-Ok.book.items)
    (omega (arith, c.in_ok-text.ensures.source.read.failed)) book_of_heights-take (rw c.as_slice.ensures.value c.in_ok-text.ensures.front)
    c.in-Ok.ensures.book

pub returns-clause-refused : goal.returns-clause-refused
returns-clause-refused g c =
    meets_fault (input.Book 1) refusal.Heights book_of_heights (max_book + 1) _ _ _ c.as_slice.result.now c.in-Err.fault (refusal.Heights c.in-Err.fault)
    (omega (arith, c.in_ok-text.ensures.source.read.failed)) book_of_heights-take (rw c.as_slice.ensures.value c.in_ok-text.ensures.front)
    (height_fault refusal.Heights _ _ _ (λ e. elim c.in_default.branch [
      | in_default-via-in-Book+in_default w ↦ search rules
      | in_default-via-in_default w ↦ search rules
    ]) (λ real. refl) c.in-Err.ensures.fault)
