use Rattle.std.proofs.Common.{◌+◌, ◌∙◌, Ok, sym, arith}
use Rattle.th_book.specs.Books.{book_answer}
use Rattle.th_book.specs.Limits.{max_book}
use Rattle.th_run_parts.proofs.Fronts.{book_answer-take}
use Rattle.th_run_parts.proofs.Givens.{book_fault, meets_fault, meets_front}
use Rattle.th_inputs.specs.declared.inputs.Input.TheVariants as input
use Rattle.th_run_parts.specs.declared.refusals.Refusal.TheVariants as refusal
use Rattle.th_run_parts.proofs.readers.ObservationReaderBookReader.read.Goals as goal

pub returns-in-Ok-clause-ok : goal.returns-in-Ok-clause-ok
returns-in-Ok-clause-ok g c =
    let fed = c.in_ok-feed_from.ensures.fed in
    let took = fed.1 (c.args.number, fed.0) (c.new-feed.ensures.owes fed.0) in
    meets_front (input.Book c.args.number) (refusal.Book c.args.number) (book_answer c.args.number) (max_book + 1) _ _ _ fed.0 (Ok c.in-Ok.observations.items)
    (omega (arith, c.in_ok-feed_from.ensures.book.read.failed)) (book_answer-take c.args.number) fed.2 (sym took ∙ c.in-Ok.ensures.ok)

pub returns-in-Err-clause-refused : goal.returns-in-Err-clause-refused
returns-in-Err-clause-refused g c =
    let fed = c.in_ok-feed_from.ensures.fed in
    let took = fed.1 (c.args.number, fed.0) (c.new-feed.ensures.owes fed.0) in
    meets_fault (input.Book c.args.number) (refusal.Book c.args.number) (book_answer c.args.number) (max_book + 1) _ _ _ fed.0 c.in-Err.fault c.refusal_of.result
    (omega (arith, c.in_ok-feed_from.ensures.book.read.failed)) (book_answer-take c.args.number) fed.2
    (book_fault (refusal.Book c.args.number) _ _ _ c.refusal_of.ensures.memory c.refusal_of.ensures.book (λ other. sym took ∙ c.in-Err.ensures.fault other))
