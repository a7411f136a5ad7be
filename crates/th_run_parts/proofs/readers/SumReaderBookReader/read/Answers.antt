use Rattle.std.proofs.Common.{◌≡◌, ◌<◌, ◌+◌, ◌^◌, ◌++◌, ◌∷◌, ◌∙◌, [], Ok, ap, append-nil, length, refl, sym, arith}
use Rattle.th_book.specs.Books.{book_answer}
use Rattle.th_book.specs.Limits.{max_book}
use Rattle.th_inputs.specs.Sums.{sum_of}
use Rattle.th_run_parts.proofs.Fronts.{book_answer-take}
use Rattle.th_run_parts.proofs.Givens.{book_fault, meets_fault, meets_front}
use Rattle.th_run_parts.proofs.ReaderLemmas.{book_within, front_told}
use Rattle.th_inputs.specs.declared.inputs.Input.TheVariants as input
use Rattle.th_run_parts.specs.declared.refusals.Refusal.TheVariants as refusal
use Rattle.th_run_parts.proofs.readers.SumReaderBookReader.read.Goals as goal

pub returns-in_ok-add-in-Ok-clause-ok : goal.returns-in_ok-add-in-Ok-clause-ok
returns-in_ok-add-in-Ok-clause-ok g c =
    let fed = c.in_ok-feed_from.ensures.fed in
    let took = fed.1 ((c.args.number, fed.0), fed.0) (c.new.ensures.owes fed.0, [], refl, c.new-2.ensures) in
    meets_front (input.Book c.args.number) (refusal.Book c.args.number) (book_answer c.args.number) (max_book + 1) _ _ _ fed.0 (Ok c.in-Ok.observations.items)
    (omega (arith, c.in_ok-feed_from.ensures.book.read.failed)) (book_answer-take c.args.number) fed.2 (sym took.0 ∙ c.in-Ok.ensures.ok)

pub returns-in_ok-add-in-Ok-clause-read : goal.returns-in_ok-add-in-Ok-clause-read
returns-in_ok-add-in-Ok-clause-read g c =
    let fed = c.in_ok-feed_from.ensures.fed in
    let took = fed.1 ((c.args.number, fed.0), fed.0) (c.new.ensures.owes fed.0, [], refl, c.new-2.ensures) in
    let answered : book_answer c.args.number fed.0 ≡ Ok c.in-Ok.observations.items = sym took.0 ∙ c.in-Ok.ensures.ok in
    let whole : took.1 ≡ fed.0 = sym (append-nil took.1) ∙ took.2 in
    let few : length took.1 < 2 ^ 64 = omega (arith, book_within c.args.number fed.0 c.in-Ok.observations.items answered, ap length whole) in
    record {
      text = fed.0;
      is_told = front_told c.args.number ((g.S.Source.state c.args.book.now).left) fed.0 c.in-Ok.observations.items answered fed.2;
      joined = c.in_ok-add-in-Ok.ensures ∙ ap (λ own. c.args.self.now.sums.items ++ own ∷ []) (c.finish-in-Ok.ensures took.1 took.3 few ∙ ap (sum_of (input.Book c.args.number)) whole);
    }

pub returns-in-Err-clause-refused : goal.returns-in-Err-clause-refused
returns-in-Err-clause-refused g c =
    let fed = c.in_ok-feed_from.ensures.fed in
    let took = fed.1 ((c.args.number, fed.0), fed.0) (c.new.ensures.owes fed.0, [], refl, c.new-2.ensures) in
    meets_fault (input.Book c.args.number) (refusal.Book c.args.number) (book_answer c.args.number) (max_book + 1) _ _ _ fed.0 c.in-Err.fault c.refusal_of.result
    (omega (arith, c.in_ok-feed_from.ensures.book.read.failed)) (book_answer-take c.args.number) fed.2
    (book_fault (refusal.Book c.args.number) _ _ _ c.refusal_of.ensures.memory c.refusal_of.ensures.book (λ other. sym took.0 ∙ c.in-Err.ensures.fault other))
