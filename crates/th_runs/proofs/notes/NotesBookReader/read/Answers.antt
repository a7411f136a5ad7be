use Rattle.std.proofs.Common.{◌≡◌, ◌+◌, ◌++◌, ◌∙◌, Ok, ap, sym, arith}
use Rattle.std.specs.Prelude.{option_to_list}
use Rattle.th_book.specs.Books.{book_answer, parsed_of}
use Rattle.th_book.specs.Limits.{max_book}
use Rattle.th_run_parts.proofs.Fronts.{book_answer-take}
use Rattle.th_run_parts.proofs.Givens.{book_fault, meets_fault, meets_front}
use Rattle.th_run_parts.proofs.ReaderLemmas.{front_told}
use Rattle.th_inputs.specs.declared.inputs.Input.TheVariants as input
use Rattle.th_run_parts.specs.declared.refusals.Refusal.TheVariants as refusal
use Rattle.th_runs.proofs.notes.NotesBookReader.read.Goals as goal

pub returns-in_ok-add-in-Ok-clause-ok : goal.returns-in_ok-add-in-Ok-clause-ok
returns-in_ok-add-in-Ok-clause-ok g c =
    let fed = c.in_ok-feed_from.ensures.fed in
    let took = fed.1 (tt, c.args.number, fed.0) (record { due = c.new.ensures.owes fed.0; seen = λ faultless. record { place = 0; read = c.new.ensures.begins fed.0; seen = c.new-2.ensures (parsed_of fed.0) } }) in
    meets_front (input.Book c.args.number) (refusal.Book c.args.number) (book_answer c.args.number) (max_book + 1) _ _ _ fed.0 (Ok c.in-Ok.observations.items)
    (omega (arith, c.in_ok-feed_from.ensures.book.read.failed)) (book_answer-take c.args.number) fed.2 (sym took.due ∙ c.in-Ok.ensures.finished.ok)

pub returns-in_ok-add-in-Ok-clause-read : goal.returns-in_ok-add-in-Ok-clause-read
returns-in_ok-add-in-Ok-clause-read g c =
    let fed = c.in_ok-feed_from.ensures.fed in
    let took = fed.1 (tt, c.args.number, fed.0) (record { due = c.new.ensures.owes fed.0; seen = λ faultless. record { place = 0; read = c.new.ensures.begins fed.0; seen = c.new-2.ensures (parsed_of fed.0) } }) in
    let answered : book_answer c.args.number fed.0 ≡ Ok c.in-Ok.observations.items = sym took.due ∙ c.in-Ok.ensures.finished.ok in
    record {
      text = fed.0;
      is_told = front_told c.args.number ((g.S.Source.state c.args.book.now).left) fed.0 c.in-Ok.observations.items answered fed.2;
      noted = c.in_ok-add-in-Ok.ensures.books ∙ ap (λ note. c.args.self.now.books.items ++ option_to_list note) (c.note.ensures (parsed_of fed.0) (c.in-Ok.ensures.seen tt c.args.number fed.0 took));
      remarks = c.in_ok-add-in-Ok.ensures.remarks;
    }

pub returns-in-Err-clause-refused : goal.returns-in-Err-clause-refused
returns-in-Err-clause-refused g c =
    let fed = c.in_ok-feed_from.ensures.fed in
    let took = fed.1 (tt, c.args.number, fed.0) (record { due = c.new.ensures.owes fed.0; seen = λ faultless. record { place = 0; read = c.new.ensures.begins fed.0; seen = c.new-2.ensures (parsed_of fed.0) } }) in
    meets_fault (input.Book c.args.number) (refusal.Book c.args.number) (book_answer c.args.number) (max_book + 1) _ _ _ fed.0 c.in-Err.fault c.refusal_of.result
    (omega (arith, c.in_ok-feed_from.ensures.book.read.failed)) (book_answer-take c.args.number) fed.2
    (book_fault (refusal.Book c.args.number) _ _ _ c.refusal_of.ensures.memory c.refusal_of.ensures.book (λ other. sym took.due ∙ c.in-Err.ensures.finished.fault other))
