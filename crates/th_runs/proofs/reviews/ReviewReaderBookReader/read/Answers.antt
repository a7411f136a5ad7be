use Rattle.std.proofs.Common.{◌≡◌, ◌<◌, ◌+◌, ◌^◌, ◌++◌, ◌∷◌, ◌∙◌, [], Ok, ap, append-nil, length, refl, sym, subst, arith}
use Rattle.th_book.specs.Books.{book_answer}
use Rattle.th_book.specs.Limits.{max_book}
use Rattle.th_entries.specs.Reviews.{parsed_of}
use Rattle.th_entries.specs.Seen.{AddsBook}
use Rattle.th_entries.specs.declared.seen.SeenNames.{SeenNames}
use Rattle.th_inputs.specs.Sums.{sum_of}
use Rattle.th_run_parts.proofs.Fronts.{book_answer-take}
use Rattle.th_run_parts.proofs.Givens.{book_fault, meets_fault, meets_front}
use Rattle.th_run_parts.proofs.ReaderLemmas.{book_within, front_told}
use Rattle.th_inputs.specs.declared.inputs.Input.TheVariants as input
use Rattle.th_run_parts.specs.declared.refusals.Refusal.TheVariants as refusal
use Rattle.th_runs.proofs.reviews.ReviewReaderBookReader.read.Goals as goal

pub returns-in_ok-add-in-Ok-clause-ok : goal.returns-in_ok-add-in-Ok-clause-ok
returns-in_ok-add-in-Ok-clause-ok g c =
    let fed = c.in_ok-feed_from.ensures.fed in
    let took = fed.1 ((c.replace-names.result, c.args.number, fed.0), fed.0) (record { due = c.new-2.ensures.owes fed.0; seen = λ faultless. record { place = 0; read = c.new-2.ensures.begins fed.0; seen = c.new-3.ensures (parsed_of fed.0) } }, [], refl, c.new-4.ensures) in
    meets_front (input.Book c.args.number) (refusal.Book c.args.number) (book_answer c.args.number) (max_book + 1) _ _ _ fed.0 (Ok c.in-Ok.observations.items)
    (omega (arith, c.in_ok-feed_from.ensures.book.read.failed)) (book_answer-take c.args.number) fed.2 (sym took.0.due ∙ c.in-Ok.ensures.finished.ok)

pub returns-in_ok-add-in-Ok-clause-read : goal.returns-in_ok-add-in-Ok-clause-read
returns-in_ok-add-in-Ok-clause-read g c =
    let fed = c.in_ok-feed_from.ensures.fed in
    let took = fed.1 ((c.replace-names.result, c.args.number, fed.0), fed.0) (record { due = c.new-2.ensures.owes fed.0; seen = λ faultless. record { place = 0; read = c.new-2.ensures.begins fed.0; seen = c.new-3.ensures (parsed_of fed.0) } }, [], refl, c.new-4.ensures) in
    let answered : book_answer c.args.number fed.0 ≡ Ok c.in-Ok.observations.items = sym took.0.due ∙ c.in-Ok.ensures.finished.ok in
    let added = c.in_ok-add-in-Ok.ensures.added in
    let whole : took.1 ≡ fed.0 = sym (append-nil took.1) ∙ took.2 in
    let few : length took.1 < 2 ^ 64 = omega (arith, book_within c.args.number fed.0 c.in-Ok.observations.items answered, ap length whole) in
    record {
      text = fed.0;
      review = added.review;
      is_told = front_told c.args.number ((g.S.Source.state c.args.book.now).left) fed.0 c.in-Ok.observations.items answered fed.2;
      answered = answered;
      reviewed = added.reviewed c.replace-names.result c.args.number (parsed_of fed.0) (c.in-Ok.ensures.seen c.replace-names.result c.args.number fed.0 took.0);
      joined = added.joined;
      named = subst (λ (own : SeenNames). AddsBook c.args.number (parsed_of fed.0) own c.add.new.self.names) c.replace-names.ensures.value
          (added.named c.replace-names.result c.args.number (parsed_of fed.0) (c.in-Ok.ensures.seen c.replace-names.result c.args.number fed.0 took.0));
      summed = c.in_ok-add-in-Ok.ensures.summed ∙ ap (λ own. c.args.self.now.sums.items ++ own ∷ []) (c.finish.ensures took.1 took.3 few ∙ ap (sum_of (input.Book c.args.number)) whole);
    }

pub returns-in-Err-clause-refused : goal.returns-in-Err-clause-refused
returns-in-Err-clause-refused g c =
    let fed = c.in_ok-feed_from.ensures.fed in
    let took = fed.1 ((c.replace-names.result, c.args.number, fed.0), fed.0) (record { due = c.new-2.ensures.owes fed.0; seen = λ faultless. record { place = 0; read = c.new-2.ensures.begins fed.0; seen = c.new-3.ensures (parsed_of fed.0) } }, [], refl, c.new-4.ensures) in
    meets_fault (input.Book c.args.number) (refusal.Book c.args.number) (book_answer c.args.number) (max_book + 1) _ _ _ fed.0 c.in-Err.fault c.refusal_of.result
    (omega (arith, c.in_ok-feed_from.ensures.book.read.failed)) (book_answer-take c.args.number) fed.2
    (book_fault (refusal.Book c.args.number) _ _ _ c.refusal_of.ensures.memory c.refusal_of.ensures.book (λ other. sym took.0.due ∙ c.in-Err.ensures.finished.fault other))
