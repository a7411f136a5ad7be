use Rattle.std.proofs.Common.{◌≡◌, ◌∷◌, [], ℕ, Err, List, ap, rules, subst}
use Rattle.th_run_parts.specs.declared.outputs.Output.{Output}
use Rattle.th_run_parts.specs.Reads.{refused}
use Rattle.th_run_parts.specs.Writes.{AreWritten, Texts}
use Rattle.th_run_parts.proofs.RunLemmas.{begun_of, outcome_begun, written_behind}
use Rattle.th_run_parts.proofs.SourceLemmas.{read_before}
use Rattle.th_run_parts.specs.Booked.{input_of}
use Rattle.th_run_parts.proofs.BookingLemmas.{book_refused}
use Rattle.th_run_parts.proofs.booking.run_book.Goals as goal

pub returns-in_err-book-clause-outcome : goal.returns-in_err-book-clause-outcome
returns-in_err-book-clause-outcome g c =
    let is : c.from_residual.result ≡ Err c.in_err-book.field-0.0 = search rules in
    rw is (book_refused _ _ _ c.args.conversion c.in_err-book.field-0.0 _ _ c.in_err-book.ensures.named c.in_err-book.ensures.refused (search rules))

pub returns-clause-outcome : goal.returns-clause-outcome
returns-clause-outcome g c =
    outcome_begun _ _ _ c.in_ok-book.book.items c.write_outs.result _ _ (begun_of (c.new.result.0 ∷ []) c.write_outs.result c.write_outs.ensures.named)
    c.in_ok-book.ensures.book (subst (λ (own : Texts). AreWritten g.K.Sink.state (refused c.write_outs.result) own c.args.outs.now c.write_outs.new.outs)
    (ap (λ (own : Output × List ℕ). own ∷ []) c.new.ensures) c.write_outs.ensures.written)

pub returns-clause-source : goal.returns-clause-source
returns-clause-source g c =
    read_before _ (input_of c.args.conversion) (refused c.write_outs.result) _ _
    (written_behind (input_of c.args.conversion) c.write_outs.result (begun_of (c.new.result.0 ∷ []) c.write_outs.result c.write_outs.ensures.named)) c.in_ok-book.ensures.source
