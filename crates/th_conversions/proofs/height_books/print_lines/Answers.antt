use Rattle.std.proofs.Common.{◌≢◌, ◌∙◌, Some, ap, sym, subst}
use Rattle.gsi_block.specs.Lines.{due}
use Rattle.th_book.specs.declared.faults.BookKind.TheVariants as kind
use Rattle.th_conversions.specs.HeightFaults.{fault_in}
use Rattle.th_conversions.specs.declared.height_faults.HeightKind.{HeightKind}
use Rattle.th_conversions.specs.declared.height_faults.HeightKind.TheVariants.{Book}
use Rattle.th_conversions.specs.Inside.Stops.{stop_kind}
use Rattle.th_conversions.proofs.HeightBookLemmas.{no_more, stop_end}
use Rattle.th_conversions.proofs.height_books.print_lines.Goals as goal

pub returns-in-Err-clause-fault : goal.returns-in-Err-clause-fault
returns-in-Err-clause-fault c = λ real.
    let stopped = stop_end _ _ _ c.in-Err.stop c.in-Err.ensures.fault (subst (λ (own : HeightKind). own ≢ Book kind.NoMemory) c.kind.ensures real) in
    let ends = no_more c.lines.text.items _ _ c.lines.running c.lines.count c.in-Some.line.now (due c.lines.cursor) (due c.next.new.self) (stop_kind c.in-Err.stop) c.in-Some.ensures.gives stopped.0 c.lines.invariant.0 in
    record {
      text = stopped.1 ∙ ends.0;
      ends = ends.1 ∙ ap (λ (own : HeightKind). Some (fault_in c.lines.count own)) (sym c.kind.ensures);
    }
