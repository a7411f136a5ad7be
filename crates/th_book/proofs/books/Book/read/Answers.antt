use Rattle.std.proofs.Common.{◌≡◌, ◌+◌, [], refl, Some, None, Err, sym, ap, ◌∙◌, subst}
use Rattle.gsi_block.specs.Blocks.{block_at}
use Rattle.th_book.specs.Lines.{ParsedLine}
use Rattle.th_book.specs.Inside.Witnesses.{IsSeenNext}
use Rattle.th_book.specs.Inside.Effects.{line_fault, state_refusing}
use Rattle.th_book.specs.Due.{BookState, IsLasting, IsRefused, IsTaken, standing_in}
use Rattle.th_book.specs.declared.faults.BookFault.{BookFault}
use Rattle.th_book.specs.declared.faults.BookKind.TheVariants.{Block}
use Rattle.th_book.proofs.Holding.{IsRefused-before, IsRefused-line, IsTaken-blank, kind_lasts}
use Rattle.th_book.proofs.Seeing.{seen_blank}
use Rattle.th_book.proofs.books.Book.read.Goals as goal

pub returns-in-Some-clause-answered : goal.returns-in-Some-clause-answered
returns-in-Some-clause-answered g c =
    let found : c.args.self.now.fault ≡ Some c.in-Some.fault = ap (λ (state : BookState). state.fault) (sym c.self.view_is) ∙ c.in-Some.is in
    record {
      taken = tt;
      refused = λ kept. IsRefused-before c.args.self.now c.args.line.now c.in-Some.fault found;
      wanting = λ wanting. absurd ((subst IsLasting c.in-Some.is c.self.invariant) wanting);
    }

pub returns-in-Ok-None-clause-answered : goal.returns-in-Ok-None-clause-answered
returns-in-Ok-None-clause-answered g c =
    let sound : c.args.self.now.fault ≡ None = ap (λ (state : BookState). state.fault) (sym c.self.view_is) ∙ c.in_default.is in
    let counted = ap (λ (state : BookState). record state { lines = state.lines + 1 }) (sym c.self.view_is) in
    record {
      taken = subst (λ (state : BookState). IsTaken c.args.self.now state c.args.line.now) counted (IsTaken-blank c.args.self.now c.args.line.now sound (sym (rw c.in-Ok-None.field-0-is at c.in-Ok-None.ensures)));
      refused = tt;
      wanting = tt;
    }

pub returns-in-Ok-None-clause-seen : goal.returns-in-Ok-None-clause-seen
returns-in-Ok-None-clause-seen g c =
    subst
    (λ (state : BookState). IsSeenNext g.W.Witness.has_seen c.args.self.now state c.args.line.now c.args.witness.now c.blank.new.self)
    (ap (λ (state : BookState). record state { lines = state.lines + 1 }) (sym c.self.view_is))
    (seen_blank g.W.Witness.has_seen c.args.self.now c.args.line.now c.args.witness.now c.blank.new.self (sym (rw c.in-Ok-None.field-0-is at c.in-Ok-None.ensures)) c.blank.ensures)

pub returns-in-Err-clause-answered : goal.returns-in-Err-clause-answered
returns-in-Err-clause-answered g c =
    let sound : c.args.self.now.fault ≡ None = ap (λ (state : BookState). state.fault) (sym c.self.view_is) ∙ c.in_default.is in
    let kind = Block c.in-Err.fault in
    let found : Some kind ≡ line_fault c.args.self.now.setup (block_at c.args.line.now) = ap (λ (parsed : ParsedLine). line_fault c.args.self.now.setup parsed) c.in-Err.ensures in
    let refused = IsRefused-line c.args.self.now c.args.line.now kind sound found in
    record {
      taken = tt;
      refused = λ kept.
          subst (λ (state : BookState). IsRefused c.args.self.now state c.args.line.now c.refuse.result) (sym c.refuse.ensures.kept)
          (subst (λ (fault : BookFault). IsRefused c.args.self.now (state_refusing c.args.self.now kind) c.args.line.now fault) (sym c.refuse.ensures.fault) refused);
      wanting = λ wanting. absurd (kind_lasts (standing_in c.args.self.now.setup []) (Err c.in-Err.fault) kind refl (ap (λ (fault : BookFault). fault.kind) (sym c.refuse.ensures.fault) ∙ wanting));
    }
