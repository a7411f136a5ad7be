use Rattle.std.proofs.Common.{◌+◌, [], refl, sym, ap, subst}
use Rattle.th_book.specs.Due.{BookState}
use Rattle.th_book.specs.Inside.Witnesses.{IsSeenNext}
use Rattle.th_book.proofs.Seeing.{seen_blank}
use Rattle.th_book.proofs.books.Book.pass_empty.Goals as goal

pub returns-then-is_none-clause-seen : goal.returns-then-is_none-clause-seen
returns-then-is_none-clause-seen g c =
    subst
    (λ (state : BookState). IsSeenNext g.W.Witness.has_seen c.args.self.now state [] c.args.witness.now c.blank.new.self)
    (ap (λ (state : BookState). record state { lines = state.lines + 1 }) (sym c.self.view_is))
    (seen_blank g.W.Witness.has_seen c.args.self.now [] c.args.witness.now c.blank.new.self refl c.blank.ensures)
