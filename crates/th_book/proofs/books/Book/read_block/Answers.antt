use Rattle.std.proofs.Common.{ℕ, suc, ◌+◌, List, map, sym, ap, ◌∙◌, subst}
use Rattle.gsi_word.specs.Words.{parts_of}
use Rattle.th_book.specs.Lines.{ParsedLine}
use Rattle.th_book.specs.Witnesses.{IsBlockAt}
use Rattle.th_book.specs.Inside.Witnesses.{IsSeenNext}
use Rattle.th_book.specs.Entered.{nothing}
use Rattle.th_book.specs.Due.{BookState, IsTaken}
use Rattle.th_book.proofs.Idle.{idle_enters, idle_line}
use Rattle.th_book.proofs.Holding.{IsTaken-none}
use Rattle.th_book.proofs.Seeing.{seen_idle}
use Rattle.th_book.proofs.books.Book.read_block.Goals as goal

pub returns-then-is_nothing-clause-answered : goal.returns-then-is_nothing-clause-answered
returns-then-is_nothing-clause-answered g c line is =
    let idle = sym (c.is_nothing.ensures.0 c.if-is_nothing.true) ∙ c.count.ensures in
    let stands = idle_line c.args.self.now.setup c.args.words.now line is idle in
    let counted = ap (λ (state : BookState). record state { lines = state.lines + 1 }) (sym c.self.view_is) in
    record {
      taken = subst (λ (state : BookState). IsTaken c.args.self.now state line) counted (IsTaken-none c.args.self.now line c.requires.sound stands.fault stands.left);
      refused = tt;
      wanting = tt;
    }

pub returns-then-is_nothing-clause-seen : goal.returns-then-is_nothing-clause-seen
returns-then-is_nothing-clause-seen g c line is =
    let words = map parts_of c.args.words.now in
    let idle = sym (c.is_nothing.ensures.0 c.if-is_nothing.true) ∙ c.count.ensures in
    let stands = idle_line c.args.self.now.setup c.args.words.now line is idle in
    let sees =
    subst
    (λ (state : BookState). (start : g.W.Witness.Start) (number : ℕ) (parsed : List ParsedLine) (place : ℕ) → IsBlockAt parsed place state.setup nothing words → g.W.Witness.has_seen start number parsed place c.args.witness.now → g.W.Witness.has_seen start number parsed (suc place) c.block.new.self)
    c.self.view_is
    (rw c.nothing.ensures at c.block.ensures)
    in
    subst
    (λ (state : BookState). IsSeenNext g.W.Witness.has_seen c.args.self.now state line c.args.witness.now c.block.new.self)
    (ap (λ (state : BookState). record state { lines = state.lines + 1 }) (sym c.self.view_is))
    (seen_idle g.W.Witness.has_seen c.args.self.now line c.args.words.now c.args.witness.now c.block.new.self c.requires.sound stands.fault stands.left is (idle_enters words idle) sees)
