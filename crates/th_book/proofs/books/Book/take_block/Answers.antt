use Rattle.std.proofs.Common.{ℕ, suc, List, map, Some, sym, ap, ◌∙◌, subst}
use Rattle.gsi_word.specs.Words.{parts_of}
use Rattle.th_book.specs.Lines.{ParsedLine}
use Rattle.th_book.specs.Witnesses.{IsBlockAt}
use Rattle.th_book.specs.Due.{BookState, IsRefused}
use Rattle.th_book.specs.Inside.Effects.{state_refusing}
use Rattle.th_book.specs.declared.faults.BookFault.{BookFault}
use Rattle.th_book.proofs.BlockLines.{fault_of_block, stands_for_line}
use Rattle.th_book.proofs.Holding.{IsRefused-line, answered_entry, kind_lasts_of_block}
use Rattle.th_book.proofs.Seeing.{seen_block}
use Rattle.th_book.proofs.EffectLemmas.{own_fault_of}
use Rattle.th_book.proofs.books.Book.take_block.Goals as goal

pub returns-in-Ok-clause-answered : goal.returns-in-Ok-clause-answered
returns-in-Ok-clause-answered g c line is =
    let entry = c.in-Ok.entry in
    let stands = stands_for_line c.args.self.now.setup c.args.words.now line entry is c.in-Ok.ensures.fault c.in-Ok.ensures.entry in
    answered_entry c.take.result c.args.self.now c.take.new.self line entry c.requires.sound stands.fault stands.left c.take.ensures.taken c.take.ensures.kept c.take.ensures.wanting

pub returns-in-Ok-clause-seen : goal.returns-in-Ok-clause-seen
returns-in-Ok-clause-seen g c line is =
    let entry = c.in-Ok.entry in
    let stands = stands_for_line c.args.self.now.setup c.args.words.now line entry is c.in-Ok.ensures.fault c.in-Ok.ensures.entry in
    let sees =
    subst
    (λ (state : BookState). (start : g.W.Witness.Start) (number : ℕ) (parsed : List ParsedLine) (place : ℕ) → IsBlockAt parsed place state.setup entry (map parts_of c.args.words.now) → g.W.Witness.has_seen start number parsed place c.args.witness.now → g.W.Witness.has_seen start number parsed (suc place) c.block.new.self)
    c.self.view_is
    c.block.ensures
    in
    seen_block g.W.Witness.has_seen c.take.result c.args.self.now c.take.new.self line entry c.args.words.now c.args.witness.now c.block.new.self c.requires.sound stands.fault stands.left is c.in-Ok.ensures.entry sees c.take.ensures.taken

pub refuse-requires-clause-lasting : goal.refuse-requires-clause-lasting
refuse-requires-clause-lasting g c =
    kind_lasts_of_block c.args.self.now.setup (map parts_of c.args.words.now) c.in-Err.kind (own_fault_of (map parts_of c.args.words.now) c.args.self.now.setup c.in-Err.kind (sym c.in-Err.ensures.fault))

pub returns-in-Err-clause-answered : goal.returns-in-Err-clause-answered
returns-in-Err-clause-answered g c line is =
    let setup = c.args.self.now.setup in
    let kind = c.in-Err.kind in
    let own = own_fault_of (map parts_of c.args.words.now) setup kind (sym c.in-Err.ensures.fault) in
    let refused = IsRefused-line c.args.self.now line kind c.requires.sound (fault_of_block setup c.args.words.now line (Some kind) is (sym own)) in
    let lasts = kind_lasts_of_block setup (map parts_of c.args.words.now) kind own in
    record {
      taken = tt;
      refused = λ kept.
          subst (λ (state : BookState). IsRefused c.args.self.now state line c.refuse.result) (sym c.refuse.ensures.kept)
          (subst (λ (fault : BookFault). IsRefused c.args.self.now (state_refusing c.args.self.now kind) line fault) (sym c.refuse.ensures.fault) refused);
      wanting = λ wanting. absurd (lasts (ap (λ (fault : BookFault). fault.kind) (sym c.refuse.ensures.fault) ∙ wanting));
    }
