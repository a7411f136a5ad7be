use Rattle.std.proofs.Common.{◌≡◌, [], ◌∷◌, ◌++◌, length, take, drop, zero-add, refl, sym, ◌∙◌, ap, arith}
use Rattle.std.specs.List.{list_all, prefix_len}
use Rattle.std.proofs.lemmas.Bool.Decides.{nat_tests}
use Rattle.std.proofs.lemmas.List.{nil_from_length}
use Rattle.gsi_block.specs.Lines.{is_in_line}
use Rattle.gsi_block.specs.Pieces.{begun, cut_line, lines_due}
use Rattle.gsi_block.specs.Inside.Ends.{feed_len, is_lone_return}
use Rattle.gsi_block.specs.contracts.lines.Lines.{the_view}
use Rattle.gsi_block.proofs.PiecesLaw.{cut_line-min, due-whole, none_ended}
use Rattle.gsi_block.proofs.lines.Lines.take_whole.Goals as goal
use Rattle.gsi_block.proofs.lines.Lines.take_whole.Goals.{then-not-self, else-not-self}

pub returns-then-is_empty-clause-missing : goal.returns-then-is_empty-clause-missing
returns-then-is_empty-clause-missing c = λ none fresh whole.
    let piece = c.args.piece.now in
    let place : c.line_len.result ≡ prefix_len is_in_line piece = c.line_len.ensures.place in
    let empty : length c.split_at.result.1.now ≡ 0 = grind (arith, nat_tests) in
    none_ended piece (ap (λ n. length (drop n piece)) (sym place) ∙ ap length (sym c.split_at.ensures.back) ∙ empty)

pub returns-clause-gives : goal.returns-clause-gives
returns-clause-gives c = λ later.
    let piece = c.args.piece.now in
    let begins = c.begin.new.self in
    let front = c.split_at.result.0.now in
    let end = c.split_at.result.1.now in
    let none : begun (the_view c.self.inside) ≡ [] = elim c.if-not-self.branch [
      | then-not-self w ↦ grind (arith, nat_tests, w.if-not-self, w.is_empty.ensures, w.has_begun-is, c.if-has_begun.false, nil_from_length c.self.inside.line.items)
      | else-not-self w ↦ grind (arith, nat_tests, w.if-not-self)
    ] in
    let fresh : begins.line ≡ [] = c.begin.ensures.line ∙ ap begun (sym c.self.view_is) ∙ none in
    let no_feed : 0 ≡ feed_len c.self.inside.after_return piece = omega (arith, c.feed_len.ensures, c.if-feed_len-gt0.false) in
    let gives = due-whole c.args.self.now begins (record begins { line = cut_line (begins.line ++ front) }) piece piece front end 0 c.line_len.result
    (record {
      line = c.begin.ensures.line;
      complete = c.begin.ensures.complete;
      after_return = c.begin.ensures.after_return;
      in_line = ap (list_all is_in_line) fresh;
      passes = no_feed ∙ ap (λ lines. feed_len lines.after_return piece) c.self.view_is ∙ ap (λ after_return. feed_len after_return piece) (sym c.begin.ensures.after_return);
      goes_on = refl;
      ends = c.line_len.ensures.place;
      in_front = c.split_at.ensures.front;
      behind = c.split_at.ensures.back;
      kept = refl;
    }) later fresh (grind (arith, nat_tests)) in
    let line = c.split_at-2.ensures.front ∙ ap (λ n. take n front) c.min.ensures ∙ sym (cut_line-min front) in
    rw (c.end_len.ensures, c.is_lone_return-after_return.ensures, line)
    ((rw (zero-add (length front)) at gives) ∙ ap (λ lines. cut_line front ∷ lines_due (record lines { after_return = is_lone_return end }) later) (sym c.self-2.view_is))
