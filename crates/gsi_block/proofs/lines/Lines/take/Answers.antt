use Rattle.std.proofs.Common.{◌≡◌, ◌==◌, ◌&&◌, length, take, sym, ◌∙◌, ap, arith}
use Rattle.std.specs.List.{list_all}
use Rattle.std.proofs.lemmas.Bool.Decides.{nat_tests}
use Rattle.gsi_block.specs.Lines.{is_in_line}
use Rattle.gsi_block.specs.Inside.Ends.{feed_len}
use Rattle.gsi_block.specs.contracts.lines.Lines.{the_view}
use Rattle.gsi_block.proofs.PiecesLaw.{in_line-front, due-passed, due-taken}
use Rattle.gsi_block.proofs.lines.Lines.take.Goals as goal
use Rattle.gsi_block.proofs.lines.Lines.take.Goals.{then-self, else-self}

pub keep-requires : goal.keep-requires
keep-requires c =
    let front : c.split_at-2.result.0.now ≡ take c.line_len.result c.split_at.result.1.now = c.split_at-2.ensures.front in
    rw front (in_line-front c.line_len.result c.split_at.result.1.now (omega (arith, c.line_len.ensures.place)))

pub returns-then-is_empty-clause-keeps : goal.returns-then-is_empty-clause-keeps
returns-then-is_empty-clause-keeps c = λ none later.
    let same : c.self-2.inside.after_return ≡ c.args.self.now.after_return = ap (λ lines. lines.after_return) (c.self-2.view_is ∙ c.keep.ensures) ∙ c.begin.ensures.after_return in
    let next : c.if-self.self ≡ (c.args.self.now.after_return && (length c.args.piece.now == 0)) = elim c.if-self.branch [ then-self w ↦ grind (arith, nat_tests, same, w.if-self, w.self-is, w.is_empty-self-inside.ensures) | else-self w ↦ grind (arith, nat_tests, same, w.if-self, w.self-is) ] in
    due-passed c.args.self.now c.begin.new.self (the_view c.self-2.inside) c.args.piece.now c.split_at.result.1.now c.split_at-2.result.0.now c.split_at-2.result.1.now c.feed_len-skipped.result c.line_len.result
    (record {
      line = c.begin.ensures.line;
      complete = c.begin.ensures.complete;
      after_return = c.begin.ensures.after_return;
      in_line = ap (λ lines. list_all is_in_line lines.line) (sym c.self.view_is) ∙ c.self.invariant;
      passes = c.feed_len-skipped.ensures ∙ ap (λ lines. feed_len lines.after_return c.args.piece.now) c.self.view_is;
      goes_on = c.split_at.ensures.back;
      ends = c.line_len.ensures.place;
      in_front = c.split_at-2.ensures.front;
      behind = c.split_at-2.ensures.back;
      kept = c.self-2.view_is ∙ c.keep.ensures;
    }) c.if-self.self later (grind (arith, nat_tests)) next

pub returns-clause-gives : goal.returns-clause-gives
returns-clause-gives c = λ some later.
    rw (c.end_len.ensures, c.is_lone_return-self-inside.ensures) (due-taken c.args.self.now c.begin.new.self (the_view c.self-2.inside) c.args.piece.now c.split_at.result.1.now c.split_at-2.result.0.now c.split_at-2.result.1.now c.feed_len-skipped.result c.line_len.result
    (record {
      line = c.begin.ensures.line;
      complete = c.begin.ensures.complete;
      after_return = c.begin.ensures.after_return;
      in_line = ap (λ lines. list_all is_in_line lines.line) (sym c.self.view_is) ∙ c.self.invariant;
      passes = c.feed_len-skipped.ensures ∙ ap (λ lines. feed_len lines.after_return c.args.piece.now) c.self.view_is;
      goes_on = c.split_at.ensures.back;
      ends = c.line_len.ensures.place;
      in_front = c.split_at-2.ensures.front;
      behind = c.split_at-2.ensures.back;
      kept = c.self-2.view_is ∙ c.keep.ensures;
    }) later (grind (arith, nat_tests)))
