use Rattle.std.proofs.Common.{◌≡◌, length, take, sym, ap, ◌∙◌, arith}
use Rattle.std.specs.List.{prefix_len}
use Rattle.gsi_block.specs.Lines.{is_in_line}
use Rattle.gsi_block.proofs.LineEnds.{line_len-within_window, line_len-behind_window}
use Rattle.gsi_block.proofs.ends.line_len.Goals as goal

pub returns-then-found-window-clause-place : goal.returns-then-found-window-clause-place
returns-then-found-window-clause-place c =
    let front : prefix_len is_in_line (take c.min.result c.loop-rest.rest.now) ≡ c.line_len_within-found.result =
    ap (prefix_len is_in_line) (sym c.split_at.ensures.front) ∙ sym c.line_len_within-found.ensures.place in
    let ends = line_len-within_window c.loop-rest.rest.now c.min.result (omega (arith, front, c.if-found-window.true, ap length c.split_at.ensures.front)) in
    omega (arith, ends, front, c.loop-rest.invariant)

pub loop-rest-preserved : goal.loop-rest-preserved
loop-rest-preserved c =
    let front : prefix_len is_in_line (take c.min.result c.loop-rest.rest.now) ≡ c.line_len_within-found.result =
    ap (prefix_len is_in_line) (sym c.split_at.ensures.front) ∙ sym c.line_len_within-found.ensures.place in
    let behind = line_len-behind_window c.loop-rest.rest.now c.min.result (omega (arith, front, c.if-found-window.false, ap length c.split_at.ensures.front)) in
    let back = ap (prefix_len is_in_line) c.split_at.ensures.back in
    (omega (arith, c.loop-rest.invariant, c.split_at.ensures.back_len), omega (arith, behind, back, c.loop-rest.invariant, c.split_at.ensures.back_len, c.split_at.ensures.front_len, ap length c.split_at.ensures.front))
