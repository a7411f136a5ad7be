use Rattle.std.proofs.Common.{◌≡◌, ◌-◌, [], ◌∷◌, length, take, drop, arith}
use Rattle.std.proofs.lemmas.Bool.Decides.{nat_tests}
use Rattle.std.proofs.lemmas.List.{length-drop}
use Rattle.std.proofs.Math.Seq.{take-length}
use Rattle.gsi_block.specs.Lines.{lines_of}
use Rattle.gsi_block.proofs.FirstLine.{lines_of-none, lines_of-step, behind_end}
use Rattle.gsi_block.proofs.cursor.LineCursor.next.Goals as goal

pub returns-then-is_empty-clause-gives : goal.returns-then-is_empty-clause-gives
returns-then-is_empty-clause-gives c =
    let none : lines_of c.self.inside.rest.now ≡ [] = lines_of-none c.self.inside.rest.now (grind (arith, nat_tests)) in
    let owed : lines_of c.args.self.now ≡ [] = cc in
    (owed, owed)

pub returns-clause-gives : goal.returns-clause-gives
returns-clause-gives c =
    let text = c.self.inside.rest.now in
    let step : lines_of text ≡ take c.line_len.result text ∷ lines_of (behind_end (drop c.line_len.result text)) =
    lines_of-step text c.line_len.result c.line_len.ensures.place (grind (arith, nat_tests)) in
    let after = c.split_at.result.1.now in
    let whole : take (length after - c.end_len.result) (drop c.end_len.result after) ≡ drop c.end_len.result after =
    rw (← length-drop) (take-length (drop c.end_len.result after)) in
    let line : c.split_at.result.0.now ≡ take c.line_len.result text = c.split_at.ensures.front in
    let behind : drop c.end_len.result after ≡ behind_end (drop c.line_len.result text) =
    cc (c.split_at.ensures.back, c.end_len.ensures) in
    cc (step, whole, line, behind)
