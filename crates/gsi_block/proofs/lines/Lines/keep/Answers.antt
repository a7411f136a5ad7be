use Rattle.std.proofs.Common.{◌≡◌, ℕ, List, ◌++◌, ◌≤◌, ◌+◌, length, take, IsTrue, sym, ◌∙◌, ap, arith}
use Rattle.std.proofs.Math.Nat.{min-le_right}
use Rattle.std.specs.List.{list_all}
use Rattle.std.proofs.lemmas.Bool.Decides.{nat_tests}
use Rattle.std.proofs.lemmas.List.{length-take}
use Rattle.gsi_block.specs.Limits.{max_kept}
use Rattle.gsi_block.specs.Lines.{is_in_line}
use Rattle.gsi_block.specs.Pieces.{LineState, cut_line}
use Rattle.gsi_block.proofs.PiecesLaw.{cut_line-append, cut_line-none, in_line-append, in_line-take}
use Rattle.gsi_block.proofs.Successes.{at_ok}
use Rattle.gsi_block.proofs.lines.Lines.keep.Goals as goal

-- the line is what is kept of it and of the bytes
kept : (c : goal.After-try_extend_from_slice) → c.try_extend_from_slice.new.self.items ≡ cut_line (c.self.inside.line.items ++ c.args.bytes.now)
kept c =
    let line = c.self.inside.line.items in
    let part = take c.min.result c.args.bytes.now in
    let room : c.remaining_capacity-room.result + length line ≡ max_kept = c.remaining_capacity-room.ensures in
    let fits : length line + length part ≤ max_kept = omega (arith, length-take c.min.result c.args.bytes.now, min-le_right (length c.args.bytes.now) c.remaining_capacity-room.result, c.min.ensures) in
    let added : c.try_extend_from_slice.new.self.items ≡ line ++ part = at_ok c.try_extend_from_slice.result (c.try_extend_from_slice.ensures.variant.1 fits) c.try_extend_from_slice.ensures.ok in
    added ∙ ap (λ n. line ++ take n c.args.bytes.now) c.min.ensures ∙ sym (cut_line-append line c.args.bytes.now c.remaining_capacity-room.result room)

pub returns-then-is_empty : goal.returns-then-is_empty
returns-then-is_empty c =
    let line = c.self.inside.line.items in
    let complete = c.self.inside.complete in
    let after_return = c.self.inside.after_return in
    let with_line : List ℕ → LineState = λ (line : List ℕ). record { line = line; complete = complete; after_return = after_return } in
    let goes_on : LineState → LineState = λ (lines : LineState). record lines { line = cut_line (lines.line ++ c.args.bytes.now) } in
    let room : c.remaining_capacity-room.result + length line ≡ max_kept = c.remaining_capacity-room.ensures in
    let none : length c.args.bytes.now ≡ 0 = grind (arith, nat_tests) in
    sym c.self.view_is ∙ ap with_line (sym (cut_line-none line c.args.bytes.now (omega arith) none)) ∙ ap goes_on c.self.view_is

pub returns : goal.returns
returns c =
    let complete = c.self.inside.complete in
    let after_return = c.self.inside.after_return in
    let with_line : List ℕ → LineState = λ (line : List ℕ). record { line = line; complete = complete; after_return = after_return } in
    let goes_on : LineState → LineState = λ (lines : LineState). record lines { line = cut_line (lines.line ++ c.args.bytes.now) } in
    ap with_line (kept c) ∙ ap goes_on c.self.view_is

pub invariant_of-self : goal.invariant_of-self
invariant_of-self c =
    let whole : IsTrue (list_all is_in_line (c.self.inside.line.items ++ c.args.bytes.now)) = in_line-append c.self.inside.line.items c.args.bytes.now c.self.invariant c.requires in
    rw (kept c) (in_line-take max_kept (c.self.inside.line.items ++ c.args.bytes.now) whole)
