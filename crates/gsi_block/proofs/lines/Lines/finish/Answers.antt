use Rattle.std.proofs.Common.{◌≡◌, [], ◌∷◌, ◌<◌, length, false, refl, sym, ◌∙◌, ap, arith}
use Rattle.std.proofs.lemmas.Bool.Decides.{nat_tests}
use Rattle.std.proofs.lemmas.List.{nil_from_length}
use Rattle.gsi_block.specs.Pieces.{begun, lines_due}
use Rattle.gsi_block.specs.contracts.lines.Lines.{the_view}
use Rattle.gsi_block.proofs.PiecesLaw.{due-none, due-last}
use Rattle.gsi_block.proofs.lines.Lines.finish.Goals as goal
use Rattle.gsi_block.proofs.lines.Lines.finish.Goals.{then-self, else-self}

pub returns-then-is_empty : goal.returns-then-is_empty
returns-then-is_empty c =
    let none : begun (the_view c.self.inside) ≡ [] = elim c.if-self.branch [ then-self w ↦ grind (arith, nat_tests, w.if-self) | else-self w ↦ grind (arith, nat_tests, w.if-self, w.value-is, w.is_empty.ensures, nil_from_length c.self.inside.line.items) ] in
    (ap (λ lines. lines_due lines []) (sym c.self.view_is) ∙ due-none (the_view c.self.inside) none, refl)

pub returns-else-is_empty : goal.returns-else-is_empty
returns-else-is_empty c =
    let facts : (c.self.inside.complete ≡ false) × (0 < length c.self.inside.line.items) = elim c.if-self.branch [ then-self w ↦ absurd (grind (arith, nat_tests, w.if-self, w.value-is)) | else-self w ↦ (grind (arith, nat_tests, w.if-self), grind (arith, nat_tests, w.value-is, w.is_empty.ensures)) ] in
    ap (λ lines. lines_due lines []) (sym c.self.view_is)
    ∙ due-last (the_view c.self.inside) facts.0 c.self.invariant facts.1 (omega (arith, c.as_slice.ensures.fits, ap length c.as_slice.ensures.value))
    ∙ ap (λ line. line ∷ []) (sym c.as_slice.ensures.value)
