use Rattle.std.proofs.Common.{◌∙◌, ℕ, List, [], ap, sym, arith}
use Rattle.std.specs.Borrow.{Bor}
use Rattle.std.proofs.lemmas.List.{get_or_default}
use Rattle.th_files.proofs.OverwriteLemmas.{no_more}
use Rattle.th_files.proofs.overwrites.changed_book.Goals as goal

pub loop-name-preserved : goal.loop-name-preserved
loop-name-preserved g c =
    let none : Bor (List ℕ) = record { ref_ptr = c.args.names.ref_ptr; now = [] } in
    let one = ap (λ (name : Bor (List ℕ)). name.now) (get_or_default c.args.names.now c.loop-name.name-index _ none c.loop-name-test.true) in
    (omega (arith, c.loop-name.invariant.0), no_more g.F.Folder.tells c.args.names.now c.loop-name.name-index none c.args.output.now c.loop-name-test.true c.loop-name.invariant.1 (λ telling same. let bad = (c.in_ok-would_change.ensures telling).1 (same ∙ sym one) in cc))
