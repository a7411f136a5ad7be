use Rattle.std.proofs.Common.{List, ℕ, take, sym, subst}
use Rattle.std.specs.List.{flat_map}
use Rattle.std.proofs.lemmas.List.{take_all}
use Rattle.std.proofs.lemmas.Result.{on_ok_weaker}
use Rattle.th_entries.specs.Listed.{IsListed}
use Rattle.th_notes.specs.Names.{formula_note}
use Rattle.th_notes.specs.declared.notes.Note.{Note}
use Rattle.th_notes.proofs.FindingLemmas.{given_more}
use Rattle.th_notes.proofs.names.add_formula_notes.Goals as goal

pub loop-name-preserved : goal.loop-name-preserved
loop-name-preserved c =
    let points : List (List ℕ) = c.args.points.now in
    let k = c.loop-name.name-index in
    subst (λ (own : List Note). IsListed own c.note_formula.new.found)
    (sym (given_more formula_note points k c.name-item.result c.loop-name-test.true c.name-item.is))
    (c.in_ok-note_formula.ensures (flat_map formula_note (take k points)) c.loop-name.invariant)

pub returns : goal.returns
returns c =
    let points : List (List ℕ) = c.args.points.now in
    on_ok_weaker c.add_limited.result
    (λ added. added (flat_map formula_note points)
    (subst (λ (own : List (List ℕ)). IsListed (flat_map formula_note own) c.loop-name.found) (take_all c.loop-name.name-index points c.loop-name-test.false) c.loop-name.invariant))
    c.add_limited.ensures
