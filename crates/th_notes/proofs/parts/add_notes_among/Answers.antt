use Rattle.std.proofs.Common.{List, take, sym, subst}
use Rattle.std.specs.Prelude.{option_to_list}
use Rattle.std.specs.List.{flat_map}
use Rattle.std.proofs.lemmas.List.{take_all}
use Rattle.std.proofs.lemmas.Result.{on_ok_weaker}
use Rattle.th_entries.specs.Listed.{IsListed}
use Rattle.th_notes.specs.Parts.{hanging_note, together}
use Rattle.th_notes.specs.declared.notes.Note.{Note}
use Rattle.th_notes.specs.declared.parts.Mark.{Mark}
use Rattle.th_notes.proofs.FindingLemmas.{given_more}
use Rattle.th_notes.proofs.parts.add_notes_among.Goals as goal

abbrev given : List Mark → Mark → List Note
given marks mark = option_to_list (hanging_note mark.name (together mark.part marks))

pub loop-mark-preserved : goal.loop-mark-preserved
loop-mark-preserved c =
    let marks : List Mark = c.args.marks.now in
    let k = c.loop-mark.mark-index in
    subst (λ (own : List Note). IsListed own c.note_hanging.new.found)
    (sym (given_more (given marks) marks k c.mark-item.result c.loop-mark-test.true c.mark-item.is))
    (c.in_ok-note_hanging.ensures (flat_map (given marks) (take k marks)) c.loop-mark.invariant)

pub returns : goal.returns
returns c =
    let marks : List Mark = c.args.marks.now in
    on_ok_weaker c.add_limited.result
    (λ added. added (flat_map (given marks) marks)
    (subst (λ (own : List Mark). IsListed (flat_map (given marks) own) c.loop-mark.found) (take_all c.loop-mark.mark-index marks c.loop-mark-test.false) c.loop-mark.invariant))
    c.add_limited.ensures
