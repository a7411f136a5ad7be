use Rattle.std.proofs.Common.{take}
use Rattle.std.specs.Prelude.{option_to_list}
use Rattle.std.specs.List.{flat_map}
use Rattle.th_entries.specs.Listed.{IsListed}
use Rattle.th_notes.specs.Parts.{hanging_note, together}
use Rattle.th_notes.proofs.parts.add_notes_among.Given as goal

abbrev pub invariant-loop-mark : goal.invariant-loop-mark
invariant-loop-mark l =
    IsListed (flat_map (λ mark. option_to_list (hanging_note mark.name (together mark.part l.marks))) (take l.mark-index l.marks)) l.found
