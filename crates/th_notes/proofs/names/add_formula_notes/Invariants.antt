use Rattle.std.proofs.Common.{take}
use Rattle.std.specs.List.{flat_map}
use Rattle.th_entries.specs.Listed.{IsListed}
use Rattle.th_notes.specs.Names.{formula_note}
use Rattle.th_notes.proofs.names.add_formula_notes.Given as goal

abbrev pub invariant-loop-name : goal.invariant-loop-name
invariant-loop-name l = IsListed (flat_map formula_note (take l.name-index l.points)) l.found
