use Rattle.std.proofs.Common.{◌≡◌, ◌++◌, drop}
use Rattle.std.specs.List.{flat_map}
use Rattle.th_explain_texts.specs.Read.{reading_line}
use Rattle.th_explain_texts.proofs.read.write_readings_of.Given as goal

abbrev pub invariant-loop-own : goal.invariant-loop-own
invariant-loop-own l =
    l.page ++ flat_map (reading_line l.several l.row) (drop l.own-index l.readings) ≡ l.fn.page ++ flat_map (reading_line l.several l.row) l.readings
