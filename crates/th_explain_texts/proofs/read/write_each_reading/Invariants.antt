use Rattle.std.proofs.Common.{◌≡◌, ◌++◌, drop}
use Rattle.std.specs.List.{enumerate_from, flat_map}
use Rattle.th_explain_texts.specs.Read.{each_reading, readings_at}
use Rattle.th_explain_texts.proofs.read.write_each_reading.Given as goal

abbrev pub invariant-loop-place : goal.invariant-loop-place
invariant-loop-place l =
    l.page ++ flat_map (readings_at l.several l.readings) (enumerate_from l.place (drop l.place l.rows)) ≡ l.fn.page ++ each_reading l.several l.rows l.readings
