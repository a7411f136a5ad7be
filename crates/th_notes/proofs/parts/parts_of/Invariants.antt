use Rattle.std.proofs.Common.{◌≡◌, take}
use Rattle.std.specs.List.{range_with_len}
use Rattle.th_notes.specs.Parts.{parts_of}
use Rattle.th_notes.proofs.parts.parts_of.Given as goal

abbrev pub invariant-loop-place : goal.invariant-loop-place
invariant-loop-place l = l.parts.items ≡ range_with_len 0 l.place

abbrev pub invariant-loop-station : goal.invariant-loop-station
invariant-loop-station l = l.parts.items ≡ parts_of l.count (take l.station-index l.ends)
