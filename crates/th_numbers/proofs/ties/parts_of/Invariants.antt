use Rattle.th_numbers.specs.Inside.Parts.{AreParts}
use Rattle.th_numbers.proofs.ties.parts_of.Given as goal

abbrev pub invariant-loop-station : goal.invariant-loop-station
invariant-loop-station l = AreParts l.network l.station-index l.parts.items
