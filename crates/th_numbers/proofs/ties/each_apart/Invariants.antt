use Rattle.th_numbers.specs.Inside.Parts.{AreApart}
use Rattle.th_numbers.proofs.ties.each_apart.Given as goal

abbrev pub invariant-loop-label : goal.invariant-loop-label
invariant-loop-label l = AreApart l.label l.parts.items
