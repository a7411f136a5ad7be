use Rattle.std.proofs.Common.{◌≡◌, ◌++◌, drop, map}
use Rattle.th_numbers.specs.Inside.Parts.{relabelled}
use Rattle.th_numbers.proofs.ties.joined.Given as goal

abbrev pub invariant-loop-label : goal.invariant-loop-label
invariant-loop-label l = l.own.items ++ map (relabelled l.from l.to) (drop l.label-index l.parts) ≡ map (relabelled l.from l.to) l.parts
