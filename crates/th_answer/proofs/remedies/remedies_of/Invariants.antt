use Rattle.std.proofs.Common.{◌≡◌, take}
use Rattle.std.specs.List.{filter_map}
use Rattle.th_answer.specs.Remedies.{remedy_of}
use Rattle.th_answer.proofs.remedies.remedies_of.Given as goal

abbrev pub invariant-loop-row : goal.invariant-loop-row
invariant-loop-row l = l.remedies.items ≡ filter_map (remedy_of l.entries) (take l.row-index l.rows)
