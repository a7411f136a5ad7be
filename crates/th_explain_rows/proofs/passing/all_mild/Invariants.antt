use Rattle.std.proofs.Common.{◌≡◌, ◌++◌, drop, map}
use Rattle.th_explain_rows.specs.Inside.Passing.{is_mild}
use Rattle.th_explain_rows.proofs.passing.all_mild.Given as goal

abbrev pub invariant-loop-own : goal.invariant-loop-own
invariant-loop-own l = l.mild.items ++ map is_mild (drop l.own-index l.found) ≡ map is_mild l.found
