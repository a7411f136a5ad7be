use Rattle.std.proofs.Common.{◌≡◌, ◌++◌, drop, map}
use Rattle.th_explain_rows.specs.Inside.Passing.{freed_of}
use Rattle.th_explain_rows.proofs.passing.all_freed.Given as goal

abbrev pub invariant-loop-own : goal.invariant-loop-own
invariant-loop-own l = l.freed.items ++ map freed_of (drop l.own-index l.found) ≡ map freed_of l.found
