use Rattle.std.proofs.Common.{◌≡◌, ◌++◌, drop, map}
use Rattle.th_review_rows.specs.Entries.{sights_of}
use Rattle.th_runs.proofs.findings.sights_of_all.Given as goal

abbrev pub invariant-loop-entry : goal.invariant-loop-entry
invariant-loop-entry l = l.sights.items ++ map sights_of (drop l.entry-index l.entries) ≡ map sights_of l.entries
