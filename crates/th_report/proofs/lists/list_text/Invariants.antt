use Rattle.std.proofs.Common.{◌≡◌, ◌++◌, ◌+◌, drop}
use Rattle.th_report.specs.Lists.{list_text}
use Rattle.th_report.proofs.ListLemmas.{rows_from}
use Rattle.th_report.proofs.lists.list_text.Given as goal

abbrev pub invariant-loop-place : goal.invariant-loop-place
invariant-loop-place l = l.rows.text ++ rows_from (l.place + 1) (drop l.place l.observations) ≡ list_text l.observations
