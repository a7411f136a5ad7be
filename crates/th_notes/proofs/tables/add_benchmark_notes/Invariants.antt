use Rattle.std.proofs.Common.{◌≡◌, ◌+◌, ◌++◌, List, drop}
use Rattle.std.specs.List.{enumerate_from, filter_map}
use Rattle.th_entries.specs.Listed.{IsListed}
use Rattle.th_notes.specs.Findings.{benchmark_note}
use Rattle.th_notes.specs.declared.notes.Note.{Note}
use Rattle.th_notes.proofs.tables.add_benchmark_notes.Given as goal

abbrev pub invariant-loop-k : goal.invariant-loop-k
invariant-loop-k l =
    (so_far : List Note) × IsListed so_far l.found
    × (so_far ++ filter_map (benchmark_note l.observations) (enumerate_from (l.k + 2) (drop l.k l.benchmarks)) ≡ filter_map (benchmark_note l.observations) (enumerate_from 2 l.benchmarks))
