use Rattle.std.proofs.Common.{◌++◌, take}
use Rattle.std.specs.Prelude.{is_some}
use Rattle.std.specs.List.{flat_map}
use Rattle.th_entries.specs.Listed.{IsListed}
use Rattle.th_tables.specs.Rows.{height_of}
use Rattle.th_notes.specs.Points.{end_note}
use Rattle.th_notes.specs.Uses.{all_ends, is_used_again}
use Rattle.th_notes.proofs.points.add_once_notes.Given as goal

abbrev pub invariant-loop-o : goal.invariant-loop-o
invariant-loop-o l =
    IsListed (flat_map (λ o.
    end_note (is_used_again (all_ends l.observations) o.station) (is_some (height_of l.benchmarks o.station)) o.book o.line o.station
    ++ end_note (is_used_again (all_ends l.observations) o.target) (is_some (height_of l.benchmarks o.target)) o.book o.line o.target) (take l.o-index l.observations)) l.found
