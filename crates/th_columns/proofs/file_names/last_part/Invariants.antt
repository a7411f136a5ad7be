use Rattle.std.proofs.Common.{◌≡◌, ◌≤◌, drop, take}
use Rattle.th_columns.specs.FileNames.{last_part}
use Rattle.th_columns.proofs.file_names.last_part.Given as goal

abbrev pub invariant-loop-index : goal.invariant-loop-index
invariant-loop-index l = (l.start ≤ l.index) × (drop l.start (take l.index l.fn.name) ≡ last_part (take l.index l.fn.name))
