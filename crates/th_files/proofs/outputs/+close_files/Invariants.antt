use Rattle.std.proofs.Common.{length}
use Rattle.std.specs.Vec.Iter.{into_iter_items}
use Rattle.th_files.proofs.outputs.+close_files.Given as goal

abbrev pub decreases-close_files : goal.decreases-close_files
decreases-close_files g l = length (into_iter_items l.rest)
