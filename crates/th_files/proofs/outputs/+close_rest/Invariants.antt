use Rattle.std.proofs.Common.{length}
use Rattle.std.specs.Vec.Iter.{into_iter_items}
use Rattle.th_files.proofs.outputs.+close_rest.Given as goal

abbrev pub decreases-close_rest : goal.decreases-close_rest
decreases-close_rest g l = length (into_iter_items l.rest)
