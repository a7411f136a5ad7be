use Rattle.std.proofs.Common.{take}
use Rattle.th_commands.specs.Plans.{files}
use Rattle.th_files.specs.Stops.{AreKept}
use Rattle.th_files.specs.Outputs.{spots_of}
use Rattle.th_files.proofs.overwrites.keep_all.Given as goal

abbrev pub invariant-loop-output : goal.invariant-loop-output
invariant-loop-output g l = AreKept g.F.Folder.tells (files l.inputs) (spots_of l.prefix (take l.output-index l.outputs))
