use Rattle.std.proofs.Common.{◌≡◌, take}
use Rattle.th_files.specs.Opened.{AreMade}
use Rattle.th_files.specs.Outputs.{spots_of}
use Rattle.th_files.proofs.outputs.sinks_of.Given as goal

abbrev pub invariant-loop-output : goal.invariant-loop-output
invariant-loop-output g l =
    (l.folder ≡ l.fn.folder) × AreMade g.F.Out.Sink.state g.F.Folder.tells (g.F.Folder.failing l.fn.folder).writing (spots_of l.prefix (take l.output-index l.outputs)) l.sinks.items
