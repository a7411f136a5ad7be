use Rattle.std.proofs.Common.{◌≡◌, ◌++◌, drop}
use Rattle.std.specs.List.{flat_map}
use Rattle.th_picture.specs.Legends.{sample_of}
use Rattle.th_picture.proofs.legends.write_samples.Given as goal

abbrev pub invariant-loop-group : goal.invariant-loop-group
invariant-loop-group l = l.page ++ flat_map (sample_of l.sights l.firsts) (drop l.group-index l.groups) ≡ l.fn.page ++ flat_map (sample_of l.sights l.firsts) l.groups
