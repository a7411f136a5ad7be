use Rattle.std.proofs.Common.{◌≡◌, [], fold, take}
use Rattle.th_names.specs.Nears.{keep}
use Rattle.th_names.proofs.nears.nearest.Given as goal

abbrev pub invariant-loop-near : goal.invariant-loop-near
invariant-loop-near l = l.kept.items ≡ fold keep [] (take l.near-index l.nears)
