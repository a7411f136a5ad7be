use Rattle.std.proofs.Common.{◌≡◌, drop}
use Rattle.th_remarks.specs.Alike.{first_alike}
use Rattle.th_remarks.proofs.cases.first_alike.Given as goal

abbrev pub invariant-loop-earlier : goal.invariant-loop-earlier
invariant-loop-earlier l = first_alike (drop l.earlier-index l.names) l.name ≡ first_alike l.names l.name
