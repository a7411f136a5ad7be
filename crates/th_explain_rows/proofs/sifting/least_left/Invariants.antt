use Rattle.std.proofs.Common.{◌≡◌, None, fold, take}
use Rattle.th_explain_rows.specs.Inside.Sifting.{lesser}
use Rattle.th_explain_rows.proofs.sifting.least_left.Given as goal

abbrev pub invariant-loop-own : goal.invariant-loop-own
invariant-loop-own l = l.least ≡ fold lesser None (take l.own-index l.found)
