use Rattle.std.proofs.Common.{◌<◌, IfSome}
use Rattle.std.specs.List.{zip}
use Rattle.th_remarks.specs.Outliers.{IsFarthest}
use Rattle.th_remarks.proofs.outlying.farthest.Given as goal

abbrev pub invariant-loop-i : goal.invariant-loop-i
invariant-loop-i l = record {
  found : IsFarthest l.limit (zip l.weights l.residuals) l.i l.found;
  before : IfSome l.found (λ place. place < l.i);
}
