use Rattle.std.proofs.Common.{◌≡◌, ◌<◌, ◌^◌, All, take}
use Rattle.th_remarks.specs.Outliers.{sizes_of, weighed}
use Rattle.th_remarks.proofs.outlying.sizes_of.Given as goal

abbrev pub invariant-loop-i : goal.invariant-loop-i
invariant-loop-i l = record {
  sizes : l.sizes.items ≡ sizes_of (take l.i (weighed l.network l.residuals));
  short : All (λ size. size < 2 ^ 96) l.sizes.items;
  positive : All (λ size. 0 < size) l.sizes.items;
}
