use Rattle.std.proofs.Common.{◌≡◌, Some, take}
use Rattle.std.specs.List.{AllZip, enumerate_from}
use Rattle.th_explain_rows.specs.Rows.{half_of, sifting}
use Rattle.th_explain_rows.specs.Inside.Sifting.{IsSiftedOrBehind}
use Rattle.th_explain_rows.proofs.sifting.with_milder.Given as goal

abbrev pub invariant-loop-place : goal.invariant-loop-place
invariant-loop-place g l = record {
  freed : AllZip (IsSiftedOrBehind l.fn.finder.misfit.case.now.network.now (sifting l.fn.finder.misfit.limit (Some l.known.best)) l.known.found.now.cutoff) (take l.place (enumerate_from 0 l.known.candidates.now)) l.freed.items;
  misfit : l.finder.misfit ≡ record l.fn.finder.misfit { limit = half_of l.fn.finder.misfit.limit };
}
