use Rattle.std.proofs.Common.{◌≡◌, take}
use Rattle.std.specs.List.{AllZip}
use Rattle.th_explain_rows.specs.Inside.Passing.{IsNoChangeOr}
use Rattle.th_explain_rows.proofs.passing.others_found.Given as goal

abbrev pub invariant-loop-candidate : goal.invariant-loop-candidate
invariant-loop-candidate g l = record {
  found : AllZip (IsNoChangeOr l.fn.finder.misfit.case.now.network.now l.fn.finder.misfit.limit l.found.least) (take l.candidate-index l.candidates) l.found.all.items;
  misfit : l.finder.misfit ≡ l.fn.finder.misfit;
}
