use Rattle.std.proofs.Common.{◌≡◌, None, take}
use Rattle.std.specs.List.{AllZip}
use Rattle.th_explain.specs.Explained.{IsAtLeast}
use Rattle.th_explain_rows.specs.Inside.Passing.{IsPassedOr}
use Rattle.th_explain_rows.proofs.passing.all_passed.Given as goal

abbrev pub invariant-loop-candidate : goal.invariant-loop-candidate
invariant-loop-candidate g l = record {
  freed : AllZip (IsPassedOr l.fn.finder.misfit.case.now.network.now l.fn.finder.misfit.limit (IsAtLeast None)) (take l.candidate-index l.candidates) l.freed.items;
  misfit : l.finder.misfit ≡ l.fn.finder.misfit;
}
