use Rattle.std.proofs.Common.{◌≡◌, take}
use Rattle.std.specs.List.{AllZip}
use Rattle.th_explain_rows.specs.Inside.Passing.{IsMore, IsPassedOr}
use Rattle.th_explain_rows.proofs.passing.passed_with_ties.Given as goal

abbrev pub invariant-loop-k : goal.invariant-loop-k
invariant-loop-k g l = record {
  first : AllZip (IsPassedOr l.fn.finder.misfit.case.now.network.now l.fn.finder.misfit.limit (IsMore l.found.least)) (take l.k l.candidates) l.first.items;
  misfit : l.finder.misfit ≡ l.fn.finder.misfit;
}
