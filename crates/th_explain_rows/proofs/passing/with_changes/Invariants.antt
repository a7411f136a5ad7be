use Rattle.std.proofs.Common.{◌≡◌, take}
use Rattle.std.specs.List.{AllZip}
use Rattle.th_explain_rows.specs.Inside.Growing.{IsNoMore}
use Rattle.th_explain_rows.specs.Inside.Passing.{IsFinding}
use Rattle.th_explain_rows.proofs.passing.with_changes.Given as goal

abbrev pub invariant-loop-k : goal.invariant-loop-k
invariant-loop-k g l = record {
  found : AllZip (IsFinding l.fn.finder.misfit.case.now.network.now l.fn.finder.misfit.limit l.found.least) (take l.k l.candidates) l.found.all.items;
  less : IsNoMore l.found.least l.others.least;
  misfit : l.finder.misfit ≡ l.fn.finder.misfit;
}
