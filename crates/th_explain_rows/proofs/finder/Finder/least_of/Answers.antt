use Rattle.std.proofs.Common.{◌∙◌, subst}
use Rattle.th_changes.specs.declared.cases.Case.{Case}
use Rattle.th_explain.specs.Explained.{IsLeastInReach}
use Rattle.th_explain.proofs.PushLemmas.{pushed}
use Rattle.th_explain_rows.specs.Inside.Passing.{IsMostOf}
use Rattle.th_explain_rows.specs.declared.finder.Misfit.{Misfit}
use Rattle.th_explain_rows.specs.declared.finder.Whole.{Whole}
use Rattle.th_explain_rows.proofs.PassLemmas.{most_of}
use Rattle.th_explain_rows.proofs.finder.Finder.least_of.Goals as goal

pub invariant_of-self-2 : goal.invariant_of-self-2
invariant_of-self-2 c =
    let misfit : Misfit = c.args.self.now.misfit in
    let survey = misfit.case.now.network.now in
    let whole = c.args.whole.now in
    let left = c.in_ok-left.left in
    let least = subst (λ (own : Case). IsLeastInReach own.network.now whole left) (c.args.self.now.mending.same ∙ c.args.self.now.same) c.in_ok-left.ensures.least in
    record {
      same = c.args.self.now.same;
      most = pushed (λ (own : Whole). IsMostOf survey own.number own.left) c.args.self.now.wholes.items c.push.new.self.items (record { number = whole; left = left }) _ c.push.ensures.items c.args.self.now.most (most_of survey misfit.limit whole left least);
    }
