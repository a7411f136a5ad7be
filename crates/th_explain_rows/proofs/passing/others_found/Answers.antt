use Rattle.std.proofs.Common.{◌∙◌, ◌+◌, ◌++◌, [], ◌∷◌, List, refl, subst, take}
use Rattle.th_reliability.proofs.ZipLemmas.{zip_next}
use Rattle.th_explain_rows.specs.Inside.Passing.{IsNoChangeOr}
use Rattle.th_explain_rows.specs.declared.finder.Finding.{Finding}
use Rattle.th_explain_rows.specs.declared.finder.Misfit.{Misfit}
use Rattle.th_explain_rows.specs.declared.growing.Findings.{Findings}
use Rattle.th_explain_rows.proofs.GrowLemmas.{all_grown, other_lowered}
use Rattle.th_explain_rows.proofs.passing.others_found.Goals as goal

pub loop-candidate-preserved : goal.loop-candidate-preserved
loop-candidate-preserved g c =
    let misfit : Misfit = c.args.finder.now.misfit in
    let survey = misfit.case.now.network.now in
    let limit = misfit.limit in
    let candidates = c.args.candidates.now in
    let k = c.loop-candidate.candidate-index in
    let own = c.in_ok-own.own in
    let before : Findings = c.loop-candidate.found in
    let after : Findings = c.add.new.self in
    let longer : List Finding = before.all.items ++ own ∷ [] in
    record {
      found = all_grown (IsNoChangeOr survey limit) before.least after.least (other_lowered survey limit before.least after.least) (take (k + 1) candidates) longer after.all.items c.in_ok-add.ensures
          (zip_next (IsNoChangeOr survey limit before.least) candidates before.all.items longer k c.candidate-item.result own c.loop-candidate-test.true c.candidate-item.is refl c.loop-candidate.invariant.found
          (subst (λ (own_misfit : Misfit). IsNoChangeOr own_misfit.case.now.network.now own_misfit.limit before.least c.candidate-item.result own) c.loop-candidate.invariant.misfit c.in_ok-own.ensures.found));
      misfit = c.in_ok-own.ensures.misfit ∙ c.loop-candidate.invariant.misfit;
    }
