use Rattle.std.proofs.Common.{◌∙◌, ◌+◌, ◌++◌, [], ◌∷◌, List, refl, subst, sym, take, arith}
use Rattle.std.proofs.lemmas.List.{take_all}
use Rattle.std.proofs.lemmas.Slice.Zip.{AllZip-long}
use Rattle.std.specs.List.{AllZip}
use Rattle.th_numbers.specs.declared.candidates.Candidate.{Candidate}
use Rattle.th_reliability.proofs.ZipLemmas.{zip_next}
use Rattle.th_explain_rows.specs.Inside.Growing.{lowered}
use Rattle.th_explain_rows.specs.Inside.Passing.{IsFinding, IsNoChangeOr}
use Rattle.th_explain_rows.specs.declared.finder.Finding.{Finding}
use Rattle.th_explain_rows.specs.declared.finder.Misfit.{Misfit}
use Rattle.th_explain_rows.specs.declared.growing.Findings.{Findings}
use Rattle.th_explain_rows.proofs.GrowLemmas.{all_grown, lowered_is, no_more_of, no_more_then, other_lowered}
use Rattle.th_explain_rows.proofs.PassLemmas.{zip_at}
use Rattle.th_explain_rows.proofs.passing.with_changes.Goals as goal

pub index-requires : goal.index-requires
index-requires g c = omega (arith, AllZip-long _ _ _ c.requires, c.loop-k-test.true)

pub with_change-requires : goal.with_change-requires
with_change-requires g c =
    let others : Findings = c.args.others in
    let found : Findings = c.loop-k.found in
    let misfit : Misfit = c.loop-k.finder.misfit in
    let survey = misfit.case.now.network.now in
    let candidate : Candidate = c.index-candidates-k.result in
    subst (IsNoChangeOr survey misfit.limit found.least candidate) (sym c.lowered-known.ensures)
    (subst (λ (own : Finding). IsNoChangeOr survey misfit.limit found.least candidate (lowered others.least found.least own)) (sym c.index.ensures)
    (other_lowered survey misfit.limit others.least found.least candidate _ c.loop-k.invariant.less
    (zip_at (IsNoChangeOr survey misfit.limit others.least) c.args.candidates.now others.all.items c.loop-k.k candidate _
    (subst (λ (own : Misfit). AllZip (IsNoChangeOr own.case.now.network.now own.limit others.least) c.args.candidates.now others.all.items) (sym c.loop-k.invariant.misfit) c.requires)
    c.loop-k-test.true c.index-candidates-k.is)))

pub loop-k-preserved : goal.loop-k-preserved
loop-k-preserved g c =
    let misfit : Misfit = c.args.finder.now.misfit in
    let survey = misfit.case.now.network.now in
    let limit = misfit.limit in
    let candidates = c.args.candidates.now in
    let k = c.loop-k.k in
    let own = c.in_ok-own.own in
    let before : Findings = c.loop-k.found in
    let after : Findings = c.add.new.self in
    let longer : List Finding = before.all.items ++ own ∷ [] in
    record {
      found = all_grown (IsFinding survey limit) before.least after.least (lowered_is survey limit before.least after.least) (take (k + 1) candidates) longer after.all.items c.in_ok-add.ensures
          (zip_next (IsFinding survey limit before.least) candidates before.all.items longer k c.index-candidates-k.result own c.loop-k-test.true c.index-candidates-k.is refl c.loop-k.invariant.found
          (subst (λ (own_misfit : Misfit). IsFinding own_misfit.case.now.network.now own_misfit.limit before.least c.index-candidates-k.result own) c.loop-k.invariant.misfit c.in_ok-own.ensures.found));
      less = no_more_then after.least before.least c.args.others.least (no_more_of before.least after.least longer after.all.items c.in_ok-add.ensures) c.loop-k.invariant.less;
      misfit = c.in_ok-own.ensures.misfit ∙ c.loop-k.invariant.misfit;
    }

pub returns-clause-found : goal.returns-clause-found
returns-clause-found g c =
    let misfit : Misfit = c.args.finder.now.misfit in
    let found : Findings = c.loop-k.found in
    subst (λ (own : List Candidate). AllZip (IsFinding misfit.case.now.network.now misfit.limit found.least) own found.all.items) (take_all c.loop-k.k c.args.candidates.now (omega (arith, c.loop-k-test.false))) c.loop-k.invariant.found
