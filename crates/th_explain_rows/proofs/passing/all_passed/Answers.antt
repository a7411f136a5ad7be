use Rattle.std.proofs.Common.{◌∙◌, Bool, List, None, subst, sym, arith}
use Rattle.std.proofs.lemmas.List.{take_all}
use Rattle.std.specs.List.{AllZip, enumerate_from}
use Rattle.th_explain.specs.Explained.{IsAtLeast}
use Rattle.th_numbers.specs.declared.candidates.Candidate.{Candidate}
use Rattle.th_reliability.proofs.ZipLemmas.{zip_next}
use Rattle.th_explain_rows.specs.Inside.Passing.{IsMildIf, IsPassedOr}
use Rattle.th_explain_rows.specs.declared.finder.Misfit.{Misfit}
use Rattle.th_explain_rows.proofs.PassLemmas.{none_mild, placed}
use Rattle.th_explain_rows.proofs.passing.all_passed.Goals as goal

pub loop-candidate-preserved : goal.loop-candidate-preserved
loop-candidate-preserved g c =
    let misfit : Misfit = c.args.finder.now.misfit in
    record {
      freed = zip_next (IsPassedOr misfit.case.now.network.now misfit.limit (IsAtLeast None)) c.args.candidates.now c.loop-candidate.freed.items c.add_freed.new.freed.items c.loop-candidate.candidate-index c.candidate-item.result c.in_ok-own.own
          c.loop-candidate-test.true c.candidate-item.is c.in_ok-add_freed.ensures c.loop-candidate.invariant.freed
          (subst (λ (own : Misfit). IsPassedOr own.case.now.network.now own.limit (IsAtLeast None) c.candidate-item.result c.in_ok-own.own) c.loop-candidate.invariant.misfit c.in_ok-own.ensures.found);
      misfit = c.in_ok-own.ensures.misfit ∙ c.loop-candidate.invariant.misfit;
    }

pub returns-clause-found : goal.returns-clause-found
returns-clause-found g c =
    let misfit : Misfit = c.args.finder.now.misfit in
    let survey = misfit.case.now.network.now in
    let candidates = c.args.candidates.now in
    placed survey misfit.limit None (IsAtLeast None) 0 candidates c.loop-candidate.freed.items (λ k left later none. none)
    (subst (λ (own : List Candidate). AllZip (IsPassedOr survey misfit.limit (IsAtLeast None)) own c.loop-candidate.freed.items) (take_all c.loop-candidate.candidate-index candidates (omega (arith, c.loop-candidate-test.false))) c.loop-candidate.invariant.freed)

pub returns-clause-mild : goal.returns-clause-mild
returns-clause-mild g c =
    let misfit : Misfit = c.args.finder.now.misfit in
    let survey = misfit.case.now.network.now in
    let candidates = c.args.candidates.now in
    subst (λ (mild : List Bool). AllZip (IsMildIf survey misfit.limit None) (enumerate_from 0 candidates) mild) (sym (c.in_ok-mild.ensures.items_if_clones_equal (λ y e. e)))
    (none_mild survey misfit.limit None 0 candidates)
