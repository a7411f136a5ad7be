use Rattle.std.proofs.Common.{◌∙◌, subst, sym, arith}
use Rattle.std.proofs.lemmas.Slice.Zip.{AllZip-long}
use Rattle.std.specs.List.{AllZip}
use Rattle.th_reliability.proofs.ZipLemmas.{zip_next}
use Rattle.th_explain_rows.specs.Inside.Passing.{IsFinding, IsMore, IsPassedOr}
use Rattle.th_explain_rows.specs.declared.finder.Misfit.{Misfit}
use Rattle.th_explain_rows.proofs.PassLemmas.{zip_at, zip_taken}
use Rattle.th_explain_rows.proofs.passing.passed_with_ties.Goals as goal

pub bounds-findings-k : goal.bounds-findings-k
bounds-findings-k g c = omega (arith, AllZip-long _ _ _ c.requires, c.loop-k-test.true)

pub passed_again-requires : goal.passed_again-requires
passed_again-requires g c =
    let found = c.args.found.now in
    let misfit : Misfit = c.loop-k.finder.misfit in
    zip_at (IsFinding misfit.case.now.network.now misfit.limit found.least) found.candidates.now found.findings.now c.loop-k.k c.index-candidates-k.result _
    (subst (λ (own : Misfit). AllZip (IsFinding own.case.now.network.now own.limit found.least) found.candidates.now found.findings.now) (sym c.loop-k.invariant.misfit) c.requires)
    c.loop-k-test.true c.index-candidates-k.is

pub loop-k-preserved : goal.loop-k-preserved
loop-k-preserved g c =
    let found = c.args.found.now in
    let misfit : Misfit = c.args.finder.now.misfit in
    record {
      first = zip_next (IsPassedOr misfit.case.now.network.now misfit.limit (IsMore found.least)) found.candidates.now c.loop-k.first.items c.add_freed.new.freed.items c.loop-k.k c.index-candidates-k.result c.in_ok-own.own
          c.loop-k-test.true c.index-candidates-k.is c.in_ok-add_freed.ensures c.loop-k.invariant.first
          (subst (λ (own : Misfit). IsPassedOr own.case.now.network.now own.limit (IsMore found.least) c.index-candidates-k.result c.in_ok-own.own) c.loop-k.invariant.misfit c.in_ok-own.ensures.found);
      misfit = c.in_ok-own.ensures.misfit ∙ c.loop-k.invariant.misfit;
    }

pub returns-then-count-ge-MOST_ROWS-clause-first : goal.returns-then-count-ge-MOST_ROWS-clause-first
returns-then-count-ge-MOST_ROWS-clause-first g c =
    let found = c.args.found.now in
    let misfit : Misfit = c.args.finder.now.misfit in
    zip_taken (IsPassedOr misfit.case.now.network.now misfit.limit (IsMore found.least)) c.loop-k.k found.candidates.now c.loop-k.first.items c.loop-k.invariant.first

pub returns-clause-first : goal.returns-clause-first
returns-clause-first g c =
    let found = c.args.found.now in
    let misfit : Misfit = c.args.finder.now.misfit in
    zip_taken (IsPassedOr misfit.case.now.network.now misfit.limit (IsMore found.least)) c.loop-k.k found.candidates.now c.loop-k.first.items c.loop-k.invariant.first
