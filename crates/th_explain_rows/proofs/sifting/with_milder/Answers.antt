use Rattle.std.proofs.Common.{◌∙◌, ◌<◌, ℕ, ℤ, List, Option, Some, get_or, length, subst, sym, arith}
use Rattle.std.proofs.lemmas.List.{take_all}
use Rattle.std.proofs.lemmas.List.FromFn.{length-enumerate_from}
use Rattle.std.proofs.lemmas.Slice.Zip.{AllZip-long}
use Rattle.std.specs.List.{AllZip, enumerate_from}
use Rattle.th_reliability.proofs.ZipLemmas.{zip_next}
use Rattle.th_numbers.specs.declared.candidates.Candidate.{Candidate}
use Rattle.th_explain_rows.specs.Rows.{half_of, sifting}
use Rattle.th_explain_rows.specs.Inside.Passing.{IsMildIf, IsPassedOrBehind}
use Rattle.th_explain_rows.specs.Inside.Sifting.{IsKnownOrMilder, IsSiftedOrBehind}
use Rattle.th_explain_rows.specs.declared.finder.Misfit.{Misfit}
use Rattle.th_explain_rows.specs.declared.sifting.Earlier.{Earlier}
use Rattle.th_explain_rows.specs.declared.sifting.Known.{Known}
use Rattle.th_explain_rows.proofs.PassLemmas.{numbered, zip_at}
use Rattle.th_explain_rows.proofs.SiftLemmas.{sifted_or}
use Rattle.th_explain_rows.proofs.sifting.with_milder.Goals as goal

pub index-requires : goal.index-requires
index-requires g c =
    let long = AllZip-long _ _ _ c.requires.found in
    let all = length-enumerate_from 0 c.args.known.now.candidates.now in
    omega (arith, long, all, c.loop-place-test.true)

pub index-requires-in-loop-place : goal.index-requires-in-loop-place
index-requires-in-loop-place g c =
    let long = AllZip-long _ _ _ c.requires.mild in
    let all = length-enumerate_from 0 c.args.known.now.candidates.now in
    omega (arith, long, all, c.loop-place-test.true)

pub loop-place-preserved : goal.loop-place-preserved
loop-place-preserved g c =
    let misfit : Misfit = c.args.finder.now.misfit in
    let survey = misfit.case.now.network.now in
    let limit : ℤ = misfit.limit in
    let known : Known = c.args.known.now in
    let candidates = known.candidates.now in
    let place : ℕ = c.loop-place.place in
    let earlier : Earlier = record { freed = c.index.result.now; is_mild = c.index-in-loop-place.result.now } in
    let here = numbered candidates place c.index-known-place.result c.loop-place-test.true c.index-known-place.is in
    let within : place < length (enumerate_from 0 candidates) = omega (arith, c.loop-place-test.true, length-enumerate_from 0 candidates) in
    record {
      freed = zip_next (IsSiftedOrBehind survey (sifting limit (Some known.best)) known.found.now.cutoff) (enumerate_from 0 candidates) c.loop-place.freed.items c.add_freed.new.freed.items place (place, c.index-known-place.result) c.in_ok-own.own
          within here c.in_ok-add_freed.ensures c.loop-place.invariant.freed
          (sifted_or survey limit known.found.now.cutoff place c.index-known-place.result known.best c.sought-sought.result.least earlier c.in_ok-own.own c.sought-sought.ensures.least
          (subst (IsPassedOrBehind survey limit known.found.now.cutoff (place, c.index-known-place.result)) (sym c.index.ensures)
          (zip_at (IsPassedOrBehind survey limit known.found.now.cutoff) (enumerate_from 0 candidates) known.found.now.freed.items place (place, c.index-known-place.result) earlier.freed c.requires.found within here))
          (subst (IsMildIf survey limit known.found.now.cutoff (place, c.index-known-place.result)) (sym c.index-in-loop-place.ensures)
          (zip_at (IsMildIf survey limit known.found.now.cutoff) (enumerate_from 0 candidates) known.found.now.mild.items place (place, c.index-known-place.result) earlier.is_mild c.requires.mild within here))
          (subst (λ (candidate : Candidate). IsKnownOrMilder survey (half_of limit) known.best c.sought-sought.result.least candidate earlier c.in_ok-own.own) (sym c.index-known-place.is)
          (subst (λ (own : Misfit). IsKnownOrMilder own.case.now.network.now own.limit known.best c.sought-sought.result.least (get_or candidates place c.index-known-place.result) earlier c.in_ok-own.own) c.loop-place.invariant.misfit
          (subst (λ (best : ℕ). IsKnownOrMilder c.loop-place.finder.misfit.case.now.network.now c.loop-place.finder.misfit.limit best c.sought-sought.result.least (get_or candidates place c.index-known-place.result) earlier c.in_ok-own.own) c.sought-sought.ensures.best c.in_ok-own.ensures.found))));
      misfit = c.in_ok-own.ensures.misfit ∙ c.loop-place.invariant.misfit;
    }

pub returns-clause-found : goal.returns-clause-found
returns-clause-found g c =
    let misfit : Misfit = c.args.finder.now.misfit in
    let known : Known = c.args.known.now in
    subst (λ (own : List (ℕ × Candidate)). AllZip (IsSiftedOrBehind misfit.case.now.network.now (sifting misfit.limit (Some known.best)) known.found.now.cutoff) own c.loop-place.freed.items)
    (take_all c.loop-place.place (enumerate_from 0 known.candidates.now) (omega (arith, c.loop-place-test.false, length-enumerate_from 0 known.candidates.now))) c.loop-place.invariant.freed
