use Rattle.std.proofs.Common.{◌≡◌, ◌∙◌, ◌<◌, ℕ, ℤ, pos, List, [], Some, ap, get_or, length, min, subst, take, arith}
use Rattle.std.proofs.lemmas.List.{get_or_default, take_min}
use Rattle.std.proofs.lemmas.Option.{slice_get-get_or}
use Rattle.std.proofs.lemmas.Slice.Zip.{AllZip-long}
use Rattle.std.specs.List.{AllZip}
use Rattle.std.specs.Prelude.{slice_get}
use Rattle.th_changes.specs.declared.cases.Case.{Case}
use Rattle.th_numbers.specs.Ties.{IsTold}
use Rattle.th_reliability.proofs.ZipLemmas.{zip_next}
use Rattle.th_tables.specs.Rows.{BenchmarkRows}
use Rattle.th_answer.specs.Limits.{asked_benchmarks}
use Rattle.th_answer.specs.Others.{IsSaid}
use Rattle.th_answer.proofs.telling.others_of.Goals as goal

pub loop-place-preserved : goal.loop-place-preserved
loop-place-preserved c =
    let survey = c.args.sieve.now.case.now.network.now in
    let benchmarks : BenchmarkRows = survey.benchmarks in
    let place : ℕ = c.loop-place.place in
    let as_many = AllZip-long (IsTold survey) benchmarks c.in_ok-rows.rows.items c.in_ok-rows.ensures.rows in
    let within : place < length benchmarks = omega (arith, c.loop-place-test.true, c.min-count.ensures, c.len.ensures, as_many) in
    let none : List ℕ × ℤ = ([], pos 0) in
    let row : List ℕ × ℤ = get_or benchmarks place none in
    let says : IsSaid survey row c.in_ok-said.said =
    subst (λ (case : Case). slice_get case.network.now.benchmarks place ≡ Some row → IsSaid case.network.now row c.in_ok-said.said) c.loop-place.invariant.case (c.in_ok-said.ensures.said row) (slice_get-get_or benchmarks place none within) in
    record {
      said = zip_next (IsSaid survey) benchmarks c.loop-place.others.items c.push.new.self.items place row c.in_ok-said.said within (get_or_default benchmarks place none row within) c.in_ok-push.ensures.items c.loop-place.invariant.said says;
      case = c.in_ok-said.ensures.case ∙ c.loop-place.invariant.case;
    }

pub returns : goal.returns
returns c =
    let survey = c.args.sieve.now.case.now.network.now in
    let benchmarks : BenchmarkRows = survey.benchmarks in
    let as_many = AllZip-long (IsTold survey) benchmarks c.in_ok-rows.rows.items c.in_ok-rows.ensures.rows in
    let most : ℕ = asked_benchmarks (length survey.observations) in
    let asked : c.asked_benchmarks-most.result ≡ most = c.asked_benchmarks-most.ensures ∙ ap asked_benchmarks (ap length c.observations.ensures.observations) in
    let there : c.loop-place.place ≡ min most (length benchmarks) = omega (arith, c.loop-place-test.false, c.loop-place.auto.place-end, c.min-count.ensures, c.len.ensures, as_many, asked) in
    record {
      said = subst (λ (rows : BenchmarkRows). AllZip (IsSaid survey) rows c.loop-place.others.items) (ap (λ (n : ℕ). take n benchmarks) there ∙ take_min most benchmarks) c.loop-place.invariant.said;
      case = c.loop-place.invariant.case;
    }
