use Rattle.std.proofs.Common.{◌≡◌, ◌∙◌, ◌≤◌, ℕ, ℤ, FitsSigned, List, Some, ap, of_z, sym, to_z, unsigned_abs, w64, arith}
use Rattle.std.proofs.lemmas.Int.{fits_signed_from_abs, to_z-of_z}
use Rattle.std.specs.Prelude.{slice_get}
use Rattle.th_limits.specs.Limits.{max_len}
use Rattle.th_tables.specs.Rows.{BenchmarkRows}
use Rattle.th_answer.specs.Others.{IsSaid}
use Rattle.th_answer.proofs.TellingLemmas.{low_there, said_there, told_by_name, told_there, weaker_ok}
use Rattle.th_answer.proofs.telling.said_of_row.Goals as goal

pub said-requires-clause-told : goal.said-requires-clause-told
said-requires-clause-told c =
    let survey = c.args.sieve.now.case.now.network.now in
    let place = c.args.place in
    let row = c.index-rows-place.result in
    let entry : List ℕ × ℤ = (c.in-Some.field-0-0, c.in-Some.given) in
    let is : slice_get survey.benchmarks place ≡ Some entry = ap (λ (rows : BenchmarkRows). slice_get rows place) (sym c.benchmarks.ensures) ∙ sym c.entry.ensures.value ∙ c.in-Some.is in
    told_by_name survey entry row (to_z w64 (of_z w64 c.in-Some.given)) (told_there survey survey.benchmarks c.args.rows.now place row entry c.requires.tied c.index-rows-place.is is c.requires.within)

pub said-requires-clause-given : goal.said-requires-clause-given
said-requires-clause-given c =
    let given : ℤ = c.in-Some.given in
    let low : unsigned_abs given ≤ max_len = low_there c.benchmarks.result.now c.args.place (c.in-Some.field-0-0, given) c.entry.ensures.benchmarks.heights (sym c.entry.ensures.value ∙ c.in-Some.is) in
    let fits : FitsSigned w64 given = fits_signed_from_abs w64 given (omega (arith, low)) in
    omega (arith, ap unsigned_abs (to_z-of_z w64 given fits), low)

pub returns-in-Some-clause-said : goal.returns-in-Some-clause-said
returns-in-Some-clause-said c =
    let survey = c.args.sieve.now.case.now.network.now in
    let place = c.args.place in
    let row = c.index-rows-place.result in
    let name : List ℕ = c.in-Some.field-0-0 in
    let given : ℤ = c.in-Some.given in
    let entry : List ℕ × ℤ = (name, given) in
    let is : slice_get survey.benchmarks place ≡ Some entry = ap (λ (rows : BenchmarkRows). slice_get rows place) (sym c.benchmarks.ensures) ∙ sym c.entry.ensures.value ∙ c.in-Some.is in
    let told = told_there survey survey.benchmarks c.args.rows.now place row entry c.requires.tied c.index-rows-place.is is c.requires.within in
    let low : unsigned_abs given ≤ max_len = low_there c.benchmarks.result.now place entry c.entry.ensures.benchmarks.heights (sym c.entry.ensures.value ∙ c.in-Some.is) in
    let fits : FitsSigned w64 given = fits_signed_from_abs w64 given (omega (arith, low)) in
    weaker_ok (IsSaid survey (row.name, to_z w64 (of_z w64 given))) (λ said. (other : List ℕ × ℤ) → slice_get survey.benchmarks place ≡ Some other → IsSaid survey other said) c.said.result
    (λ said says other there. said_there survey name given row (to_z w64 (of_z w64 given)) told (to_z-of_z w64 given fits) said says other (one entry other (sym is ∙ there)))
    c.said.ensures.said
  where
    one : (entry other : List ℕ × ℤ) → Some entry ≡ Some other → entry ≡ other
    one entry other same = cc
