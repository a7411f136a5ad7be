use Rattle.std.proofs.Common.{◌≡◌, ◌∙◌, ℤ, FitsSigned, of_z, refl, rules, subst, sym, to_z, w64, arith}
use Rattle.std.proofs.lemmas.Int.{to_z-of_z}
use Rattle.th_explain.specs.Mended.{LeavesBlunders}
use Rattle.th_changes.specs.declared.cases.Case.{Case}
use Rattle.th_changes.specs.declared.numbers.Number.{Number}
use Rattle.th_changes.proofs.TiltLemmas.{reach_small}
use Rattle.th_network.specs.Networks.{at_points_of}
use Rattle.th_numbers.specs.Candidates.{number_of}
use Rattle.th_explain_rows.specs.Rows.{IsRow, mildest_change}
use Rattle.th_explain_rows.specs.declared.rows.Filter.{Filter}
use Rattle.th_explain_rows.proofs.rows.row_if_passed.Goals as goal

pub row_of-requires-clause-low : goal.row_of-requires-clause-low
row_of-requires-clause-low c = omega (arith, c.requires.explains.low_in_reach, reach_small (number_of c.args.candidate.now) c.args.mending.now.case.now.network.now.observations)

pub row_of-requires-clause-high : goal.row_of-requires-clause-high
row_of-requires-clause-high c = omega (arith, c.requires.explains.high_in_reach, reach_small (number_of c.args.candidate.now) c.args.mending.now.case.now.network.now.observations)

pub row_of-requires-clause-less : goal.row_of-requires-clause-less
row_of-requires-clause-less c =
    let case : Case = c.args.mending.now.case.now in
    let less = c.mistake_explains.ensures.unchanged case.network.now (number_of c.args.candidate.now) (at_points_of case.network.now case.best.now.low) c.args.freed.now.left c.requires.explains.exact.left case.keep in
    omega (arith, less, case.least)

pub returns-clause-row : goal.returns-clause-row
returns-clause-row c =
    let case : Case = c.args.mending.now.case.now in
    let survey = case.network.now in
    let candidate = c.args.candidate.now in
    let filter : Filter = c.args.filter in
    let limit : ℤ = filter.limit in
    let fits : FitsSigned w64 c.mildest_change-change.result = search rules in
    let mildest : to_z w64 (of_z w64 c.mildest_change-change.result) ≡ mildest_change c.args.freed.now = to_z-of_z w64 c.mildest_change-change.result fits ∙ c.mildest_change-change.ensures in
    let small : FitsSigned w64 limit = search rules in
    let count = c.in_ok-blunders.blunders in
    subst (IsRow survey case.cost filter candidate) (sym c.row_of.ensures) (record {
      freed = c.args.freed.now;
      passes = c.requires;
      blunders = subst (λ (number : Number). LeavesBlunders survey number (mildest_change c.args.freed.now) limit count) c.number-number.ensures
          (subst (λ (change : ℤ). LeavesBlunders survey c.number-number.result change limit count) mildest
          (subst (λ (limit : ℤ). LeavesBlunders survey c.number-number.result (to_z w64 (of_z w64 c.mildest_change-change.result)) limit count) (to_z-of_z w64 limit small) c.in_ok-blunders.ensures.left));
      printed = refl;
    })
