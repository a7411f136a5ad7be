use Rattle.std.proofs.Common.{◌∙◌, ℤ, List, of_z, subst, to_z, w64}
use Rattle.std.proofs.lemmas.Int.{to_z-of_z}
use Rattle.std.proofs.lemmas.List.{take_all}
use Rattle.th_changes.specs.declared.cases.Case.{Case}
use Rattle.th_explain_texts.specs.declared.rows.Row.{Row}
use Rattle.th_answer.specs.Inside.Readjusted.{AreReadjusted, IsReadjustedOrNone}
use Rattle.th_answer.proofs.CorrectedLemmas.{next_row}
use Rattle.th_answer.proofs.correcting.all_readjusted.Goals as goal

pub loop-row-preserved : goal.loop-row-preserved
loop-row-preserved c =
    let entries = c.args.kinds.now.entries.now in
    let limit : ℤ = to_z w64 (of_z w64 c.args.limit) in
    let row : Row = c.row-item.result in
    record {
      listed = next_row c.args.mending.now.case.now.network.now entries limit c.args.rows.now c.loop-row.listed.items c.add_readjusted.new.listed.items c.loop-row.row-index row c.in_ok-own.own c.loop-row-test.true c.row-item.is
          c.in_ok-add_readjusted.ensures c.loop-row.invariant.listed
          (subst (λ (own : Case). IsReadjustedOrNone own.network.now entries limit row c.in_ok-own.own) c.loop-row.invariant.case c.in_ok-own.ensures.own);
      case = c.in_ok-own.ensures.case ∙ c.loop-row.invariant.case;
    }

pub returns-clause-listed : goal.returns-clause-listed
returns-clause-listed c =
    let survey = c.args.mending.now.case.now.network.now in
    let entries = c.args.kinds.now.entries.now in
    subst (λ (limit : ℤ). AreReadjusted survey entries limit c.args.rows.now c.loop-row.listed.items) (to_z-of_z w64 c.args.limit c.ranges.limit)
    (subst (λ (rows : List Row). AreReadjusted survey entries (to_z w64 (of_z w64 c.args.limit)) rows c.loop-row.listed.items) (take_all c.loop-row.row-index c.args.rows.now c.loop-row-test.false) c.loop-row.invariant.listed)
