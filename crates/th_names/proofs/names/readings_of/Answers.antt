use Rattle.std.proofs.Common.{◌≡◌, true, false, count_by, nat_le, ℕ, rules, subst, sym, ap, w64, ◌∙◌}
use Rattle.std.proofs.lemmas.Int.{to_z-of_z}
use Rattle.th_changes.specs.declared.cases.Case.{Case}
use Rattle.th_explain_texts.specs.Sentences.{is_first, most_named}
use Rattle.th_names.specs.Names.{AreOfRows, most_off}
use Rattle.th_names.proofs.RowLemmas.{few_rows, many_rows}
use Rattle.th_names.proofs.names.readings_of.Goals as goal

pub readings_of_rows-requires : goal.readings_of_rows-requires
readings_of_rows-requires c = ap (λ (case : Case). case.network.now) c.args.mending.now.same

pub returns-then-not-are_few-clause-readings : goal.returns-then-not-are_few-clause-readings
returns-then-not-are_few-clause-readings c =
    let survey = c.args.mending.now.case.now.network.now in
    let entries = c.args.kinds.now.entries.now in
    let rows = c.args.rows.now in
    let many : c.are_few.result ≡ false = search rules in
    many_rows survey entries (most_off c.args.limit) rows c.new.result.items (nat_le (count_by is_first rows) most_named) (sym c.are_few.ensures ∙ many) c.new.ensures.items

pub returns-clause-readings : goal.returns-clause-readings
returns-clause-readings c =
    let survey = c.args.mending.now.case.now.network.now in
    let entries = c.args.kinds.now.entries.now in
    let rows = c.args.rows.now in
    let few : c.are_few.result ≡ true = search rules in
    let limit : c.most_off.result ≡ most_off c.args.limit = c.most_off.ensures ∙ ap most_off (to_z-of_z w64 c.args.limit c.ranges.limit) in
    let readings = c.in_ok-readings.readings.items in
    few_rows survey entries (most_off c.args.limit) rows readings (nat_le (count_by is_first rows) most_named) (sym c.are_few.ensures ∙ few)
    (subst (λ (own : ℕ). AreOfRows survey entries own rows readings) limit c.in_ok-readings.ensures.readings)
