use Rattle.std.proofs.Common.{FitsSigned, ℤ, ◌++◌, ap, codes, decimal, rules, w64, ◌∙◌}
use Rattle.std.proofs.lemmas.Int.{to_z-of_z}
use Rattle.th_columns.specs.Labels.{label_line, limit_line}
use Rattle.th_explain_texts.specs.Columns.{cost_line, cost_lines}
use Rattle.th_explain_texts.proofs.TextLemmas.{on_ok, three_parts}
use Rattle.th_explain_texts.proofs.columns.write_costs.Goals as goal

pub returns : goal.returns
unfolding cost_lines
returns c =
    let summary = c.args.summary.now in
    let fits : FitsSigned w64 summary.limit = search rules in
    on_ok _ _ c.write_count.result
    (three_parts c.args.page.now (cost_line summary.cost) (limit_line summary.limit) (label_line (codes "marked") (decimal summary.marked)) c.write_cost.new.page c.write_limit.new.page c.write_count.new.page c.in_ok-write_cost.ensures
    (c.in_ok-write_limit.ensures ∙ ap (λ (limit : ℤ). c.write_cost.new.page ++ limit_line limit) (to_z-of_z w64 summary.limit fits)))
    c.write_count.ensures
