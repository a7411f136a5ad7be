use Rattle.std.proofs.Common.{◌≡◌, ◌%◌, ◌/◌, ◌++◌, ℕ, Vec, Global, decimal, drop, pos, ◌∙◌}
use Rattle.th_units.specs.Metres.{metre, metres}
use Rattle.th_explain_texts.specs.Costs.{cost_metres}
use Rattle.th_explain_texts.proofs.CostLemmas.{cost_parts, if_ok}
use Rattle.th_explain_texts.proofs.costs.cost_text.Goals as goal

pub returns : goal.returns
returns c =
    if_ok (λ (text : Vec ℕ Global). text.items ≡ decimal (c.args.cost / metre) ++ drop 1 (metres (pos (c.args.cost % metre)))) (λ (text : Vec ℕ Global). text.items ≡ cost_metres c.args.cost)
    c.joined.result (λ text same. same ∙ cost_parts c.args.cost) c.joined.ensures
