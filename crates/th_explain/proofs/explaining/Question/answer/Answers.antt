use Rattle.std.proofs.Common.{ℕ, ap, sym, ◌∙◌}
use Rattle.th_explain.specs.Inside.Brackets.{is_explanation}
use Rattle.th_explain.proofs.ExplainLemmas.{explains_if, none_if}
use Rattle.th_explain.proofs.explaining.Question.answer.Goals as goal

pub returns-then-is_explanation : goal.returns-then-is_explanation
returns-then-is_explanation c =
    explains_if c.args.self.now.network.now c.args.self.now.limit c.args.self.now.number c.args.freed c.requires
    (ap (λ (reach : ℕ). is_explanation c.args.self.now.limit reach c.args.freed) (sym c.args.self.now.is_reach) ∙ sym c.is_explanation.ensures ∙ c.if-is_explanation.true)

pub returns-else-is_explanation : goal.returns-else-is_explanation
returns-else-is_explanation c =
    none_if c.args.self.now.network.now c.args.self.now.limit c.args.self.now.number c.args.freed c.requires
    (ap (λ (reach : ℕ). is_explanation c.args.self.now.limit reach c.args.freed) (sym c.args.self.now.is_reach) ∙ sym c.is_explanation.ensures ∙ c.if-is_explanation.false)
