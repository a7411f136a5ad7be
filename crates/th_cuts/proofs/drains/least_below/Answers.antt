use Rattle.std.proofs.Common.{◌≡◌, Bool, Global, Option, Vec, subst, ◌∙◌}
use Rattle.std.specs.Prelude.{IfNone}
use Rattle.th_cuts.proofs.FillLemmas.{shown_all, shown_less}
use Rattle.th_cuts.proofs.drains.least_below.Goals as goal

pub returns-in-Some : goal.returns-in-Some
returns-in-Some c =
    let shown = shown_less c.fill.new.flow _ _ c.in-Some.side (c.in_ok-side.ensures.drain ∙ c.in_ok-flow.ensures) c.in-Some.is c.in_ok-side.ensures.less c.in_ok-side.ensures.side in
    record { least = shown.0; less = shown.1; side = shown.2; none = tt }

pub returns-clause-none : goal.returns-clause-none
returns-clause-none c = shown_all c.fill.new.flow _ (c.in_ok-side.ensures.drain ∙ c.in_ok-flow.ensures) (subst (λ (o : Option (Vec Bool Global)). IfNone o (c.fill.new.flow.value ≡ c.fill.new.flow.drain.most)) c.in-None.is c.in_ok-side.ensures.all)
