use Rattle.std.proofs.Common.{◌∙◌}
use Rattle.th_cuts.proofs.FillLemmas.{shown_less}
use Rattle.th_cuts.proofs.drains.least_drain.Goals as goal

pub returns-in-Some : goal.returns-in-Some
returns-in-Some c =
    let shown = shown_less c.fill.new.flow _ _ c.in-Some.side (c.in_ok-side.ensures.drain ∙ c.in_ok-flow.ensures) c.in-Some.is c.in_ok-side.ensures.less c.in_ok-side.ensures.side in
    (shown.0, shown.1)
