use Rattle.std.proofs.Common.{ap, ◌∙◌}
use Rattle.th_observations.specs.Observed.{Observed}
use Rattle.th_reliability.specs.declared.sights.Sights.{Sights}
use Rattle.th_numbers.specs.Candidates.{sights_since}
use Rattle.th_numbers.specs.Lists.{is_part_of}
use Rattle.th_numbers.proofs.entered.is_part.Goals as goal

pub returns : goal.returns
returns c =
    let observations = c.args.runs.now.observations.now in
    let since = sights_since c.args.entry.now in
    c.is_part_of.ensures
    ∙ ap (λ (part : Sights). is_part_of observations part c.sights_of-whole.result) (c.sights_since-since.ensures ∙ ap (λ (o : Observed). since o.line) c.o.view_is)
    ∙ ap (is_part_of observations (since c.args.o.now.line)) c.sights_of-whole.ensures
