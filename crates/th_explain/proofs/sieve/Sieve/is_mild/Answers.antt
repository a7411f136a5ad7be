use Rattle.th_network.specs.Networks.{at_points_of}
use Rattle.th_changes.proofs.ReroutedLemmas.{costs_as_given}
use Rattle.th_explain.proofs.ExplainLemmas.{none_if_costly}
use Rattle.th_explain.proofs.sieve.Sieve.is_mild.Goals as goal

pub returns : goal.returns
returns c holds =
    let case = c.args.self.now.case.now in
    let survey = case.network.now in
    let number = c.args.asked.number in
    none_if_costly survey c.args.asked.limit number case.cost (costs_as_given survey number case.cost (at_points_of survey case.best.now.low) case.keep case.least)
    (c.are_costly_beyond.ensures holds survey number case.cost c.line_of.ensures c.line-given.ensures)
