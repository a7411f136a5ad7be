use Rattle.th_network.specs.Networks.{at_points_of}
use Rattle.th_changes.proofs.ReroutedLemmas.{costs_as_given}
use Rattle.th_explain.proofs.ExplainLemmas.{none_if_costly, or_more}
use Rattle.th_explain.proofs.explaining.shown_by_kept.Goals as goal

pub returns-then-is_kept_costly_beyond-clause-shown : goal.returns-then-is_kept_costly_beyond-clause-shown
returns-then-is_kept_costly_beyond-clause-shown c holds =
    let number = c.args.number.now in
    let case = c.args.sieve.now.case.now in
    let survey = case.network.now in
    let costly = c.is_kept_costly_beyond.ensures.costly c.if-is_kept_costly_beyond.true in
    or_more survey c.args.limit c.args.least number
    (none_if_costly survey c.args.limit number case.cost (costs_as_given survey number case.cost (at_points_of survey case.best.now.low) case.keep case.least) costly)
