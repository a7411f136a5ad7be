use Rattle.th_explain.proofs.sieve.Sieve.search_costly.Goals as goal

pub returns-in-Some-clause-costly : goal.returns-in-Some-clause-costly
returns-in-Some-clause-costly c holds =
    let case = c.args.self.now.case.now in
    c.are_costly_beyond.ensures c.if-are_costly_beyond.true case.network.now c.args.number.now case.cost c.in-Some.ensures.line c.line-given.ensures
