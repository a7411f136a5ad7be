use Rattle.th_circulation.proofs.AnswerLemmas.{are_best}
use Rattle.th_circulation.proofs.best.spanned.Goals as goal

pub returns : goal.returns
returns c =
    let settled = c.args.settled in
    let spans = c.in_ok-spans in
    are_best c.args.network.now settled.heights.items spans.spans.low.items spans.spans.high.items settled.flows.items
    c.circulation_shows_least.ensures c.requires spans.ensures
