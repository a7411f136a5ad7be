use Rattle.th_book.proofs.FeedLemmas.{given_refused}
use Rattle.th_book.proofs.Seeing.{seen_refused}
use Rattle.th_book.proofs.feeds.give.Goals as goal

pub returns-in_default : goal.returns-in_default
returns-in_default g c =
    let refused = c.in-Err.ensures.answered.refused c.in_default.not-NoMemory in
    record {
      given = given_refused c.args.book.now c.read.new.self c.args.line.now c.in-Err.fault refused;
      seen = seen_refused g.W.Witness.has_seen c.args.book.now c.read.new.self c.args.line.now c.in-Err.fault c.args.witness.now c.read.new.witness refused;
      kind = tt;
      wanting = tt;
    }
