use Rattle.std.proofs.Common.{sym}
use Rattle.th_reliability.specs.Sights.{in_sights}
use Rattle.th_numbers.proofs.CountLemmas.{counted_between}
use Rattle.th_numbers.proofs.candidates.count_in.Goals as goal

pub returns-in-Some : goal.returns-in-Some
returns-in-Some c =
    let run = c.in-Some.ensures in
    sym (counted_between (in_sights c.args.sights.now) c.args.runs.now.observations.now c.in-Some.start c.in-Some.end run.all.ordered run.all.within run.all.below run.all.above run.alone)
