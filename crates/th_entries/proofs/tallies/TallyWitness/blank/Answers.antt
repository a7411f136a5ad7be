use Rattle.th_entries.proofs.Tallying.{blank-next}
use Rattle.th_entries.proofs.tallies.TallyWitness.blank.Goals as goal

pub returns : goal.returns
returns c = λ names number parsed place is seen kept.
    let was = seen kept in
    blank-next names number parsed place c.args.self.now c.line.new.self c.blank.new.self is c.line.ensures (c.blank.ensures tt number parsed place is was.watch) was
