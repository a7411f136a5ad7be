use Rattle.th_entries.proofs.WatchLemmas.{blank-watched}
use Rattle.th_entries.proofs.sights.SightWatchWitness.blank.Goals as goal

pub returns : goal.returns
returns c = λ start number parsed place is was. blank-watched parsed place c.args.self.now is was
