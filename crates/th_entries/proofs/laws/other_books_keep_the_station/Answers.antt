use Rattle.th_entries.proofs.StationLemmas.{station-before, station-behind}
use Rattle.th_entries.proofs.laws.other_books_keep_the_station.Goals as goal

pub returns-clause-before : goal.returns-clause-before
returns-clause-before c = station-before

pub returns-clause-behind : goal.returns-clause-behind
returns-clause-behind c = station-behind
