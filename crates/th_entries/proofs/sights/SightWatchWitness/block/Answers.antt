use Rattle.std.proofs.Common.{map, rules, subst, sym}
use Rattle.gsi_word.specs.Words.{parts_of}
use Rattle.th_entries.specs.Inside.Watches.{IsWatched}
use Rattle.th_entries.proofs.WatchLemmas.{unsighted-block}
use Rattle.th_entries.proofs.sights.SightWatchWitness.block.Goals as goal

pub returns-else-is_some : goal.returns-else-is_some
returns-else-is_some c = λ start number parsed place is was.
    subst (IsWatched parsed _) (sym c.unsighted.ensures)
    (unsighted-block parsed place c.args.self.now c.args.arg2.now c.args.entered.now (map parts_of c.args.words.now) c.faultless_book_is_sound.ensures is (search rules) c.if-self.false was)
