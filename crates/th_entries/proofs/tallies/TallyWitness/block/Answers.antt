use Rattle.std.proofs.Common.{◌≡◌, ◌∙◌, ap, map, None, rules}
use Rattle.gsi_word.specs.Words.{parts_of}
use Rattle.th_entries.specs.Inside.Counts.{with_block}
use Rattle.th_entries.proofs.Tallying.{block-next}
use Rattle.th_entries.proofs.tallies.TallyWitness.block.Goals as goal

pub returns-in_default : goal.returns-in_default
returns-in_default c = λ names number parsed place is seen kept.
    let before : c.args.self.now.failed ≡ None = search rules in
    let was = seen before in
    block-next names number parsed place c.args.self.now c.take.new.self _ c.block-2.new.self c.args.running.now c.args.entered.now (map parts_of c.args.words.now) c.faultless_book_is_sound.ensures is
    (c.block.ensures ∙ ap (with_block c.args.entered.now) c.line.ensures) (c.block-2.ensures tt number parsed place is was.watch) c.in_default.ensures was
