use Rattle.std.proofs.Common.{ap, ◌∙◌}
use Rattle.th_mend.specs.NewWords.{info_of}
use Rattle.th_conversions.proofs.HeightWordLemmas.{written_has_spelling}
use Rattle.th_conversions.proofs.height_words.Written.word.Goals as goal

pub unreachable-requires : goal.unreachable-requires
unreachable-requires c =
    let info = c.info_of.ensures.value ∙ ap (λ own. info_of own.unit) c.self.view_is in
    c.in-None.ensures (written_has_spelling c.args.width c.args.index c.args.self.now _ _ _ c.requires info c.is_negative.ensures c.digits.ensures)
