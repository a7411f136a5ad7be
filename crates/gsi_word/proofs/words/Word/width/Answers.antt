use Rattle.std.proofs.Common.{arith}
use Rattle.gsi_word.proofs.WrittenWords.{Spells-spelling_of, sixteen}
use Rattle.gsi_word.specs.Words.{parts_of}
use Rattle.gsi_word.specs.declared.words.Width.TheVariants.{Eight, Sixteen}
use Rattle.gsi_word.proofs.words.Word.width.Goals as goal

pub returns-then-self-eq8-clause-spelled : goal.returns-then-self-eq8-clause-spelled
returns-then-self-eq8-clause-spelled c =
    let word = c.args.self.now in
    Spells-spelling_of (parts_of word) Eight (record { index = word.index_in_range; info_length = omega arith; info = word.info_allowed; body_length = omega arith; body = word.body_allowed })

pub returns-else-self-eq8-clause-spelled : goal.returns-else-self-eq8-clause-spelled
returns-else-self-eq8-clause-spelled c =
    let word = c.args.self.now in
    Spells-spelling_of (parts_of word) Sixteen (record { index = word.index_in_range; info_length = omega arith; info = word.info_allowed; body_length = sixteen _ word.body_long c.if-self-eq8.false; body = word.body_allowed })
