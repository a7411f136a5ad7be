use Rattle.std.proofs.Common.{arith, refl}
use Rattle.gsi_word.proofs.WrittenWords.{HasSpelling-parts}
use Rattle.gsi_word.specs.Words.{parts}
use Rattle.gsi_word.proofs.words.Word.new.Goals as goal

pub returns : goal.returns
returns c =
    let word = parts c.args.index c.args.info c.args.negative c.args.body.now in
    (HasSpelling-parts word (omega arith) (omega arith) (cc) (cc) (cc), refl)
