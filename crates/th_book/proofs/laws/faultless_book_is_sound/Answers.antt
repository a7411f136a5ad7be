use Rattle.th_book.proofs.Soundness.{line_sound}
use Rattle.th_book.proofs.laws.faultless_book_is_sound.Goals as goal

pub returns : goal.returns
returns c = λ parsed place none within. line_sound parsed place none within
