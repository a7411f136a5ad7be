use Rattle.th_book.proofs.Seeing.{faultless_first, faultless_lines}
use Rattle.th_book.proofs.laws.answered_book_is_faultless.Goals as goal

pub returns-clause-faultless : goal.returns-clause-faultless
returns-clause-faultless c = faultless_first

pub returns-clause-short : goal.returns-clause-short
returns-clause-short c = faultless_lines
