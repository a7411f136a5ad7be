use Rattle.std.proofs.Common.{arith}
use Rattle.std.proofs.lemmas.Bool.Decides.{nat_tests}
use Rattle.th_mend.proofs.TextLemmas.{all_lines}
use Rattle.th_mend.proofs.books.mended_text.Goals as goal

pub returns-clause-text : goal.returns-clause-text
returns-clause-text c =
    all_lines c.args.edits.now c.args.bytes.now c.lines.rest.now c.lines.place c.lines.text.items c.lines.invariant.so_far (grind (arith, nat_tests))
