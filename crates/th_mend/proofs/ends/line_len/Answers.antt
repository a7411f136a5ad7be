use Rattle.std.proofs.Common.{◌∙◌, arith}
use Rattle.std.proofs.lemmas.List.Sums.{prefix_len-le-length}
use Rattle.gsi_block.specs.Lines.{is_in_line}
use Rattle.gsi_block.proofs.LineEnds.{line_len-found}
use Rattle.th_mend.proofs.ends.line_len.Goals as goal

pub returns-clause-place : goal.returns-clause-place
returns-clause-place c =
    c.unwrap_or.ensures ∙ line_len-found c.args.text.now c.memchr2.result c.memchr2.ensures

pub returns-clause-within : goal.returns-clause-within
returns-clause-within c =
    omega (arith, prefix_len-le-length is_in_line c.args.text.now, returns-clause-place c)
