use Rattle.std.proofs.Common.{◌≡◌, ◌++◌, drop}
use Rattle.std.specs.List.{flat_map}
use Rattle.th_explain_texts.specs.Fitting.{number_lines}
use Rattle.th_explain_texts.proofs.sentences.write_each_given.Given as goal

abbrev pub invariant-loop-row : goal.invariant-loop-row
invariant-loop-row l = l.page ++ flat_map (number_lines l.several) (drop l.row-index l.rows) ≡ l.fn.page ++ flat_map (number_lines l.several) l.rows
