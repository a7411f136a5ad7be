use Rattle.std.proofs.Common.{◌≡◌, ◌++◌, drop}
use Rattle.std.specs.List.{flat_map}
use Rattle.th_explain_texts.specs.Called.{or_called}
use Rattle.th_explain_texts.proofs.called.write_others.Given as goal

abbrev pub invariant-loop-row : goal.invariant-loop-row
invariant-loop-row l = l.page ++ flat_map (or_called l.several) (drop l.row-index l.rows) ≡ l.fn.page ++ flat_map (or_called l.several) l.rows
