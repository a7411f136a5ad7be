use Rattle.std.proofs.Common.{◌≡◌, fold, take}
use Rattle.th_explain_texts.specs.Sentences.{fewer}
use Rattle.th_explain_texts.proofs.sentences.fewest.Given as goal

abbrev pub invariant-loop-row : goal.invariant-loop-row
invariant-loop-row l = l.least ≡ fold fewer l.blunders (take l.row-index l.rows)
