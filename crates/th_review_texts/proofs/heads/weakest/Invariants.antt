use Rattle.std.proofs.Common.{◌≡◌, None, fold, take}
use Rattle.th_review_texts.specs.Heads.{lesser}
use Rattle.th_review_texts.proofs.heads.weakest.Given as goal

abbrev pub invariant-loop-row : goal.invariant-loop-row
invariant-loop-row l = l.least ≡ fold (λ least row. lesser least row.strength) None (take l.row-index l.points)
