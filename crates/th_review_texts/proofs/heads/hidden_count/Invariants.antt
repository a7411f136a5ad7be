use Rattle.std.proofs.Common.{◌≡◌, ◌≤◌, take}
use Rattle.std.specs.List.{count_by}
use Rattle.th_review_texts.specs.Heads.{is_hidden}
use Rattle.th_review_texts.proofs.heads.hidden_count.Given as goal

abbrev pub invariant-loop-row : goal.invariant-loop-row
invariant-loop-row l = record {
  count : l.count ≡ count_by (λ row. is_hidden row.mistake) (take l.row-index l.observations);
  few : l.count ≤ l.row-index;
}
