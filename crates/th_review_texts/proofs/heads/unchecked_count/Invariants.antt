use Rattle.std.proofs.Common.{◌≡◌, ◌≤◌, take}
use Rattle.std.specs.List.{count_by}
use Rattle.th_review_texts.specs.Heads.{is_unchecked}
use Rattle.th_review_texts.proofs.heads.unchecked_count.Given as goal

abbrev pub invariant-loop-row : goal.invariant-loop-row
invariant-loop-row l = record {
  count : l.count ≡ count_by (λ row. is_unchecked row.mistake) (take l.row-index l.observations);
  few : l.count ≤ l.row-index;
}
