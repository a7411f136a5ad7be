use Rattle.std.proofs.Common.{◌≡◌, ◌++◌, drop}
use Rattle.th_review_rows.specs.Entries.{entries_of}
use Rattle.th_review_rows.proofs.entries.entries_of.Given as goal

abbrev pub invariant-loop-review : goal.invariant-loop-review
invariant-loop-review l = l.entries.items ++ entries_of (drop l.review-index l.reviews) ≡ entries_of l.reviews
