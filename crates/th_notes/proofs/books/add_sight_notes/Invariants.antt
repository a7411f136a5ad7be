use Rattle.std.proofs.Common.{◌≡◌, ◌++◌, drop}
use Rattle.th_notes.specs.Findings.{sight_notes}
use Rattle.th_notes.proofs.books.add_sight_notes.Given as goal

abbrev pub invariant-loop-review : goal.invariant-loop-review
invariant-loop-review l = l.notes.items ++ sight_notes (drop l.review-index l.reviews) ≡ l.fn.notes.items ++ sight_notes l.reviews
