use Rattle.std.proofs.Common.{◌≤◌, ◌+◌, length}
use Rattle.th_mend.proofs.TextLemmas.{SoFar}
use Rattle.th_mend.proofs.books.mended_text.Given as goal

abbrev pub invariant-lines : goal.invariant-lines
invariant-lines l = record {
  so_far : SoFar l.edits l.bytes l.rest l.place l.text.items;
  few : l.place + length l.rest ≤ length l.bytes;
}

abbrev pub decreases-lines : goal.decreases-lines
decreases-lines l = length l.rest
