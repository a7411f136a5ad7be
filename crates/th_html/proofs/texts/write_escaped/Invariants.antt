use Rattle.std.proofs.Common.{◌≡◌, ◌++◌, length}
use Rattle.th_html.specs.Texts.{escaped_behind}
use Rattle.th_html.proofs.texts.write_escaped.Given as goal

abbrev pub invariant-loop-byte : goal.invariant-loop-byte
invariant-loop-byte l = l.page ++ escaped_behind l.skipped l.left ≡ l.fn.page ++ escaped_behind 0 l.text

abbrev pub decreases-loop-byte : goal.decreases-loop-byte
decreases-loop-byte l = length l.left
