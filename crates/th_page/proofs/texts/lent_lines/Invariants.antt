use Rattle.std.proofs.Common.{◌≡◌, ◌≤◌, ◌++◌, drop, map, slice_range}
use Rattle.th_page.specs.Shown.{lines_behind, lines_in}
use Rattle.th_page.proofs.texts.lent_lines.Given as goal

abbrev pub invariant-loop-place : goal.invariant-loop-place
invariant-loop-place l = record {
  start : l.start ≤ l.place;
  lines : map (λ line. line.now) l.lines.items ++ lines_behind (slice_range l.text l.start l.place) (drop l.place l.text) ≡ lines_in l.text;
}
