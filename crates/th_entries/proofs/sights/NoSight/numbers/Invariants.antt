use Rattle.std.proofs.Common.{◌≡◌, ◌≤◌, length, take}
use Rattle.th_entries.specs.Sights.{numbers_in}
use Rattle.th_entries.specs.Words.{measured}
use Rattle.th_entries.proofs.sights.NoSight.numbers.Given as goal

abbrev pub invariant-loop-place : goal.invariant-loop-place
invariant-loop-place l = record {
  chosen : l.numbers.items ≡ numbers_in (take l.place l.self.words) measured;
  few : length l.numbers.items ≤ l.place;
}
