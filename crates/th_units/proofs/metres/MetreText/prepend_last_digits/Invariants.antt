use Rattle.std.proofs.Common.{◌≡◌, ◌+◌, ◌-◌, ◌++◌, length}
use Rattle.th_units.specs.Metres.{last_digits}
use Rattle.th_units.proofs.metres.MetreText.prepend_last_digits.Given as goal

abbrev pub invariant-loop-place : goal.invariant-loop-place
invariant-loop-place l =
    record {
      written : last_digits (l.count - l._place) l.rest ++ l.self ≡ last_digits l.count l.number ++ l.initial.self;
      longer : length l.self ≡ length l.initial.self + l._place;
    }
