use Rattle.std.proofs.Common.{◌≡◌, ◌+◌, drop, map}
use Rattle.std.specs.List.{position_from}
use Rattle.th_notes.specs.Repeats.{are_same, first_same}
use Rattle.th_notes.proofs.repeats.first_same.Given as goal

abbrev pub invariant-loop-k : goal.invariant-loop-k
invariant-loop-k l =
    position_from (λ earlier. are_same earlier l.own) (l.k + 1) (map (λ book. book.items) (drop l.k l.books)) ≡ first_same (map (λ book. book.items) l.books) l.own
