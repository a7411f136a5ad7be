use Rattle.std.proofs.Common.{◌≡◌, drop}
use Rattle.std.specs.List.{list_any}
use Rattle.th_answer.specs.Inside.Moving.{is_moved_in}
use Rattle.th_answer.proofs.moving.is_one_moved.Given as goal

abbrev pub invariant-loop-own : goal.invariant-loop-own
invariant-loop-own l = list_any (is_moved_in l.limit l.from l.place) (drop l.own-index l.corrected) ≡ list_any (is_moved_in l.limit l.from l.place) l.corrected
