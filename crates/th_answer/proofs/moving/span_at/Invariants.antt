use Rattle.std.proofs.Common.{◌≡◌, take}
use Rattle.th_answer.specs.Inside.Moving.{heights_in}
use Rattle.th_answer.specs.Moved.{span_of}
use Rattle.th_answer.proofs.moving.span_at.Given as goal

abbrev pub invariant-loop-own : goal.invariant-loop-own
invariant-loop-own l = l.span ≡ span_of (heights_in (take l.own-index l.corrected) l.place)
