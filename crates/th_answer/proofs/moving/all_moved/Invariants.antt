use Rattle.std.proofs.Common.{◌≡◌, List, map, take}
use Rattle.std.specs.List.{AllZip}
use Rattle.th_network.specs.Networks.{at_points_of, points_of}
use Rattle.th_answer.specs.Corrected.{Corrected}
use Rattle.th_answer.specs.Inside.Readjusted.{IsListed}
use Rattle.th_answer.specs.Moved.{moved_of}
use Rattle.th_answer.proofs.moving.all_moved.Given as goal

abbrev pub invariant-loop-place : goal.invariant-loop-place
invariant-loop-place l =
    (after : List Corrected) → AllZip (IsListed l.network l.limit) after l.corrected → l.moved.items ≡ map (moved_of l.limit (at_points_of l.network l.low) after) (take l.place (points_of l.network))
