use Rattle.std.proofs.Common.{◌*◌, arith}
use Rattle.th_messages.proofs.LineLemmas.{put_then}
use Rattle.th_messages.specs.Lines.{part_calls}
use Rattle.th_messages.proofs.remarks.put_alike.Goals as goal

pub returns : goal.returns
returns g c =
    let from_put_point-2 = put_then _ _ _ _ (8 * part_calls) _ _ _ _ _ (rw c.in_ok-put_point-2.was at c.put_point-2.ensures) c.put-3.ensures (omega arith) in
    let from_put-2 = put_then _ _ _ _ (9 * part_calls) _ _ _ _ _ (rw c.in_ok-put-2.was at c.put-2.ensures) from_put_point-2 (omega arith) in
    let from_put_point = put_then _ _ _ _ (16 * part_calls) _ _ _ _ _ (rw c.in_ok-put_point.was at c.put_point.ensures) from_put-2 (omega arith) in
    put_then _ _ _ _ _ _ _ _ _ _ (rw c.in_ok-put.was at c.put.ensures) from_put_point (omega arith)
