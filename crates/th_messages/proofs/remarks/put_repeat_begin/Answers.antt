use Rattle.std.proofs.Common.{◌*◌, arith}
use Rattle.th_messages.proofs.LineLemmas.{put_then}
use Rattle.th_messages.specs.Lines.{part_calls}
use Rattle.th_messages.proofs.remarks.put_repeat_begin.Goals as goal

pub returns : goal.returns
returns g c =
    let from_put-2 = put_then _ _ _ _ (2 * part_calls) _ _ _ _ _ (rw c.in_ok-put-2.was at c.put-2.ensures) c.put_number-2.ensures (omega arith) in
    let from_put_number = put_then _ _ _ _ (3 * part_calls) _ _ _ _ _ (rw c.in_ok-put_number.was at c.put_number.ensures) from_put-2 (omega arith) in
    put_then _ _ _ _ _ _ _ _ _ _ (rw c.in_ok-put.was at c.put.ensures) from_put_number (omega arith)
