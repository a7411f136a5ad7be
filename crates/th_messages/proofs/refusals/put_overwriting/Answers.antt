use Rattle.std.proofs.Common.{◌*◌, arith}
use Rattle.th_messages.proofs.LineLemmas.{put_then}
use Rattle.th_messages.specs.Lines.{part_calls}
use Rattle.th_messages.proofs.refusals.put_overwriting.Goals as goal

pub returns : goal.returns
returns g c =
    let named = put_then _ _ _ _ (2 * part_calls) _ _ _ _ _ (rw c.in_ok-put.was at c.put.ensures) (rw c.in_ok-put_shown.was at c.put_shown.ensures) (omega arith) in
    put_then _ _ _ _ _ _ _ _ _ _ named c.put-2.ensures (omega arith)
