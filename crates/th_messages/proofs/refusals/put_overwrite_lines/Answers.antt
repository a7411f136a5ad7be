use Rattle.std.proofs.Common.{◌*◌, arith}
use Rattle.th_messages.proofs.LineLemmas.{put_then}
use Rattle.th_messages.specs.Lines.{part_calls}
use Rattle.th_messages.proofs.refusals.put_overwrite_lines.Goals as goal

pub returns : goal.returns
returns g c =
    let broken = put_then _ _ _ _ (13 * part_calls) _ _ _ _ _ (rw c.in_ok-put_overwrite_text.was at c.put_overwrite_text.ensures) (rw c.in_ok-put.was at c.put.ensures) (omega arith) in
    put_then _ _ _ _ _ _ _ _ _ _ broken (rw c.overwrite_help.ensures at c.put-2.ensures) (omega arith)
