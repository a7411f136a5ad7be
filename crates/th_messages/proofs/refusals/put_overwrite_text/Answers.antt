use Rattle.std.proofs.Common.{◌*◌, arith}
use Rattle.th_messages.proofs.LineLemmas.{put_then}
use Rattle.th_messages.specs.Lines.{part_calls}
use Rattle.th_messages.proofs.refusals.put_overwrite_text.Goals as goal

pub returns : goal.returns
returns g c =
    let begun = rw c.as_str.ensures.value at c.put_overwriting.ensures in
    let named = put_then _ _ _ _ (6 * part_calls) _ _ _ _ _ (rw c.in_ok-put_overwriting.was at begun) (rw c.in_ok-put_input.was at c.put_input.ensures) (omega arith) in
    let spaced = put_then _ _ _ _ (7 * part_calls) _ _ _ _ _ named (rw c.in_ok-put.was at c.put.ensures) (omega arith) in
    put_then _ _ _ _ _ _ _ _ _ _ spaced c.put_shown.ensures (omega arith)
