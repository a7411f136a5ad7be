use Rattle.std.proofs.Common.{◌*◌, arith}
use Rattle.th_entries.specs.Sights.{no_sight_text}
use Rattle.th_messages.proofs.LineLemmas.{put_then}
use Rattle.th_messages.specs.Lines.{part_calls}
use Rattle.th_messages.proofs.notes.put_text.Goals as goal

pub returns : goal.returns
unfolding no_sight_text
returns g c =
    let to_put_number = put_then _ _ _ _ (2 * part_calls) _ _ _ _ _ (rw c.in_ok-put.was at c.put.ensures) (rw c.in_ok-put_number.was at c.put_number.ensures) (omega arith) in
    let to_put-2 = put_then _ _ _ _ (3 * part_calls) _ _ _ _ _ to_put_number (rw c.in_ok-put-2.was at c.put-2.ensures) (omega arith) in
    let to_put_number-2 = put_then _ _ _ _ (4 * part_calls) _ _ _ _ _ to_put-2 (rw c.in_ok-put_number-2.was at c.put_number-2.ensures) (omega arith) in
    let to_put-3 = put_then _ _ _ _ (5 * part_calls) _ _ _ _ _ to_put_number-2 (rw (c.in_ok-put-3.was, c.blocks_end.ensures) at c.put-3.ensures) (omega arith) in
    let to_put_words = put_then _ _ _ _ (35 * part_calls) _ _ _ _ _ to_put-3 (rw (c.in_ok-put_words.was, c.as_slice.ensures.value, c.numbers.ensures.numbers) at c.put_words.ensures) (omega arith) in
    put_then _ _ _ _ _ _ _ _ _ _ to_put_words c.put-4.ensures (omega arith)
