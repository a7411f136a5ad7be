use Rattle.std.proofs.Common.{arith}
use Rattle.th_messages.proofs.LineLemmas.{put_then}
use Rattle.th_messages.proofs.faults.put_block_fault.Goals as goal

pub returns-in_ok-put-in-BadSeparator : goal.returns-in_ok-put-in-BadSeparator
returns-in_ok-put-in-BadSeparator g c =
    let said = c.beginning-in-BadSeparator.ensures in
    rw c.in-BadSeparator.is (put_then _ _ _ _ _ _ _ _ _ _ (rw said at (rw c.in_ok-put-in-BadSeparator.was at c.put-in-BadSeparator.ensures)) c.put_number-in-BadSeparator.ensures (omega arith))
