use Rattle.std.proofs.Common.{arith}
use Rattle.th_messages.proofs.LineLemmas.{put_then}
use Rattle.th_messages.proofs.refusals.put_unfit.Goals as goal

pub returns : goal.returns
returns g c = put_then _ _ _ _ _ _ _ _ _ _ (rw c.in_ok-put.was at c.put.ensures) c.put_row_fault.ensures (omega arith)
