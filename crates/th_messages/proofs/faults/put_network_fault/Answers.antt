use Rattle.std.proofs.Common.{ap, ◌∙◌, arith}
use Rattle.th_messages.proofs.LineLemmas.{put_then}
use Rattle.th_network.specs.Texts.{fault_beginning}
use Rattle.th_messages.proofs.faults.put_network_fault.Goals as goal

pub returns-in_ok-put-in-NoBenchmark : goal.returns-in_ok-put-in-NoBenchmark
returns-in_ok-put-in-NoBenchmark g c =
    let said = c.beginning.ensures ∙ ap fault_beginning c.in-NoBenchmark.is in
    rw c.in-NoBenchmark.is (put_then _ _ _ _ _ _ _ _ _ _ (rw said at (rw c.in_ok-put-in-NoBenchmark.was at c.put.ensures)) c.put_name.ensures (omega arith))
