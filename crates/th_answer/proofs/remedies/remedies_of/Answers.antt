use Rattle.th_answer.specs.Remedies.{remedy_of}
use Rattle.th_answer.proofs.ListLemmas.{found_next}
use Rattle.th_answer.proofs.remedies.remedies_of.Goals as goal

pub loop-row-preserved : goal.loop-row-preserved
loop-row-preserved c =
    found_next (remedy_of c.args.entries.now) c.args.rows.now c.loop-row.remedies.items c.add_remedy.new.remedies.items c.loop-row.row-index c.row-item.result c.remedy_of.result c.loop-row-test.true c.row-item.is c.remedy_of.ensures
    c.in_ok-add_remedy.ensures c.loop-row.invariant
