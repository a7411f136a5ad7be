use Rattle.std.proofs.Common.{◌++◌}
use Rattle.std.specs.List.{flat_map}
use Rattle.th_numbers.specs.Lists.{forgotten_at}
use Rattle.th_numbers.proofs.ListLemmas.{flat_next}
use Rattle.th_numbers.proofs.entered.add_among.Goals as goal

pub loop-entry-preserved : goal.loop-entry-preserved
loop-entry-preserved c =
    flat_next (forgotten_at c.args.runs.now.observations.now c.args.kind c.args.o.now) c.args.entries.now c.loop-entry.entry-index c.entry-item.result c.loop-entry.candidates.items c.add_if_forgotten.new.candidates.items
    (c.args.candidates.now.items ++ flat_map (forgotten_at c.args.runs.now.observations.now c.args.kind c.args.o.now) c.args.entries.now) c.loop-entry-test.true c.entry-item.is c.in_ok-add_if_forgotten.ensures c.loop-entry.invariant
