use Rattle.std.specs.Vec.Iter.{into_iter_items}
use Rattle.th_files.proofs.OutputLemmas.{taken_next}
use Rattle.th_files.proofs.outputs.+close_rest.Goals as goal

pub returns-in-Some-clause-taken : goal.returns-in-Some-clause-taken
returns-in-Some-clause-taken g t c =
    taken_next g.F.Out.Sink.state g.F.Folder.tells g.F.Folder.held g.F.Folder.has_failed (into_iter_items c.args.rest) c.in-Some.sink _ c.args.folder.now c.close.new.self
    c.close_rest.new.folder c.in-Some.ensures.cases.0 c.requires c.close.ensures.closed c.close_rest.ensures.taken c.close_rest.ensures.others
