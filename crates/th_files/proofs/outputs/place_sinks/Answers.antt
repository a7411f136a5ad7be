use Rattle.th_files.proofs.OutputLemmas.{whole_files}
use Rattle.th_files.proofs.outputs.place_sinks.Goals as goal

pub place_all-placed-requires : goal.place_all-placed-requires
place_all-placed-requires g c = whole_files g.F.Out.Sink.state c.args.sinks.items c.requires.files (rw c.in_default.is at c.requires.finished)
