use Rattle.th_cuts.specs.Inside.Paths.{IsPath}
use Rattle.th_cuts.proofs.paths.Path.find.Given as goal

abbrev pub invariant-diving : goal.invariant-diving
invariant-diving l = IsPath l.flow.drain.graph.now.edges.items l.flow.flows.items l.flow.drain.source l.guide.ahead.levels.items l.self.steps.items
