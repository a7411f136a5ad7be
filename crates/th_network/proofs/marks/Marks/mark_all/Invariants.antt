use Rattle.th_network.proofs.MarkLemmas.{AreMarkedTo}
use Rattle.th_network.proofs.marks.Marks.mark_all.Given as goal

abbrev pub invariant-loop-place : goal.invariant-loop-place
invariant-loop-place l = AreMarkedTo l.places l.place-index l.initial.self.marked.items l.initial.self.waiting.items l.self.marked.items l.self.waiting.items
